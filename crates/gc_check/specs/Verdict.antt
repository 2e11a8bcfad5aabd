-- The checker's answer, and its line.
use Rattle.std.specs.Prelude.{◌≡◌, ℕ, List, [], ◌∷◌, ◌++◌, length, map, Option, Some, None, ⊤, codes}
use Rattle.std.specs.Option.{option_map_or}
use Rattle.std.specs.Fmt.{decimal}
use Rattle.gc_text.specs.Lines.{line}
use Rattle.gc_words.specs.Image.{Image}
use Rattle.gc_words.specs.Fault.{first_fault}
use Rattle.gc_words.specs.Views.{addresses}
use Rattle.gc_words.specs.declared.image.Pair.{Pair}
use Rattle.gc_words.specs.declared.refusal.Refusal.{Refusal}
use Rattle.gc_words.specs.declared.refusal.Refusal.TheVariants.{OldShape, NewShape, RootCount, OldNotStart, NewNotStart, NotRising, Twice, HeaderDiffers, FieldDiffers, RootDiffers}
use Rattle.gc_check.specs.declared.verdict.CheckFault.{CheckFault}
use Rattle.gc_check.specs.declared.verdict.CheckFault.TheVariants as fault
use Rattle.gc_check.specs.declared.verdict.Verdict.{Verdict}
use Rattle.gc_check.specs.declared.verdict.Verdict.TheVariants as verdict

-- the pairs of a certificate, as (old address, new address)
abbrev pub pairs_of : List Pair → List (ℕ × ℕ)
pairs_of cert = map addresses cert

-- the fault is this refusal, or `NoMemory`, which may replace any answer
abbrev pub IsRefusalOf : Option Refusal → CheckFault → Type 0
IsRefusalOf first (fault.Refused refusal) = first ≡ Some refusal
IsRefusalOf first fault.NoMemory = ⊤

-- yes with the number of pairs, or the first fault
abbrev pub verdict_of : Image → Image → List (ℕ × ℕ) → Verdict
verdict_of old new pairs = option_map_or verdict.Refused (first_fault old new pairs) (verdict.Yes (length pairs))

-- a refusal's number, its name, the place that it names, and the field
unfoldable pub refusal_parts : Refusal → ℕ × List ℕ × Option ℕ × Option ℕ
refusal_parts (OldShape at) = (1, codes "OldShape", Some at, None)
refusal_parts (NewShape at) = (2, codes "NewShape", Some at, None)
refusal_parts RootCount = (3, codes "RootCount", None, None)
refusal_parts (OldNotStart k) = (4, codes "OldNotStart", Some k, None)
refusal_parts (NewNotStart k) = (5, codes "NewNotStart", Some k, None)
refusal_parts (NotRising k) = (6, codes "NotRising", Some k, None)
refusal_parts (Twice k) = (7, codes "Twice", Some k, None)
refusal_parts (HeaderDiffers k) = (8, codes "HeaderDiffers", Some k, None)
refusal_parts (FieldDiffers k i) = (9, codes "FieldDiffers", Some k, Some i)
refusal_parts (RootDiffers slot) = (10, codes "RootDiffers", Some slot, None)

-- the word for a place, if there is one
abbrev pub place_words : Option ℕ → List (List ℕ)
place_words place = option_map_or (λ n. decimal n ∷ []) place []

unfoldable pub refusal_words : Refusal → List (List ℕ)
refusal_words refusal = let parts = refusal_parts refusal in decimal parts.0 ∷ parts.1 ∷ (place_words parts.2 ++ place_words parts.3)

unfoldable pub verdict_words : Verdict → List (List ℕ)
verdict_words (verdict.Yes pairs) = codes "yes" ∷ decimal pairs ∷ []
verdict_words (verdict.Refused refusal) = codes "refused" ∷ refusal_words refusal

-- the line of a verdict, with its line feed
abbrev pub verdict_line : Verdict → List ℕ
verdict_line verdict = line (verdict_words verdict)
