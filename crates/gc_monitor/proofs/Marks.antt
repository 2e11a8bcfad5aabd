-- The marks of a row are starts, whatever happens.
use Rattle.std.proofs.lemmas.Grind.{common_steps}
use Rattle.std.proofs.Common.{◌≡◌, ◌⊎◌, inl, inr, ⊎_elim, ℕ, zero, suc, ◌+◌, ◌<◌, true, List, [], ◌∷◌, ◌++◌, length, set, get_or, take, replicate, is_some, refl, sym, ◌∙◌, ap, subst, arith, length-append}
use Rattle.std.specs.Prelude.{slice_set, IsSome}
use Rattle.std.proofs.lemmas.Bool.{cases_eq}
use Rattle.std.proofs.lemmas.List.{get_or-set_other}
use Rattle.gc_words.specs.Image.{is_start, field_at}
use Rattle.gc_words.specs.Layout.{field_place, link_place}
use Rattle.gc_words.specs.declared.header.Header.{Header}
use Rattle.gc_words.proofs.Public.{some_of}
use Rattle.gc_monitor.specs.Watch.{IsSeen, IsNext}
use Rattle.gc_monitor.specs.Events.{object_codes}
use Rattle.gc_monitor.specs.Telling.{IsMark, MarksAreStarts}
use Rattle.gc_monitor.proofs.RowsAgree.{codes_length}
use Rattle.gc_monitor.proofs.Walked.{still_seen, came}
use Rattle.gc_monitor.proofs.Written.{block_written, block_beside, block_linked, block_there}

pub no_zero : IsMark 0 → ⊥
no_zero h = grind (arith, common_steps)

-- a place of a row that has grown is an early one or a new one
split : (xs ys : List ℕ) (a : ℕ) → ((a < length xs) × (get_or (xs ++ ys) a 0 ≡ get_or xs a 0)) ⊎ ((k : ℕ) × (a ≡ length xs + k) × (get_or (xs ++ ys) a 0 ≡ get_or ys k 0))
split [] ys a = inr (a, omega arith, refl)
split (x ∷ xs) ys zero = inl (omega arith, refl)
split (x ∷ xs) ys (suc a) = grind (arith, common_steps, ⊎_elim, split xs ys a)

same_codes : (n code k : ℕ) → (IsMark code → ⊥) → IsMark (get_or {A = ℕ} (replicate n code) k 0) → ⊥
same_codes zero code k off m = no_zero m
same_codes (suc n) code zero off m = off m
same_codes (suc n) code (suc k) off m = same_codes n code k off m

behind : (n code k : ℕ) → (IsMark code → ⊥) → IsMark (get_or (object_codes n code) (suc k) 0) → ⊥
behind n code k off m = grind (arith, common_steps, no_zero, same_codes)

-- ---- an object more

module _ (codes words : List ℕ) (h : Header) (code : ℕ) (off : IsMark code → ⊥) (seen : IsSeen (length codes) words) (next : IsNext (length codes) words h) (starts : MarksAreStarts codes words) where
  early : (a : ℕ) → is_start (take (length codes) words) a ≡ true → is_start (take (length codes + (h.len + 2)) words) a ≡ true
  early a s = grind (arith, common_steps, some_of, still_seen)

  here : is_start (take (length codes + (h.len + 2)) words) (length codes) ≡ true
  here = ap is_some (came (length codes) words h seen next)

  at_new : (a k : ℕ) → a ≡ length codes + k → IsMark (get_or (object_codes h.len code) k 0) → is_start (take (length codes + (h.len + 2)) words) a ≡ true
  at_new a k e m = grind (arith, common_steps, here, behind)

  pub marks_more : MarksAreStarts (codes ++ object_codes h.len code) words
  marks_more a m = grind (arith, common_steps, length-append, codes_length, early, at_new, split)

-- ---- a code that is no start's

set_here : (xs : List ℕ) (p code : ℕ) → (IsMark code → ⊥) → IsMark (get_or (set xs p code) p 0) → ⊥
set_here [] p code off m = no_zero m
set_here (x ∷ xs) zero code off m = off m
set_here (x ∷ xs) (suc p) code off m = set_here xs p code off m

pub marks_set : (codes words : List ℕ) (place code : ℕ) → (IsMark code → ⊥) → MarksAreStarts codes words → MarksAreStarts (set codes place code) words
marks_set codes words place code off starts a m = grind (arith, common_steps, cases_eq, set_here, get_or-set_other)

-- the mark of a start that was one already
pub marks_taken : (codes words : List ℕ) (place code : ℕ) → is_start (take (length codes) words) place ≡ true → MarksAreStarts codes words → MarksAreStarts (set codes place code) words
marks_taken codes words place code start starts a m = grind (arith, common_steps, cases_eq, get_or-set_other)

-- ---- words written

pub marks_written : (codes words : List ℕ) (a i x : ℕ) → IsSeen (length codes) words → IsSome (field_at (take (length codes) words) a i) → MarksAreStarts codes words → MarksAreStarts codes (slice_set words (field_place a i) x)
marks_written codes words a i x seen some starts c m = elim (cases_eq c a) [
  | inl same ↦ (let b = block_there (length codes) words a i x seen some in
      subst (λ c. is_start (take (length codes) (slice_set words (field_place a i) x)) c ≡ true) (sym same) (ap is_some (block_written (length codes) words a i x seen some b.0 b.1)))
  | inr other ↦ ap is_some (block_beside (length codes) words a i x seen some c (λ e. other (sym e))) ∙ starts c m
]

pub marks_linked : (codes words : List ℕ) (a x : ℕ) → IsSeen (length codes) words → is_start (take (length codes) words) a ≡ true → MarksAreStarts codes words → MarksAreStarts codes (slice_set words (link_place a) x)
marks_linked codes words a x seen start starts c m = ap is_some (block_linked (length codes) words a x seen start c) ∙ starts c m
