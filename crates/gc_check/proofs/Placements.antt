-- What follows if the images and the addresses of the pairs have no fault.
use Rattle.std.proofs.lemmas.Grind.{common_steps}
use Rattle.std.proofs.Common.{◌≡◌, ℕ, zero, suc, ◌<◌, true, false, cond, ap, ◌==◌, List, [], ◌∷◌, length, get_or, take, Some, None, refl, subst, arith, sym, ◌∙◌}
use Rattle.std.specs.Prelude.{IsOk}
use Rattle.std.specs.Option.{option_map}
use Rattle.std.proofs.lemmas.Bool.{eqb-true, eq-eqb, not-false}
use Rattle.std.proofs.lemmas.List.{get_or-map, length-map}
use Rattle.gc_words.specs.Word.{words_correspond, field_words_correspond}
use Rattle.gc_words.specs.declared.header.Header.{Header}
use Rattle.gc_words.specs.Image.{Image, IsShaped, walk_words, is_start}
use Rattle.gc_words.specs.Views.{addresses}
use Rattle.gc_words.specs.Fault.{shape_fault, first_over_pairs, place_fault, place_faults, table_fault, first_difference}
use Rattle.gc_words.specs.declared.image.Pair.{Pair}
use Rattle.gc_words.specs.declared.refusal.Refusal.TheVariants.{OldShape, NewShape}
use Rattle.gc_words.proofs.Public.{shaped, or_none, when_none, at_place_none, same_walk}
use Rattle.gc_check.specs.Verdict.{pairs_of, IsRefusalOf}
use Rattle.gc_check.specs.declared.verdict.CheckFault.{CheckFault}

pub record Fits (old new : Image) : Type 0 where
  pub old_shaped : IsShaped old
  pub new_shaped : IsShaped new
  pub roots : length old.roots ≡ length new.roots

-- the walk that accepts all headers reaches the end, even if those of raw objects do not count
pub walks : (image : Image) → IsShaped image → IsOk (walk_words image.words)
walks image shape = subst IsOk (same_walk image.raws image.words shape.walked) shape.walked

pub table_parts : (old new : Image) (pairs : List (ℕ × ℕ)) → table_fault old new pairs ≡ None → Fits old new × (place_faults old new pairs ≡ None)
table_parts old new pairs e = grind (arith, common_steps, or_none, shaped, at_place_none, eqb-true, not-false, when_none)

-- ---- pairs join starts

abbrev pub JoinsStarts : Image → Image → ℕ × ℕ → Type 0
JoinsStarts old new p = (is_start old.words p.0 ≡ true) × (is_start new.words p.1 ≡ true)

joins : (old new : Image) (before : List (ℕ × ℕ)) (k : ℕ) (p : ℕ × ℕ) → place_fault old new before k p ≡ None → JoinsStarts old new p
joins old new before k p e = grind (arith, common_steps, or_none, not-false, when_none)

pub all_join : (old new : Image) (all rest : List (ℕ × ℕ)) (k j : ℕ) (d : ℕ × ℕ) → first_over_pairs (λ k. place_fault old new (take k all) k) k rest ≡ None → j < length rest → JoinsStarts old new (get_or rest j d)
all_join old new all [] k j d e inside = absurd (omega arith)
all_join old new all (p ∷ rest) k zero d e inside = joins old new (take k all) k p (or_none _ _ e).0
all_join old new all (p ∷ rest) k (suc j) d e inside = all_join old new all rest (suc k) j d (or_none _ _ e).1 (omega arith)

pub pair_joins : (old new : Image) (cert : List Pair) (k : ℕ) (d : Pair) → table_fault old new (pairs_of cert) ≡ None → k < length (pairs_of cert) → JoinsStarts old new (addresses (get_or cert k d))
pair_joins old new cert k d e inside =
    let parts : Fits old new × (place_faults old new (pairs_of cert) ≡ None) = table_parts old new (pairs_of cert) e in
    subst (JoinsStarts old new) (get_or-map addresses cert k d (0, 0) (omega (arith, length-map cert addresses))) (all_join old new (pairs_of cert) (pairs_of cert) 0 k (0, 0) parts.1 inside)

-- ---- raw fields are compared as words, and others as values

pub raw_alike : (h : Header) (pairs : List (ℕ × ℕ)) (old new : List ℕ) → h.raw ≡ true → first_difference (λ v w. v == w) 0 old new ≡ first_difference (field_words_correspond h pairs) 0 old new
raw_alike h pairs old new e = ap (λ b. first_difference (λ v w. cond b (v == w) (words_correspond pairs v w)) 0 old new) (sym e)

pub value_alike : (h : Header) (pairs : List (ℕ × ℕ)) (old new : List ℕ) → h.raw ≡ false → first_difference (words_correspond pairs) 0 old new ≡ first_difference (field_words_correspond h pairs) 0 old new
value_alike h pairs old new e = ap (λ b. first_difference (λ v w. cond b (v == w) (words_correspond pairs v w)) 0 old new) (sym e)

pub none_unequal : (i : ℕ) (ws : List ℕ) → None ≡ first_difference (λ v w. v == w) i ws ws
none_unequal i [] = refl
none_unequal i (w ∷ ws) = none_unequal (suc i) ws ∙ sym (ap (λ t. cond t (first_difference (λ v w. v == w) (suc i) ws ws) (Some i)) (eq-eqb w w refl))

-- ---- an image that is not shaped is the first fault

pub old_refused : (old new : Image) (pairs : List (ℕ × ℕ)) (f : CheckFault) → IsRefusalOf (option_map (λ at. OldShape at) (shape_fault old)) f → IsRefusalOf (table_fault old new pairs) f
old_refused old new pairs f is = grind (arith, common_steps)

pub new_refused : (old new : Image) (pairs : List (ℕ × ℕ)) (f : CheckFault) → shape_fault old ≡ None → IsRefusalOf (option_map (λ at. NewShape at) (shape_fault new)) f → IsRefusalOf (table_fault old new pairs) f
new_refused old new pairs f none is = grind (arith, common_steps)
