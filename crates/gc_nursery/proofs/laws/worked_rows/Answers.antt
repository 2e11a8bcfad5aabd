-- The worked examples hold: the prover computes them.
use Rattle.std.proofs.Common.{◌≡◌, [], ◌∷◌, refl, false, true, arith}
use Rattle.std.proofs.lemmas.List.Elements.{All-nil}
use Rattle.gc_nursery.proofs.laws.worked_rows.Goals as goal

pub returns : goal.returns
returns c = record { old = refl; base_is_young = refl; number_is_not_old = refl; nil_is_not_old = refl; young = refl; old_is_not_young = refl; number_is_not_young = refl; same_old = refl; other_old = refl; young_without_a_pair = refl; young_with_a_pair = refl; young_over_nil = refl; young_over_old = refl; young_over_young = refl; old_over_young = refl; encoded_nil = refl; encoded_number = refl; encoded_old = refl; encoded_young = refl; rebased_pair = refl; image = refl; forgotten_is_certified = record { old_walked = refl; new_walked = refl; objects = All-nil _; rising = λ i j d l h. absurd (omega arith); once = λ i j d l h. absurd (omega arith); roots = (refl, tt) }; forgotten_is_not_replicated = λ holds. let same : false ≡ true = holds.paths 0 (0 ∷ []) in cc }
