-- Which seats know what was seen, after a step.
use Rattle.std.proofs.Common.{◌≡◌, ℕ, true, List, set, sym, ◌∙◌}
use mathlib.Core.Option.{some}
use lib.ListN.{get_elem?}
use Rattle.gc_concurrent.specs.Ends.{Known, Mine, Theirs}
use Rattle.gc_concurrent.specs.Internal.Rule.{AreSeated, AreShown}
use Rattle.gc_concurrent.proofs.Hands.{seat_set}

-- a step that sees nothing
pub shown_set : (seen : List ℕ) (views : List Known) (id : ℕ) (w : Known) → (w.copies ≡ true → w.seen ≡ seen) → AreShown seen views → AreShown seen (set views id w)
shown_set seen views id w here h = seat_set (λ j v. v.copies ≡ true → v.seen ≡ seen) views id w here (λ j u other e. h j u e)

-- a step of the seat that copies
pub shown_anew : (seen : List ℕ) (writer copier id : ℕ) (mine : Mine) (theirs : Theirs) (views : List Known) (v w : Known) → get_elem? views id ≡ some v → v.copies ≡ true → w.seen ≡ seen
    → AreSeated writer copier mine theirs views → AreShown seen (set views id w)
shown_anew seen writer copier id mine theirs views v w here copies is h = seat_set (λ j v. v.copies ≡ true → v.seen ≡ seen) views id w (λ _. is)
    (λ j u other e p. absurd (other (((h j u e).1 p).0 ∙ sym ((h id v here).1 copies).0)))
