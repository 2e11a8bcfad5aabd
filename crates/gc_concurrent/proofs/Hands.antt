-- Seats after a step of one side. A seat may be both sides.
use Rattle.std.proofs.Common.{◌≡◌, ◌≢◌, ℕ, true, List, set, get_or, sym, refl, ◌∙◌, subst, ⊎_elim}
use mathlib.Core.Option.{some}
use lib.ListN.{get_elem?}
use lib.Seq.{set-get_or}
use Rattle.atomic_table.specs.Table.{State, stepped, keeps}
use Rattle.atomic_table.proofs.Lists.{at_set, set_again}
use Rattle.gc_concurrent.specs.Ends.{Known, Mine, Theirs}
use Rattle.gc_concurrent.specs.Internal.Rule.{RootWords, Seated, AreSeated, IsConcurrent}

abbrev pub St : Type 0
St = State RootWords Known

pub seat_set : (F : ℕ → Known → Type 0) (views : List Known) (id : ℕ) (w : Known) → F id w → ((j : ℕ) (u : Known) → j ≢ id → get_elem? views j ≡ some u → F j u)
    → (j : ℕ) (u : Known) → get_elem? (set views id w) j ≡ some u → F j u
seat_set F views id w mine others j u e = ⊎_elim (λ (x : (j ≡ id) × (w ≡ u)). subst (λ (y : ℕ × Known). F y.0 y.1) (λ i. (sym x.0 i, x.1 i)) mine)
    (λ (x : (j ≢ id) × (get_elem? views j ≡ some u)). others j u x.0 x.1) (at_set views id j w u e)

pub seats_mine : (writer copier id : ℕ) (mine mine' : Mine) (theirs : Theirs) (views : List Known) (v : Known) → get_elem? views id ≡ some v → v.writes ≡ true
    → AreSeated writer copier mine theirs views → AreSeated writer copier mine' theirs (set views id (record v { mine = mine' }))
seats_mine writer copier id mine mine' theirs views v here writes h = let own = (h id v here).0 writes in
    seat_set (Seated writer copier mine' theirs) views id (record v { mine = mine' }) ((λ _. (own.0, refl)), (h id v here).1)
    (λ j u other e. ((λ p. absurd (other (((h j u e).0 p).0 ∙ sym own.0))), (h j u e).1))

pub seats_theirs : (writer copier id : ℕ) (mine : Mine) (theirs theirs' : Theirs) (views : List Known) (v : Known) → get_elem? views id ≡ some v → v.copies ≡ true
    → AreSeated writer copier mine theirs views → AreSeated writer copier mine theirs' (set views id (record v { theirs = theirs' }))
seats_theirs writer copier id mine theirs theirs' views v here copies h = let own = (h id v here).1 copies in
    seat_set (Seated writer copier mine theirs') views id (record v { theirs = theirs' }) ((h id v here).0, λ _. (own.0, refl))
    (λ j u other e. ((h j u e).0, λ p. absurd (other (((h j u e).1 p).0 ∙ sym own.0))))

-- a step that changes nothing
pub same : (size : ℕ) (s : St) (k id : ℕ) (c : List (ℕ × RootWords)) (v : Known) → get_elem? s.views id ≡ some v → IsConcurrent size s → IsConcurrent size (stepped s k (get_or s.words k 0) id c v keeps)
same size s k id c v here r = subst (λ (x : List ℕ × List Known). IsConcurrent size (record { words = x.0; homes = s.homes; views = x.1 })) (λ i. (sym (set-get_or s.words k 0) i, sym (set_again s.views id v here) i)) r
