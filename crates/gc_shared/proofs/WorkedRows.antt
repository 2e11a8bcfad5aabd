-- The worked examples hold.
use Rattle.std.proofs.lemmas.Grind.{common_steps}
use Rattle.std.proofs.Common.{◌≡◌, ℕ, ◌<◌, [], ◌∷◌, refl, arith, All}
use Rattle.std.specs.List.{flat_map}
use Rattle.gc_shared.specs.Seats.{SeatValue}
use Rattle.gc_shared.specs.Receipts.{times_at}
use Rattle.gc_shared.specs.Closing.{AllStand, SeatsStand}
use Rattle.gc_shared.specs.Rows.{Rows, history, first, second, collector}
use Rattle.gc_shared.proofs.ReceiptMarks.{all_recorded, rising}

first_stands : AllStand history [] 0 first.receipts
first_stands = ((refl, omega arith, refl), ((refl, omega arith, refl), tt))

second_stands : AllStand history [] 0 second.receipts
second_stands = ((refl, omega arith, refl), tt)

collector_stands : AllStand history [] 0 collector.receipts
collector_stands = ((refl, omega arith, refl), tt)

-- a fact about each of the three seats holds of all
of_three : (P : SeatValue → Type 0) → P collector → P first → P second → All P (collector ∷ first ∷ second ∷ [])
of_three P c f s h d lt = grind (arith, common_steps)

each_once : (place : ℕ) → place < 4 → times_at place (flat_map (λ seat. seat.receipts) (collector ∷ first ∷ second ∷ [])) ≡ 1
each_once place lt = grind (arith, common_steps)

alone : AllStand history [] 0 first.receipts → SeatsStand history (first ∷ []) 1
alone stands h lt = grind (arith, common_steps)

pub rows : Rows
rows = grind (arith, common_steps, of_three, all_recorded, collector_stands, first_stands, second_stands, rising, each_once, alone)
