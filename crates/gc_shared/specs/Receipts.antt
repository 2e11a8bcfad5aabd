-- Agreement between the receipts of seats and a history.
use Rattle.std.specs.Prelude.{◌≡◌, ℕ, ◌<◌, ◌==◌, List, length, map, All, Some, slice_get, count_by}
use Rattle.std.specs.List.{flat_map}
use Rattle.std.specs.List.Sorted.{IsStrictlyIncreasing}
use Rattle.gc_world.specs.declared.entry.Entry.{Entry}
use Rattle.gc_shared.specs.declared.seat.Receipt.{Receipt}
use Rattle.gc_shared.specs.Seats.{SeatValue}

-- the history has the receipt's entry at the receipt's place
abbrev pub IsRecorded : List Entry → Receipt → Type 0
IsRecorded history r = slice_get history r.place ≡ Some r.entry

-- the number of receipts with this place
abbrev pub times_at : ℕ → List Receipt → ℕ
times_at place rs = count_by (λ r. r.place == place) rs

-- Each receipt has the event and answer that the history has at its place. The places on a seat's receipts rise. Each
-- place of the history is on exactly one receipt of all seats together.
pub record ReceiptsAgree (history : List Entry) (seats : List SeatValue) : Type 0 where
  pub recorded : All (λ seat. All (IsRecorded history) seat.receipts) seats
  pub rising : All (λ seat. IsStrictlyIncreasing (map (λ r. r.place) seat.receipts)) seats
  pub once : (place : ℕ) → place < length history → times_at place (flat_map (λ seat. seat.receipts) seats) ≡ 1
