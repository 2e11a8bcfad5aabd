-- The marks by which closing finds places with no receipt or with more than one.
use Rattle.std.specs.Prelude.{◌≡◌, ℕ, ◌+◌, ◌<◌, ◌≤◌, ◌==◌, Bool, false, if◌then◌else◌, List, [], ◌∷◌, length, map, All, count_by, slice_index_or}
use Rattle.std.specs.List.Sorted.{IsStrictlyIncreasing}
use Rattle.gc_world.specs.declared.entry.Entry.{Entry}
use Rattle.gc_shared.specs.declared.seat.Receipt.{Receipt}
use Rattle.gc_shared.specs.Seats.{SeatValue}
use Rattle.gc_shared.specs.Receipts.{IsRecorded, times_at}
use Rattle.gc_shared.specs.Closing.{receipts_of, receipts_below, IsTorn, IsExtra}
use Rattle.gc_shared.specs.declared.fault.CloseKind.{CloseKind}
use Rattle.gc_shared.specs.declared.fault.CloseKind.TheVariants.{Torn, Extra}

-- each number below `count` belongs to exactly one seat
abbrev pub HasEachOnce : List SeatValue → ℕ → Type 0
HasEachOnce seats count = (n : ℕ) → n < count → count_by (λ seat. seat.number == n) seats ≡ 1

-- one above the place of the last receipt, or `low` if there is none
abbrev pub floor_of : ℕ → List Receipt → ℕ
floor_of low [] = low
floor_of low (r ∷ rs) = floor_of (r.place + 1) rs

-- exactly the places of these receipts are marked, and no two of them have the same place
pub record IsMarked (marks : List Bool) (rs : List Receipt) : Type 0 where
  pub once : (place : ℕ) → place < length marks → times_at place rs ≡ (if slice_index_or marks place false then 1 else 0)
  pub all : count_by (λ mark. mark) marks ≡ length rs

-- the history has the receipt's event and answer at its place, and that place is at least `low` and not marked
pub record IsFree (history : List Entry) (marks : List Bool) (low : ℕ) (r : Receipt) : Type 0 where
  pub recorded : IsRecorded history r
  pub above : low ≤ r.place
  pub free : slice_index_or marks r.place false ≡ false

-- the receipts of the seats with numbers below `count` agree with the history
pub record AgreeByNumber (history : List Entry) (seats : List SeatValue) (count : ℕ) : Type 0 where
  pub recorded : (n : ℕ) → n < count → All (IsRecorded history) (receipts_of seats n)
  pub rising : (n : ℕ) → n < count → IsStrictlyIncreasing (map (λ r. r.place) (receipts_of seats n))
  pub once : (place : ℕ) → place < length history → times_at place (receipts_below seats count) ≡ 1

-- the first fault of the receipts, if each seat number occurs once
abbrev pub IsFault : List Entry → List SeatValue → ℕ → CloseKind → Type 0
IsFault history seats count (Torn seat n) = IsTorn history seats count seat n
IsFault history seats count Extra = IsExtra history seats count
IsFault history seats count fault = ⊥
