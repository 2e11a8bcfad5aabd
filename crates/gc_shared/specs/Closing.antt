-- The result of closing a world. Seats are compared by number, and the receipts of each seat in order.
use Rattle.std.specs.Prelude.{◌≡◌, ℕ, zero, suc, ◌+◌, ◌<◌, ◌≤◌, ◌==◌, ⊤, List, [], ◌∷◌, ◌++◌, length, take, count_by}
use Rattle.std.specs.List.{find}
use Rattle.std.specs.Option.{option_map_or}
use Rattle.gc_world.specs.declared.entry.Entry.{Entry}
use Rattle.gc_world.specs.World.{Past}
use Rattle.gc_shared.specs.declared.seat.Receipt.{Receipt}
use Rattle.gc_shared.specs.declared.fault.CloseKind.{CloseKind}
use Rattle.gc_shared.specs.declared.fault.CloseKind.TheVariants.{Seats, Torn, Extra, NoMemory}
use Rattle.gc_shared.specs.Seats.{SeatValue, Opening, count_of_seats}
use Rattle.gc_shared.specs.Receipts.{IsRecorded, times_at, ReceiptsAgree}

-- ---- seats by number

-- the receipts of the seat with this number
abbrev pub receipts_of : List SeatValue → ℕ → List Receipt
receipts_of seats n = option_map_or (λ seat. seat.receipts) (find (λ seat. seat.number == n) seats) []

-- the receipts of all seats with lower numbers, seat by seat
abbrev pub receipts_below : List SeatValue → ℕ → List Receipt
receipts_below seats zero = []
receipts_below seats (suc n) = receipts_below seats n ++ receipts_of seats n

-- each seat number of the opening occurs once, and the world has the opening's size and number of mutators
pub record IsSeated (o : Opening) (w : Past) (seats : List SeatValue) : Type 0 where
  pub size : w.size ≡ o.size
  pub mutators : w.mutators ≡ o.mutators
  pub count : length seats ≡ count_of_seats o
  pub once : (n : ℕ) → n < count_of_seats o → count_by (λ seat. seat.number == n) seats ≡ 1

-- ---- receipts in order

-- A receipt stands if the history has its event and answer at its place. The place must be at least `low`, and no
-- receipt of the earlier seats may have it.
abbrev pub Stands : List Entry → List Receipt → ℕ → Receipt → Type 0
Stands history earlier low r = IsRecorded history r × (low ≤ r.place) × (times_at r.place earlier ≡ 0)

-- each receipt of a seat stands, and its place is above that of the receipt before it
abbrev pub AllStand : List Entry → List Receipt → ℕ → List Receipt → Type 0
AllStand history earlier low [] = ⊤
AllStand history earlier low (r ∷ rs) = Stands history earlier low r × AllStand history earlier (r.place + 1) rs

-- all receipts of the seats below `count` stand
abbrev pub SeatsStand : List Entry → List SeatValue → ℕ → Type 0
SeatsStand history seats count = (n : ℕ) → n < count → AllStand history (receipts_below seats n) 0 (receipts_of seats n)

-- receipt n is the first one that does not stand
abbrev pub IsFirstTorn : List Entry → List Receipt → List Receipt → ℕ → Type 0
IsFirstTorn history earlier rs n = AllStand history earlier 0 (take n rs) × ¬ AllStand history earlier 0 (take (n + 1) rs)

-- ---- answers

-- what `close` ensures on `Ok`
abbrev pub IsWhole : Opening → Past → List SeatValue → Type 0
IsWhole o w seats = IsSeated o w seats × ReceiptsAgree w.entries seats

-- receipt n of this seat is the first one that does not stand, going through the seats by number
pub record IsTorn (history : List Entry) (seats : List SeatValue) (count seat n : ℕ) : Type 0 where
  pub within : seat < count
  pub before : SeatsStand history seats seat
  pub first : IsFirstTorn history (receipts_below seats seat) (receipts_of seats seat) n

-- all receipts stand, but the history has more events than there are receipts
abbrev pub IsExtra : List Entry → List SeatValue → ℕ → Type 0
IsExtra history seats count = SeatsStand history seats count × (length (receipts_below seats count) < length history)

-- the first fault that comparing the given seats with the returned world finds
abbrev pub IsFirstCloseFault : Opening → Past → List SeatValue → CloseKind → Type 0
IsFirstCloseFault o w seats Seats = IsSeated o w seats → ⊥
IsFirstCloseFault o w seats (Torn seat n) = IsSeated o w seats × IsTorn w.entries seats (count_of_seats o) seat n
IsFirstCloseFault o w seats Extra = IsSeated o w seats × IsExtra w.entries seats (count_of_seats o)
IsFirstCloseFault o w seats NoMemory = IsSeated o w seats
