-- Openings, their seats, and the receipt that a call adds to a seat.
use Rattle.std.specs.Prelude.{◌≡◌, ℕ, ◌+◌, ◌≤◌, Bool, nat_lt, List, [], ◌∷◌, ◌++◌, length, ⊤}
use Rattle.gc_graph.specs.Limits.{most_words}
use Rattle.gc_model.specs.declared.step.Step.{Step}
use Rattle.gc_model.specs.declared.step.Step.TheVariants.{BeginSized, Apply}
use Rattle.gc_model.specs.declared.event.Event.{Event}
use Rattle.gc_model.specs.declared.event.Answer.{Answer}
use Rattle.gc_world.specs.declared.entry.Entry.{Entry}
use Rattle.gc_world.specs.History.{IsHistory}
use Rattle.gc_world.specs.World.{entry_of}
use Rattle.gc_shared.specs.declared.seat.Receipt.{Receipt}

-- the sizes that a `Shared` was opened with
pub record Opening : Type 0 where
  pub size : ℕ
  pub mutators : ℕ
  pub collectors : ℕ

abbrev pub opened_with : ℕ → ℕ → ℕ → Opening
opened_with size mutators collectors = record { size = size; mutators = mutators; collectors = collectors }

abbrev pub count_of_seats : Opening → ℕ
count_of_seats o = o.mutators + o.collectors

-- a `Seat` as contracts see it
pub record SeatValue : Type 0 where
  pub number : ℕ
  pub is_mutator : Bool
  pub receipts : List Receipt

-- the seat with this number that an opening with this many mutators returns
abbrev pub fresh : ℕ → ℕ → SeatValue
fresh mutators n = record { number = n; is_mutator = nat_lt n mutators; receipts = [] }

-- `place` is the event's place in the history: the number of events before it
abbrev pub receipt : ℕ → Event → Answer → Receipt
receipt place event answer = record { place = place; entry = entry_of event answer }

-- A world of this size and number of mutators can give this receipt. The world has a history whose length is the
-- receipt's place, and in its state the event gets this answer. So the history with the receipt's entry is a history too.
abbrev pub IsPossibleIn : ℕ → ℕ → Receipt → Type 0
IsPossibleIn size mutators r = (earlier : List Entry) × (length earlier ≡ r.place) × IsHistory size mutators (earlier ++ r.entry ∷ [])

-- some world can give this receipt
abbrev pub IsPossible : Receipt → Type 0
IsPossible r = (size : ℕ) × (mutators : ℕ) × IsPossibleIn size mutators r

-- the seat has one more receipt, with this event and answer, and it is one that `Can` admits
pub record AddsReceipt (Can : Receipt → Type 0) (before after : SeatValue) (event : Event) (answer : Answer) : Type 0 where
  pub place : ℕ
  pub added : after ≡ record before { receipts = before.receipts ++ receipt place event answer ∷ [] }
  pub possible : Can (receipt place event answer)

-- ---- steps

-- the size of a step, if it has one, is one that a space can have
abbrev pub HasSize : Step → Type 0
HasSize (BeginSized size) = (1 ≤ size) × (size ≤ most_words)
HasSize step = ⊤

abbrev pub IsApply : Step → Type 0
IsApply (Apply k) = ⊤
IsApply step = ⊥
