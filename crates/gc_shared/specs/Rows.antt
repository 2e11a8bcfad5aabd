-- Worked examples: what the definitions say about a history of four events.
use Rattle.std.specs.Prelude.{◌≡◌, ℕ, true, false, List, [], ◌∷◌}
use Rattle.gc_graph.specs.Slots.{SlotName, own_slot}
use Rattle.gc_graph.specs.declared.command.Op.TheVariants.{Nil, Look}
use Rattle.gc_graph.specs.declared.reply.Reply.TheVariants.{Done, Saw}
use Rattle.gc_graph.specs.declared.reply.View.TheVariants as views
use Rattle.gc_model.specs.declared.step.Step.TheVariants.{Begin}
use Rattle.gc_model.specs.declared.step.StepReply.TheVariants.{Begun}
use Rattle.gc_world.specs.declared.entry.Entry.{Entry}
use Rattle.gc_model.specs.declared.event.Event.TheVariants.{Mutate, Collect}
use Rattle.gc_model.specs.declared.event.Answer.TheVariants.{Mutator, Useful}
use Rattle.gc_world.specs.World.{entry_of}
use Rattle.gc_shared.specs.declared.seat.Receipt.{Receipt}
use Rattle.gc_shared.specs.Seats.{SeatValue, receipt}
use Rattle.gc_shared.specs.Receipts.{ReceiptsAgree}
use Rattle.gc_shared.specs.Closing.{IsTorn, IsExtra}
use Rattle.gc_model.specs.Runs.{commands_of}
use Rattle.gc_world.specs.History.{events_of}
use Rattle.gc_shared.specs.Scripts.{steps_of}

abbrev pub r0 : SlotName
r0 = own_slot 0

abbrev pub history : List Entry
history =
    entry_of (Mutate 0 (Nil r0)) (Mutator Done)
    ∷ entry_of (Collect Begin) (Useful Begun)
    ∷ entry_of (Mutate 1 (Nil r0)) (Mutator Done)
    ∷ entry_of (Mutate 0 (Look r0)) (Mutator (Saw views.Nil))
    ∷ []

-- mutator 0's two receipts, with a place to be given
abbrev pub cleared : ℕ → Receipt
cleared place = receipt place (Mutate 0 (Nil r0)) (Mutator Done)

abbrev pub looked : ℕ → Receipt
looked place = receipt place (Mutate 0 (Look r0)) (Mutator (Saw views.Nil))

abbrev pub first_with : List Receipt → SeatValue
first_with receipts = record { number = 0; is_mutator = true; receipts = receipts }

-- the three seats, with the receipts that fit the history
abbrev pub first : SeatValue
first = first_with (cleared 0 ∷ looked 3 ∷ [])

abbrev pub second : SeatValue
second = record { number = 1; is_mutator = true; receipts = receipt 2 (Mutate 1 (Nil r0)) (Mutator Done) ∷ [] }

abbrev pub collector : SeatValue
collector = record { number = 2; is_mutator = false; receipts = receipt 1 (Collect Begin) (Useful Begun) ∷ [] }

pub record Rows : Type 0 where
  -- the receipts of the three seats agree, in whichever order they are given
  pub agree : ReceiptsAgree history (collector ∷ first ∷ second ∷ [])
  -- they do not agree if a place has no receipt, or two
  pub left_out : ReceiptsAgree history (first ∷ second ∷ []) → ⊥
  pub twice : ReceiptsAgree history (first ∷ second ∷ collector ∷ collector ∷ []) → ⊥
  -- a receipt is torn if it comes from another opening, or if its place is below that of the receipt before it
  pub stranger : IsTorn [] (first_with (cleared 0 ∷ []) ∷ []) 1 0 0
  pub falling : IsTorn history (first_with (looked 3 ∷ cleared 0 ∷ []) ∷ []) 1 0 1
  -- events without receipts
  pub extra : IsExtra history (first ∷ []) 1
  pub commands : commands_of 0 (events_of history) ≡ Nil r0 ∷ Look r0 ∷ []
  pub steps : steps_of history ≡ entry_of (Collect Begin) (Useful Begun) ∷ []
