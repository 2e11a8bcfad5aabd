-- Worked rows: events in a space of a given size, and their answers.
use Rattle.std.specs.Prelude.{true, ◌≡◌, ℕ, List, [], ◌∷◌, ◌++◌, Option, Some, None}
use Rattle.gc_graph.specs.Slots.{own_slot, shared_slot}
use Rattle.gc_graph.specs.declared.command.Op.{Op}
use Rattle.gc_graph.specs.declared.command.Op.TheVariants as ops
use Rattle.gc_graph.specs.declared.reply.Reply.TheVariants.{Full, Made, Done, NoField, NoNumber, Saw, Yes, No}
use Rattle.gc_graph.specs.declared.reply.View.TheVariants as views
use Rattle.gc_words.specs.Image.{Image}
use Rattle.gc_model.specs.State.{Collection, State, opening_state, pairs_of}
use Rattle.gc_model.specs.Linked.{old_image, new_image}
use Rattle.gc_model.specs.Runs.{answers, state_after}
use Rattle.gc_model.specs.declared.event.Event.{Event}
use Rattle.gc_model.specs.declared.event.Event.TheVariants.{Mutate, Collect}
use Rattle.gc_model.specs.declared.event.Answer.{Answer}
use Rattle.gc_model.specs.declared.event.Answer.TheVariants.{Mutator, Collector}
use Rattle.gc_model.specs.declared.step.Step.TheVariants as steps
use Rattle.gc_model.specs.declared.step.StepReply.TheVariants.{Busy, Begun, Idle, Clean, NoRoom, Copied, Passed, Scanned, Applied, NotReady, Flipped, Dropped}

-- the answers to these events in an empty heap with one mutator, or with two
abbrev pub answers_of_one : ℕ → List Event → List Answer
answers_of_one size events = answers (opening_state size 1) events

abbrev pub answers_of_two : ℕ → List Event → List Answer
answers_of_two size events = answers (opening_state size 2) events

-- a command of the first mutator, and one of the second
abbrev pub first : Op → Event
first op = Mutate 0 op

abbrev pub second : Op → Event
second op = Mutate 1 op

-- the collector's steps
abbrev pub begin : Event
begin = Collect steps.Begin

abbrev pub begin_sized : ℕ → Event
begin_sized size = Collect (steps.BeginSized size)

abbrev pub roots : Event
roots = Collect steps.Roots

abbrev pub scan : Event
scan = Collect steps.Scan

abbrev pub apply : ℕ → Event
apply m = Collect (steps.Apply m)

abbrev pub flip : Event
flip = Collect steps.Flip

abbrev pub give_up : Event
give_up = Collect steps.Drop

-- ---- rows

pub record Rows : Type 0 where
  pub exactly_full : answers_of_one 9 (first (ops.New (own_slot 0) 1 2) ∷ first (ops.New (own_slot 0) 1 2) ∷ first (ops.New (own_slot 1) 0 0) ∷ begin ∷ roots ∷ scan ∷ scan ∷ scan ∷ scan ∷ roots ∷ flip ∷ first (ops.New (own_slot 1) 0 0) ∷ [])
      ≡ Mutator Made ∷ Mutator Made ∷ Mutator Full ∷ Collector Begun ∷ Collector Copied ∷ Collector Scanned ∷ Collector Scanned ∷ Collector Passed ∷ Collector Clean ∷ Collector Clean ∷ Collector (Flipped 1) ∷ Mutator Made ∷ []
  pub write_while_scanning : answers_of_one 32 (first (ops.New (own_slot 0) 1 1) ∷ first (ops.Num (own_slot 1) 9) ∷ begin ∷ roots ∷ scan ∷ first (ops.Put (own_slot 0) 0 (own_slot 1)) ∷ scan ∷ flip ∷ apply 0 ∷ flip ∷ first (ops.Get (own_slot 2) (own_slot 0) 0) ∷ [])
      ≡ Mutator Made ∷ Mutator Done ∷ Collector Begun ∷ Collector Copied ∷ Collector Scanned ∷ Mutator Done ∷ Collector Passed ∷ Collector NotReady ∷ Collector Applied ∷ Collector (Flipped 1) ∷ Mutator (Saw (views.Num 9)) ∷ []
  pub log_across_two_mutators : answers_of_two 32 (first (ops.New (shared_slot 0) 1 1) ∷ begin ∷ roots ∷ scan ∷ scan ∷ first (ops.Num (own_slot 0) 7) ∷ first (ops.Put (shared_slot 0) 0 (own_slot 0)) ∷ second (ops.Look (own_slot 0)) ∷ second (ops.Num (own_slot 0) 8)
      ∷ second (ops.Put (shared_slot 0) 0 (own_slot 0)) ∷ apply 1 ∷ apply 0 ∷ apply 0 ∷ flip ∷ first (ops.Get (own_slot 1) (shared_slot 0) 0) ∷ [])
      ≡ Mutator Made ∷ Collector Begun ∷ Collector Copied ∷ Collector Scanned ∷ Collector Passed ∷ Mutator Done ∷ Mutator Done ∷ Mutator (Saw views.Nil) ∷ Mutator Done
      ∷ Mutator Done ∷ Collector Applied ∷ Collector Applied ∷ Collector Clean ∷ Collector (Flipped 1) ∷ Mutator (Saw (views.Num 8)) ∷ []
  pub root_made_after_the_scan : answers_of_one 32 (first (ops.New (own_slot 0) 1 1) ∷ first (ops.New (own_slot 1) 2 0) ∷ first (ops.Put (own_slot 0) 0 (own_slot 1)) ∷ first (ops.Nil (own_slot 1)) ∷ begin ∷ roots ∷ scan ∷ scan ∷ scan ∷ scan ∷ roots ∷ first (ops.Get (own_slot 1) (own_slot 0) 0)
      ∷ first (ops.Nil (own_slot 0)) ∷ first (ops.New (own_slot 2) 5 0) ∷ flip ∷ roots ∷ scan ∷ flip ∷ first (ops.Look (own_slot 1)) ∷ first (ops.Look (own_slot 2)) ∷ [])
      ≡ Mutator Made ∷ Mutator Made ∷ Mutator Done ∷ Mutator Done ∷ Collector Begun ∷ Collector Copied ∷ Collector Scanned ∷ Collector Passed ∷ Collector Passed ∷ Collector Clean ∷ Collector Clean ∷ Mutator (Saw (views.Obj 2 0))
      ∷ Mutator Done ∷ Mutator Made ∷ Collector NotReady ∷ Collector Copied ∷ Collector Passed ∷ Collector (Flipped 3) ∷ Mutator (Saw (views.Obj 2 0)) ∷ Mutator (Saw (views.Obj 5 0)) ∷ []
  pub cycle_of_two : answers_of_one 32 (first (ops.New (own_slot 0) 1 2) ∷ first (ops.New (own_slot 1) 2 1) ∷ first (ops.Put (own_slot 0) 0 (own_slot 1)) ∷ first (ops.Put (own_slot 1) 0 (own_slot 0)) ∷ first (ops.Put (own_slot 0) 1 (own_slot 0)) ∷ begin ∷ roots ∷ roots ∷ roots
      ∷ scan ∷ scan ∷ scan ∷ scan ∷ scan ∷ scan ∷ flip ∷ first (ops.Get (own_slot 4) (own_slot 0) 0) ∷ first (ops.Get (own_slot 4) (own_slot 4) 0) ∷ first (ops.Same (own_slot 4) (own_slot 0)) ∷ first (ops.Same (own_slot 4) (own_slot 1)) ∷ [])
      ≡ Mutator Made ∷ Mutator Made ∷ Mutator Done ∷ Mutator Done ∷ Mutator Done ∷ Collector Begun ∷ Collector Copied ∷ Collector Copied ∷ Collector Clean
      ∷ Collector Scanned ∷ Collector Scanned ∷ Collector Passed ∷ Collector Scanned ∷ Collector Passed ∷ Collector Clean ∷ Collector (Flipped 2) ∷ Mutator (Saw (views.Obj 2 1)) ∷ Mutator (Saw (views.Obj 1 2)) ∷ Mutator Yes ∷ Mutator No ∷ []
  -- a raw object is copied whole, and then written while the collection is open
  pub raw_object : answers_of_one 16 (first (ops.NewRaw (own_slot 0) 7 2) ∷ first (ops.Look (own_slot 0)) ∷ first (ops.Get (own_slot 1) (own_slot 0) 1) ∷ first (ops.Put (own_slot 0) 0 (own_slot 2)) ∷ first (ops.Put (own_slot 0) 2 (own_slot 2)) ∷ first (ops.Num (own_slot 1) 8)
      ∷ first (ops.Put (own_slot 0) 0 (own_slot 1)) ∷ begin ∷ roots ∷ first (ops.Num (own_slot 1) 10) ∷ first (ops.Put (own_slot 0) 1 (own_slot 1)) ∷ scan ∷ scan ∷ flip ∷ apply 0 ∷ flip ∷ first (ops.Get (own_slot 2) (own_slot 0) 0) ∷ first (ops.Get (own_slot 2) (own_slot 0) 1) ∷ [])
      ≡ Mutator Made ∷ Mutator (Saw (views.RawObj 7 2)) ∷ Mutator (Saw (views.Num 0)) ∷ Mutator NoNumber ∷ Mutator NoField ∷ Mutator Done
      ∷ Mutator Done ∷ Collector Begun ∷ Collector Copied ∷ Mutator Done ∷ Mutator Done ∷ Collector Passed ∷ Collector Clean ∷ Collector NotReady ∷ Collector Applied ∷ Collector (Flipped 1) ∷ Mutator (Saw (views.Num 8)) ∷ Mutator (Saw (views.Num 10)) ∷ []
  pub entry_without_a_replica : answers_of_one 32 (first (ops.New (own_slot 0) 1 1) ∷ begin ∷ first (ops.Put (own_slot 0) 0 (own_slot 0)) ∷ apply 0 ∷ apply 0 ∷ roots ∷ scan ∷ scan ∷ flip ∷ first (ops.Get (own_slot 1) (own_slot 0) 0) ∷ first (ops.Same (own_slot 0) (own_slot 1)) ∷ [])
      ≡ Mutator Made ∷ Collector Begun ∷ Mutator Done ∷ Collector Applied ∷ Collector Clean ∷ Collector Copied ∷ Collector Scanned ∷ Collector Passed ∷ Collector (Flipped 1) ∷ Mutator (Saw (views.Obj 1 1)) ∷ Mutator Yes ∷ []
  pub link_left_over : answers_of_one 16 (scan ∷ apply 0 ∷ roots ∷ flip ∷ give_up ∷ first (ops.New (own_slot 0) 2 1) ∷ begin ∷ begin ∷ roots ∷ first (ops.Put (own_slot 0) 0 (own_slot 0)) ∷ give_up ∷ begin ∷ apply 0 ∷ roots ∷ scan ∷ scan ∷ flip ∷ [])
      ≡ Collector Idle ∷ Collector Idle ∷ Collector Idle ∷ Collector Idle ∷ Collector Idle ∷ Mutator Made ∷ Collector Begun ∷ Collector Busy ∷ Collector Copied ∷ Mutator Done ∷ Collector Dropped ∷ Collector Begun ∷ Collector Clean ∷ Collector Copied ∷ Collector Scanned ∷ Collector Passed ∷ Collector (Flipped 1) ∷ []
  pub nothing_to_copy : answers_of_one 8 (begin ∷ flip ∷ []) ≡ Collector Begun ∷ Collector (Flipped 0) ∷ []

-- collections whose new space has a chosen size
pub record SizedRows : Type 0 where
  pub too_small_at_first : answers_of_one 7 (first (ops.New (own_slot 0) 3 4) ∷ begin_sized 6 ∷ roots ∷ roots ∷ flip ∷ begin_sized 7 ∷ give_up ∷ begin_sized 12 ∷ roots ∷ scan ∷ scan ∷ scan ∷ scan ∷ scan ∷ flip ∷ first (ops.New (own_slot 1) 0 3) ∷ first (ops.New (own_slot 1) 0 0) ∷ [])
      ≡ Mutator Made ∷ Collector Begun ∷ Collector NoRoom ∷ Collector NoRoom ∷ Collector NotReady ∷ Collector Busy ∷ Collector Dropped ∷ Collector Begun ∷ Collector Copied ∷ Collector Scanned ∷ Collector Scanned ∷ Collector Scanned ∷ Collector Scanned ∷ Collector Passed ∷ Collector (Flipped 1) ∷ Mutator Made ∷ Mutator Full ∷ []
  pub smaller_from_then_on : answers_of_one 9 (first (ops.New (own_slot 0) 1 2) ∷ first (ops.New (own_slot 0) 1 2) ∷ begin_sized 5 ∷ roots ∷ scan ∷ scan ∷ scan ∷ flip ∷ first (ops.New (own_slot 1) 0 0) ∷ begin ∷ roots ∷ [])
      ≡ Mutator Made ∷ Mutator Made ∷ Collector Begun ∷ Collector Copied ∷ Collector Scanned ∷ Collector Scanned ∷ Collector Passed ∷ Collector (Flipped 1) ∷ Mutator Full ∷ Collector Begun ∷ Collector Copied ∷ []
  pub room_after_a_write : answers_of_one 16 (first (ops.New (own_slot 0) 1 1) ∷ first (ops.New (own_slot 1) 2 0) ∷ first (ops.Put (own_slot 0) 0 (own_slot 1)) ∷ first (ops.Nil (own_slot 1)) ∷ begin_sized 5 ∷ roots ∷ scan ∷ first (ops.Num (own_slot 2) 4) ∷ first (ops.Put (own_slot 0) 0 (own_slot 2))
      ∷ scan ∷ apply 0 ∷ scan ∷ flip ∷ first (ops.Get (own_slot 3) (own_slot 0) 0) ∷ [])
      ≡ Mutator Made ∷ Mutator Made ∷ Mutator Done ∷ Mutator Done ∷ Collector Begun ∷ Collector Copied ∷ Collector NoRoom ∷ Mutator Done ∷ Mutator Done ∷ Collector Scanned ∷ Collector Applied ∷ Collector Passed ∷ Collector (Flipped 1) ∷ Mutator (Saw (views.Num 4)) ∷ []
  pub entry_stays_without_room : answers_of_one 16 (first (ops.New (own_slot 0) 1 1) ∷ begin_sized 5 ∷ roots ∷ scan ∷ scan ∷ first (ops.New (own_slot 1) 2 0) ∷ first (ops.Put (own_slot 0) 0 (own_slot 1)) ∷ apply 0 ∷ apply 0 ∷ first (ops.Nil (own_slot 1)) ∷ first (ops.Put (own_slot 0) 0 (own_slot 1))
      ∷ apply 0 ∷ apply 0 ∷ apply 0 ∷ flip ∷ [])
      ≡ Mutator Made ∷ Collector Begun ∷ Collector Copied ∷ Collector Scanned ∷ Collector Passed ∷ Mutator Made ∷ Mutator Done ∷ Collector NoRoom ∷ Collector NoRoom ∷ Mutator Done ∷ Mutator Done ∷ Collector Applied ∷ Collector Applied ∷ Collector Clean ∷ Collector (Flipped 1) ∷ []

-- ---- what a flip shows the checker

-- the old image, the new image and the pairs of an open collection
pub record FlipPair : Type 0 where
  pub old : Image
  pub new : Image
  pub pairs : List (ℕ × ℕ)

abbrev pub flip_pair_of : State → Option Collection → Option FlipPair
flip_pair_of s None = None
flip_pair_of s (Some c) = Some (record { old = old_image s c; new = new_image s c; pairs = pairs_of c })

-- the flip pair of the collection, if any, that is open after these events of one mutator
abbrev pub flip_pair_after : ℕ → List Event → Option FlipPair
flip_pair_after size events = let s = state_after (opening_state size 1) events in flip_pair_of s s.collection

-- sixteen words: this one, and then zeros
abbrev pub sixteen : ℕ → List ℕ
sixteen word = word ∷ 0 ∷ 0 ∷ 0 ∷ 0 ∷ 0 ∷ 0 ∷ 0 ∷ 0 ∷ 0 ∷ 0 ∷ 0 ∷ 0 ∷ 0 ∷ 0 ∷ 0 ∷ []

pub record FlipPairRows : Type 0 where
  pub exactly_full : flip_pair_after 9 (first (ops.New (own_slot 0) 1 2) ∷ first (ops.New (own_slot 0) 1 2) ∷ begin ∷ roots ∷ scan ∷ scan ∷ scan ∷ []) ≡ Some (record {
    old = record { size = 9; end = 9; words = 0 ∷ 16842754 ∷ 0 ∷ 0 ∷ 0 ∷ 16842754 ∷ 1 ∷ 0 ∷ 0 ∷ []; roots = sixteen 0 ++ sixteen 10; raws = true };
    new = record { size = 9; end = 5; words = 0 ∷ 16842754 ∷ 5 ∷ 0 ∷ 0 ∷ []; roots = sixteen 0 ++ sixteen 2; raws = true };
    pairs = (5, 1) ∷ [];
  })
