-- Worked rows: commands to the machine without a collector, and their replies.
use Rattle.std.specs.Prelude.{◌≡◌, ℕ, List, [], ◌∷◌, map}
use Rattle.gc_graph.specs.Slots.{own_slot, shared_slot}
use Rattle.gc_graph.specs.Machine.{opening_roomy}
use Rattle.gc_graph.specs.Runs.{replies}
use Rattle.gc_graph.specs.declared.command.Op.{Op}
use Rattle.gc_graph.specs.declared.command.Op.TheVariants as ops
use Rattle.gc_graph.specs.declared.reply.Reply.{Reply}
use Rattle.gc_graph.specs.declared.reply.Reply.TheVariants.{Full, Made, Done, NoObject, NoField, NoNumber, Saw, Yes, No}
use Rattle.gc_graph.specs.declared.reply.View.TheVariants as views

-- the replies to commands of one mutator in a space of this many words
abbrev pub replies_of_one : ℕ → List Op → List Reply
replies_of_one size commands = replies (opening_roomy size 1) (map (λ op. (0, op)) commands)

pub record Rows : Type 0 where
  pub full_at_once : replies_of_one 1 (ops.New (own_slot 0) 0 0 ∷ []) ≡ Full ∷ []
  pub full_later : replies_of_one 7 (ops.New (own_slot 0) 3 4 ∷ ops.New (own_slot 1) 0 0 ∷ ops.Look (own_slot 1) ∷ []) ≡ Made ∷ Full ∷ Saw views.Nil ∷ []
  pub greatest_number : replies_of_one 7 (ops.Num (own_slot 0) 9223372036854775807 ∷ ops.Look (own_slot 0) ∷ []) ≡ Done ∷ Saw (views.Num 9223372036854775807) ∷ []
  pub two_objects : replies_of_one 32 (ops.New (own_slot 0) 1 2 ∷ ops.New (own_slot 1) 2 1 ∷ ops.Put (own_slot 0) 0 (own_slot 1) ∷ ops.Put (own_slot 1) 0 (own_slot 0) ∷ ops.Put (own_slot 0) 1 (own_slot 0)
      ∷ ops.Get (own_slot 2) (own_slot 0) 0 ∷ ops.Get (own_slot 2) (own_slot 2) 0 ∷ ops.Same (own_slot 2) (own_slot 0) ∷ ops.Get (own_slot 3) (own_slot 0) 1 ∷ ops.Same (own_slot 3) (own_slot 2) ∷ [])
      ≡ Made ∷ Made ∷ Done ∷ Done ∷ Done ∷ Saw (views.Obj 2 1) ∷ Saw (views.Obj 1 2) ∷ Yes ∷ Saw (views.Obj 1 2) ∷ Yes ∷ []
  pub refusals : replies_of_one 8 (ops.Get (own_slot 1) (own_slot 0) 0 ∷ ops.Num (own_slot 0) 0 ∷ ops.Put (own_slot 0) 0 (own_slot 1) ∷ ops.Same (own_slot 0) (own_slot 1) ∷ ops.Same (own_slot 1) (own_slot 2)
      ∷ ops.New (own_slot 0) 9 1 ∷ ops.Get (own_slot 1) (own_slot 0) 1 ∷ ops.Put (own_slot 0) 1 (own_slot 0) ∷ ops.Put (own_slot 0) 0 (own_slot 0) ∷ ops.Get (own_slot 1) (own_slot 0) 0 ∷ ops.Same (own_slot 0) (own_slot 1)
      ∷ ops.Move (shared_slot 0) (own_slot 1) ∷ ops.Look (shared_slot 0) ∷ [])
      ≡ NoObject ∷ Done ∷ NoObject ∷ No ∷ Yes ∷ Made ∷ NoField ∷ NoField ∷ Done ∷ Saw (views.Obj 9 1) ∷ Yes ∷ Done ∷ Saw (views.Obj 9 1) ∷ []
  pub raw_object : replies_of_one 16 (ops.NewRaw (own_slot 0) 7 2 ∷ ops.Look (own_slot 0) ∷ ops.Get (own_slot 1) (own_slot 0) 1 ∷ ops.Put (own_slot 0) 0 (own_slot 2) ∷ ops.Put (own_slot 0) 2 (own_slot 2) ∷ ops.Num (own_slot 1) 8 ∷ ops.Put (own_slot 0) 0 (own_slot 1) ∷ ops.Get (own_slot 2) (own_slot 0) 0 ∷ [])
      ≡ Made ∷ Saw (views.RawObj 7 2) ∷ Saw (views.Num 0) ∷ NoNumber ∷ NoField ∷ Done ∷ Done ∷ Saw (views.Num 8) ∷ []
