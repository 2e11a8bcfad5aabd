-- A slot that takes a reference to the object at an address.
use Rattle.std.specs.Prelude.{ℕ, if◌then◌else◌, is_some}
use Rattle.gc_graph.specs.Slots.{SlotName, place}
use Rattle.gc_graph.specs.Graph.{Ref, lookup, set_root}
use Rattle.gc_graph.specs.declared.reply.Reply.{Reply}
use Rattle.gc_graph.specs.declared.reply.Reply.TheVariants.{Done, NoObject}
use Rattle.gc_model.specs.State.{State}

-- the root at this place refers to the object with this name
abbrev pub with_reference : State → ℕ → ℕ → State
with_reference s p a = record s { heap = record s.heap { graph = set_root s.heap.graph p (Ref a) } }

-- mutator m's slot d takes a reference to the object with this name, if there is one
abbrev pub refer_step : State → ℕ → SlotName → ℕ → Reply × State
refer_step s m d a = if is_some (lookup s.heap.graph.objects a) then (Done, with_reference s (place d m) a) else (NoObject, s)
