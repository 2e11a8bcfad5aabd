-- A root that takes a reference to the object at an address.
use Rattle.std.specs.Prelude.{ℕ, if◌then◌else◌, is_some}
use Rattle.gc_graph.specs.Graph.{Ref, lookup, set_root}
use Rattle.gc_graph.specs.Machine.{Roomy}
use Rattle.gc_graph.specs.declared.reply.Reply.{Reply}
use Rattle.gc_graph.specs.declared.reply.Reply.TheVariants.{Done, NoObject}

-- the root at this place takes a reference to the object with this name, if there is one
abbrev pub root_refers : Roomy → ℕ → ℕ → Reply × Roomy
root_refers s p a = if is_some (lookup s.graph.objects a) then (Done, record s { graph = set_root s.graph p (Ref a) }) else (NoObject, s)
