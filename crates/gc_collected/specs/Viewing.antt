-- What is seen without a root that takes it: the value of a field, and the object at an address.
use Rattle.std.specs.Prelude.{ℕ}
use Rattle.gc_graph.specs.Graph.{Ref}
use Rattle.gc_graph.specs.Machine.{view_of}
use Rattle.gc_graph.specs.declared.command.Op.TheVariants.{Get}
use Rattle.gc_graph.specs.declared.reply.Reply.{Reply}
use Rattle.gc_graph.specs.declared.reply.View.{View}
use Rattle.gc_heap.specs.Places.{root_at}
use Rattle.gc_model.specs.State.{State}
use Rattle.gc_model.specs.Steps.{mutate}

-- The reply to a `Get` of field i of the object in the root at place p. It is the same whichever root takes the value.
abbrev pub get_reply : State → ℕ → ℕ → Reply
get_reply s p i = (mutate s 0 (Get (root_at p) (root_at p) i)).0

-- what a look at a reference to the object at this address sees, and nil if no object starts there
abbrev pub view_at : State → ℕ → View
view_at s a = view_of s.heap.graph.objects (Ref a)
