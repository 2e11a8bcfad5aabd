-- A root that takes a value by itself.
use Rattle.std.specs.Prelude.{ℕ}
use Rattle.gc_graph.specs.Graph.{Value, set_root}
use Rattle.gc_graph.specs.declared.command.Op.{Op}
use Rattle.gc_graph.specs.declared.command.Op.TheVariants as ops
use Rattle.gc_heap.specs.Places.{root_at}
use Rattle.gc_model.specs.State.{State}
use Rattle.gc_collected.specs.declared.values.Plain.{Plain}
use Rattle.gc_collected.specs.declared.values.Plain.TheVariants.{Nil, Number}

-- the root at this place has this value
abbrev pub with_value : State → ℕ → Value → State
with_value s p v = record s { heap = record s.heap { graph = set_root s.heap.graph p v } }

-- the command that sets the root at place p to this value
abbrev pub set_plain : ℕ → Plain → Op
set_plain p Nil = ops.Nil (root_at p)
set_plain p (Number n) = ops.Num (root_at p) n
