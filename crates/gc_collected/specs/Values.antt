-- Nil or a number that a field takes without a root for it.
use Rattle.std.specs.Prelude.{ℕ, zero, suc, List, [], ◌∷◌, ◌++◌, length}
use Rattle.gc_graph.specs.Graph.{Value}
use Rattle.gc_graph.specs.Graph as graphs
use Rattle.gc_graph.specs.declared.command.Op.TheVariants.{Put}
use Rattle.gc_graph.specs.declared.command.Op.TheVariants as ops
use Rattle.gc_graph.specs.declared.reply.Reply.{Reply}
use Rattle.gc_heap.specs.Places.{root_at}
use Rattle.gc_model.specs.State.{State}
use Rattle.gc_model.specs.Steps.{mutate}
use Rattle.gc_collected.specs.declared.values.Plain.{Plain}
use Rattle.gc_collected.specs.declared.values.Plain.TheVariants.{Nil, Number}

abbrev pub value_of_plain : Plain → Value
value_of_plain Nil = graphs.Nil
value_of_plain (Number n) = graphs.Num n

-- the same state with these roots
abbrev pub with_roots : State → List Value → State
with_roots s roots = record s { heap = record s.heap { graph = record s.heap.graph { roots = roots } } }

-- The reply to a command of mutator m that writes this value to field i of the object in the root at place p, and the next state. It is the `Put` of
-- one more root, behind all others, which holds the value. That root is gone afterwards, and all others are as before.
abbrev pub put_value_step : State → ℕ → ℕ → ℕ → Value → Reply × State
put_value_step s m p i v =
    let roots = s.heap.graph.roots in
    let next = mutate (with_roots s (roots ++ v ∷ [])) m (Put (root_at p) i (root_at (length roots))) in
    (next.0, with_roots next.1 roots)

-- so many roots from the one at place p on become nil: one `Nil` for each, in order
abbrev pub clear_roots_step : State → ℕ → ℕ → State
clear_roots_step s p zero = s
clear_roots_step s p (suc n) = clear_roots_step (mutate s 0 (ops.Nil (root_at p))).1 (suc p) n
