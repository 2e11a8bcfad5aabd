-- Commands on extra roots, in order.
use Rattle.std.specs.Prelude.{ℕ, zero, suc}
use Rattle.gc_graph.specs.declared.command.Op.TheVariants.{Nil}
use Rattle.gc_heap.specs.ExtraRoots.{extra_root}
use Rattle.gc_model.specs.State.{State}
use Rattle.gc_model.specs.Steps.{mutate}

-- this many extra roots from k on become nil: one `Nil` for each, in order
abbrev pub clear_step : State → ℕ → ℕ → State
clear_step s k zero = s
clear_step s k (suc n) = clear_step (mutate s 0 (Nil (extra_root s.mutators k))).1 (suc k) n
