-- Scripts: the commands of each mutator in a trace, without collector steps.
use Rattle.std.specs.Prelude.{ℕ, List, map}
use Rattle.std.specs.List.{range_with_len}
use Rattle.gc_graph.specs.declared.command.Op.{Op}
use Rattle.gc_model.specs.declared.event.Event.{Event}
use Rattle.gc_model.specs.Runs.{commands_of}

-- the commands of mutators 0, 1, .., each in order
abbrev pub scripts : ℕ → List Event → List (List Op)
scripts mutators events = map (λ m. commands_of m events) (range_with_len 0 mutators)
