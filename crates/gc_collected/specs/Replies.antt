-- The replies that mutators get in a run.
use Rattle.std.specs.Prelude.{List, [], ◌∷◌}
use Rattle.gc_graph.specs.Legal.{Told}
use Rattle.gc_model.specs.State.{State}
use Rattle.gc_model.specs.Steps.{mutate, collect}
use Rattle.gc_model.specs.declared.event.Event.{Event}
use Rattle.gc_model.specs.declared.event.Event.TheVariants.{Mutate, Collect}

-- each command with its reply, in order; collector steps get no entry
abbrev pub told_in : State → List Event → List Told
told_in s [] = []
told_in s (Mutate m op ∷ events) = record { m = m; op = op; reply = (mutate s m op).0 } ∷ told_in (mutate s m op).1 events
told_in s (Collect step ∷ events) = told_in (collect s step).1 events
