-- Events of a trace, whose sizes a text can hold, are events of a heap.
use Rattle.std.proofs.lemmas.Grind.{common_steps}
use Rattle.std.proofs.Common.{ℕ, ◌<◌, arith}
use Rattle.gc_graph.specs.Limits.{most_words}
use Rattle.gc_graph.specs.Range.{IsCommand}
use Rattle.gc_graph.specs.declared.command.Op.{Op}
use Rattle.gc_model.specs.Belonging.{IsState}
use Rattle.gc_model.specs.State.{State}
use Rattle.gc_model.specs.Steps.{mutate, collect}
use Rattle.gc_model.specs.Runs.{IsEventWithin, IsStep, IsEvent, after}
use Rattle.gc_model.specs.declared.event.Event.{Event}
use Rattle.gc_model.specs.declared.step.Step.{Step}
use Rattle.gc_model.proofs.Public.{wider_step, wider_event}

pub heap_event : (mutators : ℕ) (event : Event) → IsEventWithin most_words mutators event → IsEvent mutators event
heap_event mutators event within = wider_event most_words mutators event (omega arith) within

-- an event leads from a state to a state, as its two kinds do
pub state_kept : (s : State) (event : Event)
    → ((s : State) (m : ℕ) (op : Op) → IsState s → m < s.mutators → IsCommand op → IsState (mutate s m op).1)
    → ((s : State) (step : Step) → IsState s → IsStep s.mutators step → IsState (collect s step).1)
    → IsState s → IsEventWithin most_words s.mutators event → IsState (after s event)
state_kept s event commands steps ok within = grind (arith, common_steps, wider_step)
