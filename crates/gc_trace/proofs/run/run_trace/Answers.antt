-- A world that has run all events of the trace has the core's answers to them and is in the state that they lead to.
use Rattle.std.proofs.Common.{◌∙◌}
use Rattle.std.proofs.lemmas.List.{take_all}
use Rattle.gc_trace.specs.WorldRuns.{HasRun}
use Rattle.gc_trace.specs.Views.{recording}
use Rattle.gc_trace.proofs.HistoryTexts.{ran_answers, ran_state}
use Rattle.gc_trace.proofs.run.run_trace.Goals as goal

has_run : (c : goal.After-history) → HasRun (recording c.args.trace.now) c.loop-event.world
has_run c = record {
  size = c.loop-event.invariant.size;
  mutators = c.loop-event.invariant.mutators;
  events = c.loop-event.invariant.events ∙ take_all c.loop-event.event-index c.args.trace.now.events.items (rw c.deref-event-items.ensures.value at c.loop-event-test.false);
}

pub returns-clause-answers : goal.returns-clause-answers
returns-clause-answers c = ran_answers (recording c.args.trace.now) c.loop-event.world (has_run c) c.history.ensures.history

pub returns-clause-state : goal.returns-clause-state
returns-clause-state c = ran_state (recording c.args.trace.now) c.loop-event.world (has_run c)
