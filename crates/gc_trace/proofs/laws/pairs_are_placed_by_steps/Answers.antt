-- A replica takes a step of its own, so the pairs of a report are among its events.
use Rattle.gc_world.specs.History.{state_after}
use Rattle.gc_trace.proofs.ReportCounts.{few_in_report}
use Rattle.gc_trace.proofs.laws.pairs_are_placed_by_steps.Goals as goal

pub returns : goal.returns
returns c = λ size mutators entries h. few_in_report size mutators entries (state_after size mutators entries) h
