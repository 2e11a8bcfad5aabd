-- The report of a run.
use Rattle.std.specs.Prelude.{ℕ, List, [], ◌∷◌, ◌++◌, length, codes}
use Rattle.std.specs.List.{flat_map, sum_by, zip}
use Rattle.std.specs.Fmt.{decimal}
use Rattle.gc_text.specs.Lines.{line}
use Rattle.gc_graph.specs.declared.reply.Reply.TheVariants as replies
use Rattle.gc_model.specs.declared.event.Answer.{Answer}
use Rattle.gc_model.specs.declared.event.Answer.TheVariants.{Mutator, Collector}
use Rattle.gc_model.specs.State.{State, heap_end}
use Rattle.gc_model.specs.declared.step.StepReply.TheVariants as steps
use Rattle.gc_trace.specs.declared.report.Report.{Report}

-- ---- the counts

abbrev pub no_counts : Report
no_counts = record { events = 0; made = 0; full = 0; begun = 0; copied = 0; scanned = 0; applied = 0; flips = 0; pairs = 0; dropped = 0; refused = 0; end = 0; free = 0 }

-- what this answer counts as, besides an event
abbrev pub counts_as : Answer → Report
counts_as (Mutator replies.Made) = record no_counts { made = 1 }
counts_as (Mutator replies.Full) = record no_counts { full = 1 }
counts_as (Collector steps.Begun) = record no_counts { begun = 1 }
counts_as (Collector steps.Copied) = record no_counts { copied = 1 }
counts_as (Collector steps.Scanned) = record no_counts { scanned = 1 }
counts_as (Collector steps.Applied) = record no_counts { applied = 1 }
counts_as (Collector (steps.Flipped pairs)) = record no_counts { flips = 1; pairs = pairs }
counts_as (Collector steps.Dropped) = record no_counts { dropped = 1 }
counts_as (Collector steps.Refused) = record no_counts { refused = 1 }
counts_as answer = no_counts

-- the counts of a run's answers, and the end and the free words of its last state
abbrev pub report_of : List Answer → State → Report
report_of answers s = record {
  events = length answers;
  made = sum_by (λ a. (counts_as a).made) answers;
  full = sum_by (λ a. (counts_as a).full) answers;
  begun = sum_by (λ a. (counts_as a).begun) answers;
  copied = sum_by (λ a. (counts_as a).copied) answers;
  scanned = sum_by (λ a. (counts_as a).scanned) answers;
  applied = sum_by (λ a. (counts_as a).applied) answers;
  flips = sum_by (λ a. (counts_as a).flips) answers;
  pairs = sum_by (λ a. (counts_as a).pairs) answers;
  dropped = sum_by (λ a. (counts_as a).dropped) answers;
  refused = sum_by (λ a. (counts_as a).refused) answers;
  end = heap_end s;
  free = s.heap.free;
}

-- ---- the text of a report

abbrev pub report_names : List (List ℕ)
report_names = codes "events" ∷ codes "made" ∷ codes "full" ∷ codes "begun" ∷ codes "copied" ∷ codes "scanned" ∷ codes "applied" ∷ codes "flips" ∷ codes "pairs" ∷ codes "dropped" ∷ codes "refused" ∷ codes "end" ∷ codes "free" ∷ []

abbrev pub report_counts : Report → List ℕ
report_counts r = r.events ∷ r.made ∷ r.full ∷ r.begun ∷ r.copied ∷ r.scanned ∷ r.applied ∷ r.flips ∷ r.pairs ∷ r.dropped ∷ r.refused ∷ []

-- thirteen lines, each with a name and a number
abbrev pub report_text : Report → List ℕ
report_text r = flat_map (λ p. line (p.0 ∷ decimal p.1 ∷ [])) (zip report_names (report_counts r ++ r.end ∷ r.free ∷ []))
