-- Counts after one more answer, and counts that fit their type.
use Rattle.std.specs.Prelude.{◌+◌, ◌<◌, ◌^◌}
use Rattle.std.specs.List.{AllByRecursion}
use Rattle.gc_trace.specs.declared.report.Report.{Report}
use Rattle.gc_model.specs.declared.event.Answer.{Answer}
use Rattle.gc_trace.specs.Report.{counts_as, report_counts}

-- each count fits in a `u64`
abbrev pub FitsU64 : Report → Type 0
FitsU64 r = AllByRecursion (λ n. n < 2 ^ 64) (report_counts r)

-- the report with what this answer counts as
abbrev pub with_count : Report → Answer → Report
with_count r answer = let one = counts_as answer in record r {
  made = r.made + one.made;
  full = r.full + one.full;
  begun = r.begun + one.begun;
  copied = r.copied + one.copied;
  scanned = r.scanned + one.scanned;
  applied = r.applied + one.applied;
  flips = r.flips + one.flips;
  pairs = r.pairs + one.pairs;
  dropped = r.dropped + one.dropped;
  refused = r.refused + one.refused;
}

-- the report after one more event, with this answer
abbrev pub with_answer : Report → Answer → Report
with_answer r answer = record (with_count r answer) { events = r.events + 1 }
