-- Where the open collection does not end, there is no second call of work.
use Rattle.std.proofs.Common.{inl, refl, sym, ◌∙◌}
use Rattle.gc_pace.specs.Work.{no_work}
use Rattle.gcflip_heap_c.specs.Room.{joined_report}
use Rattle.gcflip_heap_c.proofs.room.collect_anew.Goals as goal

pub returns-then-is_open : goal.returns-then-is_open
returns-then-is_open c = record {
  between = c.end_open-first.new.heap;
  first = c.end_open-first.result;
  second = no_work;
  ends = c.end_open-first.ensures;
  anew = inl (sym c.is_open.ensures ∙ c.if-is_open.true, refl, refl, c.lack_of.ensures);
  told = c.joined.ensures ∙ (λ k. joined_report (c.report.ensures k) (c.report-then-is_open.ensures k));
}
