-- Tables still tell the truth after a write that they are told of, one to a due field or a link, and after words at the end.
use Rattle.gc_monitor.proofs.ToldTruth.{written_tells, anywhere_tells, link_anywhere_tells, brought_tells, both_tells, due_tells_written, old_link_tells, new_link_tells, old_more_tells, new_more_tells}
use Rattle.gc_monitor.proofs.telling.writes_keep_telling.Goals as goal

pub returns : goal.returns
returns c = record {
  written = λ old new t after a i x tells some wrote. written_tells old new a i x t after tells some wrote;
  anywhere = anywhere_tells;
  link_anywhere = link_anywhere_tells;
  brought = brought_tells;
  both = both_tells;
  due = due_tells_written;
  old_link = old_link_tells;
  new_link = new_link_tells;
  old_more = old_more_tells;
  new_more = new_more_tells;
}
