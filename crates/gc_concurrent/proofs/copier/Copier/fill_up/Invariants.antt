-- Each entry that was applied leaves one field less to fill.
use Rattle.std.proofs.Common.{◌≡◌, ◌+◌, false}
use Rattle.gc_concurrent.specs.Internal.Copiers.{KeepsSeat, StaysOrNears}
use Rattle.gc_concurrent.proofs.copier.Copier.fill_up.Given as goal

abbrev pub invariant-loop-k : goal.invariant-loop-k
invariant-loop-k l = record {
  filled : l.self.fill_left + l.k ≡ l.left;
  clear : l.self.has_wanted ≡ false;
  nears : StaysOrNears l.fn.self.seat.me l.self.seat.me;
  seat : KeepsSeat l.fn.self.seat.me l.self.seat.me;
  row : (l.self.seat.table_id ≡ l.fn.self.seat.table_id) × (l.self.size ≡ l.fn.self.size);
}
