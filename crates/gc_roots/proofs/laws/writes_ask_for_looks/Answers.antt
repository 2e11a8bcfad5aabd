-- A write changes the mark of one root at most.
use Rattle.gc_roots.proofs.Counted.{nil_asks, taken_asks}
use Rattle.gc_roots.proofs.laws.writes_ask_for_looks.Goals as goal

pub returns : goal.returns
returns c = record { takes = taken_asks; becomes_nil = nil_asks }
