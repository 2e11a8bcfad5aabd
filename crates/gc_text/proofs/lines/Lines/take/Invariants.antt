-- Nothing was taken since the call, however much more of the text waits, and the reader has not failed.
use Rattle.std.proofs.Common.{◌≡◌, ◌-◌, ℕ, List, false}
use Rattle.gc_graph.specs.Streams.{bytes_left, source_failed}
use Rattle.gc_text.specs.Reading.{Place, IsAt}
use Rattle.gc_text.proofs.lines.Lines.take.Given as goal

abbrev pub invariant-loop-value : goal.invariant-loop-value
invariant-loop-value g l = record {
  place : (text : List ℕ) (place : Place) → IsAt text place l.initial.self (bytes_left g.R.Read.remaining l.initial.reader) → IsAt text place l.self (bytes_left g.R.Read.remaining l.reader);
  limit : l.self.limit ≡ l.initial.self.limit;
  taken : l.self.taken ≡ l.initial.self.taken;
  good : source_failed l.reader ≡ false;
}

abbrev pub decreases-loop-value : goal.decreases-loop-value
decreases-loop-value g l = l.self.limit - l.self.read
