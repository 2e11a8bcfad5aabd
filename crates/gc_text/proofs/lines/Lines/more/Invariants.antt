-- The bytes that were read so far belong to the same text, are counted, and all still wait.
use Rattle.std.proofs.Common.{◌-◌, ◌≡◌, ◌+◌, ◌≤◌, ◌<◌, ℕ, List, true, false, length, if◌then◌else◌}
use Rattle.gc_graph.specs.Streams.{bytes_left, source_failed}
use Rattle.gc_text.specs.Reading.{Place, IsAt}
use Rattle.gc_text.proofs.lines.Lines.more.Given as goal

abbrev pub invariant-loop-count : goal.invariant-loop-count
invariant-loop-count g l = record {
  place : (text : List ℕ) (place : Place) → IsAt text place l.initial.self (bytes_left g.R.Read.remaining l.initial.reader) → IsAt text place l.self (bytes_left g.R.Read.remaining l.reader);
  read : l.self.read ≡ l.initial.self.read + l.count;
  waiting : length l.self.waiting ≡ length l.initial.self.waiting + l.count;
  limit : l.self.limit ≡ l.initial.self.limit;
  taken : l.self.taken ≡ l.initial.self.taken;
  some : 1 ≤ l.wanted;
  enough : length l.initial.self.waiting ≤ l.wanted;
  later : source_failed l.initial.reader ≡ false → source_failed l.reader ≡ false;
  after_bytes : 0 < l.count → source_failed l.reader ≡ false;
  after_end : l.initial.self.ended ≡ false → l.self.ended ≡ true → source_failed l.reader ≡ false;
}

abbrev pub decreases-loop-count : goal.decreases-loop-count
decreases-loop-count g l = l.wanted - l.count + (if l.self.ended then 0 else 1)
