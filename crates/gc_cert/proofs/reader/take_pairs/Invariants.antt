-- So far, the lines of these pairs were taken, one for each turn, and each pair has addresses in range.
use Rattle.std.proofs.Common.{◌≡◌, ℕ, List, map, false}
use Rattle.gc_words.specs.Views.{addresses}
use Rattle.gc_graph.specs.Streams.{bytes_left, source_failed}
use Rattle.gc_cert.specs.Grammar.{pair_line, AreAddresses}
use Rattle.gc_text.specs.Reading.{IsAt}
use Rattle.gc_cert.specs.Faults.{limit}
use Rattle.gc_cert.specs.Internal.Sections.{AreAll}
use Rattle.gc_text.specs.Reading.{Place}
use Rattle.gc_cert.specs.Internal.Sections.{HasTaken}
use Rattle.gc_cert.proofs.reader.take_pairs.Given as goal

abbrev pub invariant-loop : goal.invariant-loop
invariant-loop g l = record {
  all : AreAll AreAddresses l.counter (map addresses l.pairs.items);
  place : (text : List ℕ) (p : Place) → IsAt text p l.initial.lines (bytes_left g.R.Read.remaining l.initial.reader) → (q : Place) × IsAt text q l.lines (bytes_left g.R.Read.remaining l.reader) × HasTaken (map pair_line (map addresses l.pairs.items)) p q;
  limit : l.lines.limit ≡ limit;
  good : source_failed l.reader ≡ false;
}
