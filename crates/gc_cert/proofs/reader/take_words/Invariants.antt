-- So far, the lines of these words were taken, one for each turn.
use Rattle.std.proofs.Common.{◌≡◌, ℕ, List, map, false}
use Rattle.std.specs.Fmt.{decimal}
use Rattle.gc_graph.specs.Streams.{bytes_left, source_failed}
use Rattle.gc_cert.specs.Grammar.{IsWord}
use Rattle.gc_text.specs.Reading.{IsAt}
use Rattle.gc_cert.specs.Faults.{limit}
use Rattle.gc_cert.specs.Internal.Sections.{AreAll}
use Rattle.gc_text.specs.Reading.{Place}
use Rattle.gc_cert.specs.Internal.Sections.{HasTaken}
use Rattle.gc_cert.proofs.reader.take_words.Given as goal

abbrev pub invariant-loop : goal.invariant-loop
invariant-loop g l = record {
  all : AreAll IsWord l.counter l.words.items;
  place : (text : List ℕ) (p : Place) → IsAt text p l.initial.lines (bytes_left g.R.Read.remaining l.initial.reader) → (q : Place) × IsAt text q l.lines (bytes_left g.R.Read.remaining l.reader) × HasTaken (map decimal l.words.items) p q;
  limit : l.lines.limit ≡ limit;
  good : source_failed l.reader ≡ false;
}
