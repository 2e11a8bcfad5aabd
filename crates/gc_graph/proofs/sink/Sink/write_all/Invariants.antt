-- What was sent so far and the rest are together the text.
use Rattle.std.proofs.Common.{length}
use Rattle.gc_graph.specs.Streams.{bytes_written, HasSent}
use Rattle.gc_graph.proofs.sink.Sink.write_all.Given as goal

abbrev pub invariant-loop-rest : goal.invariant-loop-rest
invariant-loop-rest g l = HasSent (bytes_written g.W.Write.contents l.initial.self) (bytes_written g.W.Write.contents l.self) l.text l.rest

abbrev pub decreases-loop-rest : goal.decreases-loop-rest
decreases-loop-rest g l = length l.rest
