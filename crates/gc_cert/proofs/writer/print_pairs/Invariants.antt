-- The lines of the pairs so far are printed.
use Rattle.std.proofs.Common.{map, take}
use Rattle.gc_graph.specs.Streams.{bytes_written}
use Rattle.gc_words.specs.Views.{addresses}
use Rattle.gc_words.specs.declared.image.Pair.{Pair}
use Rattle.gc_cert.specs.Grammar.{pair_line}
use Rattle.gc_cert.specs.Internal.PrintedLines.{Prints}
use Rattle.gc_cert.proofs.writer.print_pairs.Given as goal

abbrev pub invariant-loop-pair : goal.invariant-loop-pair
invariant-loop-pair g l = Prints (map (λ (p : Pair). pair_line (addresses p)) (take l.pair-index l.pairs)) (bytes_written g.W.Write.contents l.initial.writer) (bytes_written g.W.Write.contents l.writer) l.initial.printer l.printer
