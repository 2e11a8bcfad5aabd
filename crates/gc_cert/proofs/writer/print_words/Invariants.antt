-- The lines of the words so far are printed.
use Rattle.std.proofs.Common.{map, take}
use Rattle.std.specs.Fmt.{decimal}
use Rattle.gc_graph.specs.Streams.{bytes_written}
use Rattle.gc_cert.specs.Internal.PrintedLines.{Prints}
use Rattle.gc_cert.proofs.writer.print_words.Given as goal

abbrev pub invariant-loop-word : goal.invariant-loop-word
invariant-loop-word g l = Prints (map decimal (take l.word-index l.words)) (bytes_written g.W.Write.contents l.initial.writer) (bytes_written g.W.Write.contents l.writer) l.initial.printer l.printer
