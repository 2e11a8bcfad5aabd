-- A turn prints the line of one more word, and if the writer fails, a prefix of all these lines went out.
use Rattle.std.proofs.Common.{arith}
use Rattle.std.proofs.lemmas.Grind.{common_steps}
use Rattle.std.proofs.lemmas.List.{take_more, map-append}
use Rattle.std.specs.Fmt.{decimal}
use Rattle.std.proofs.lemmas.Result.{err_from_is_err_and}
use Rattle.gc_graph.specs.Streams.{bytes_written}
use Rattle.gc_cert.proofs.PrintedLines.{one_failed, prints_then}
use Rattle.gc_cert.proofs.writer.print_words.Goals as goal

pub returns-in_err-print_word-clause-err : goal.returns-in_err-print_word-clause-err
returns-in_err-print_word-clause-err g c =
    let p = err_from_is_err_and c.from_residual.result c.from_residual.ensures.1 in
    rw p.1 (one_failed decimal (bytes_written g.W.Write.contents c.args.writer.now) (bytes_written g.W.Write.contents c.loop-word.writer) (bytes_written g.W.Write.contents c.print_word.new.writer) c.args.words.now c.loop-word.word-index 0 c.args.printer.now c.loop-word.printer c.loop-word-test.true c.loop-word.invariant c.in_err-print_word.ensures.err)

pub loop-word-preserved : goal.loop-word-preserved
loop-word-preserved g c = grind (arith, common_steps, take_more, map-append, prints_then)
