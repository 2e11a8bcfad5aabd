-- If the buffer cannot be sent to make room for the word, what went out is a prefix of the text before it, and so of the longer one.
use Rattle.std.proofs.Common.{[], ◌∷◌}
use Rattle.std.specs.Fmt.{decimal}
use Rattle.std.proofs.lemmas.Result.{err_from_is_err_and}
use Rattle.gc_graph.specs.Streams.{bytes_written}
use Rattle.gc_cert.proofs.PrintedLines.{front_longer}
use Rattle.gc_cert.proofs.writer.print_word.Goals as goal

pub returns-in_err-make_room-clause-err : goal.returns-in_err-make_room-clause-err
returns-in_err-make_room-clause-err g c =
    let p = err_from_is_err_and c.from_residual.result c.from_residual.ensures.1 in
    rw p.1 (front_longer (bytes_written g.W.Write.contents c.args.writer.now) (bytes_written g.W.Write.contents c.make_room.new.writer) c.args.printer.now ((decimal c.args.word) ∷ []) c.in_err-make_room.ensures.err)
