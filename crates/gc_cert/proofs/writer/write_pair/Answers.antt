-- The printed lines are the text of the pair once the buffer is written, and if the writer fails, a prefix of the text went out.
use Rattle.std.proofs.Common.{arith}
use Rattle.std.proofs.lemmas.Grind.{common_steps}
use Rattle.gc_graph.proofs.Public.{sent_at_last}
use Rattle.gc_graph.specs.Streams.{bytes_written}
use Rattle.gc_cert.specs.Grammar.{lines_of, spelling}
use Rattle.gc_cert.specs.Views.{pair_of}
use Rattle.gc_cert.proofs.PrintedLines.{printed_out_front}
use Rattle.gc_cert.proofs.writer.write_pair.Goals as goal

pub returns-in_default-clause-err : goal.returns-in_default-clause-err
unfolding spelling
returns-in_default-clause-err g c = grind (arith, common_steps)

pub returns-in_default-flush-clause-err : goal.returns-in_default-flush-clause-err
unfolding spelling
returns-in_default-flush-clause-err g c =
    printed_out_front (bytes_written g.W.Write.contents c.args.writer.now) (bytes_written g.W.Write.contents c.print_text.new.writer) (bytes_written g.W.Write.contents c.flush.new.writer) (lines_of (pair_of c.args.old c.args.new c.args.pairs.now)) c.new-printer.result c.print_text.new.printer c.new-printer.ensures c.in-Ok.ensures.ok c.in_default-flush.ensures.err

pub returns-clause-ok : goal.returns-clause-ok
unfolding spelling
returns-clause-ok g c = grind (arith, common_steps, sent_at_last)
