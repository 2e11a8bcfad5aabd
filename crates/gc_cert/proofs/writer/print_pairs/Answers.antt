-- A turn prints the line of one more pair, and if the writer fails, a prefix of all these lines went out.
use Rattle.std.proofs.lemmas.Grind.{common_steps}
use Rattle.std.proofs.lemmas.List.{take_more, map-append}
use Rattle.std.proofs.Common.{subst, List, ℕ, arith, sym}
use Rattle.std.proofs.lemmas.Result.{err_from_is_err_and}
use Rattle.gc_graph.specs.Streams.{bytes_written}
use Rattle.gc_words.specs.Views.{addresses}
use Rattle.gc_words.specs.declared.image.Pair.{Pair}
use Rattle.gc_cert.specs.Grammar.{pair_line}
use Rattle.gc_cert.specs.Internal.PrintedLines.{Prints, PrintsFront}
use Rattle.std.proofs.lemmas.Simd.{map-map}
use Rattle.gc_cert.proofs.PrintedLines.{one_failed, all_printed, prints_then}
use Rattle.gc_cert.proofs.writer.print_pairs.Goals as goal

pub returns-in_err-print_pair-clause-err : goal.returns-in_err-print_pair-clause-err
returns-in_err-print_pair-clause-err g c =
    let p = err_from_is_err_and c.from_residual.result c.from_residual.ensures.1 in
    rw p.1 (subst (λ (ls : List (List ℕ)). PrintsFront ls (bytes_written g.W.Write.contents c.args.writer.now) (bytes_written g.W.Write.contents c.print_pair.new.writer) c.args.printer.now) (sym (map-map pair_line addresses c.args.pairs.now)) (one_failed (λ (p : Pair). pair_line (addresses p)) (bytes_written g.W.Write.contents c.args.writer.now) (bytes_written g.W.Write.contents c.loop-pair.writer) (bytes_written g.W.Write.contents c.print_pair.new.writer) c.args.pairs.now c.loop-pair.pair-index (record { old = record { 0 = 0 }; new = record { 0 = 0 } }) c.args.printer.now c.loop-pair.printer c.loop-pair-test.true c.loop-pair.invariant c.in_err-print_pair.ensures.err))

pub loop-pair-preserved : goal.loop-pair-preserved
loop-pair-preserved g c = grind (arith, common_steps, take_more, map-append, prints_then)

pub returns-clause-ok : goal.returns-clause-ok
returns-clause-ok g c = subst (λ (ls : List (List ℕ)). Prints ls (bytes_written g.W.Write.contents c.args.writer.now) (bytes_written g.W.Write.contents c.loop-pair.writer) c.args.printer.now c.loop-pair.printer) (sym (map-map pair_line addresses c.args.pairs.now)) (all_printed (λ (p : Pair). pair_line (addresses p)) (bytes_written g.W.Write.contents c.args.writer.now) (bytes_written g.W.Write.contents c.loop-pair.writer) c.args.pairs.now c.loop-pair.pair-index c.args.printer.now c.loop-pair.printer c.loop-pair-test.false c.loop-pair.invariant)
