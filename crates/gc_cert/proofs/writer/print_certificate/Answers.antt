-- The count, the pairs and the last line are printed in order, and if the writer fails, a prefix of them went out.
use Rattle.std.proofs.Common.{ℕ, List, [], ◌∷◌, ◌++◌, map, sym, ap, ◌∙◌, subst, length}
use Rattle.std.specs.Prelude.{codes}
use Rattle.std.proofs.lemmas.List.{append-nil, length-map}
use Rattle.std.proofs.lemmas.Result.{err_from_is_err_and}
use Rattle.gc_graph.specs.Streams.{bytes_written}
use Rattle.gc_words.specs.Views.{addresses}
use Rattle.gc_cert.specs.Grammar.{pair_line, count_line, certificate_lines}
use Rattle.gc_cert.specs.Internal.PrintedLines.{Prints}
use Rattle.gc_cert.proofs.Parts.{pairs_line}
use Rattle.gc_cert.proofs.PrintedLines.{front_within, prints_then, none_printed}
use Rattle.gc_cert.proofs.writer.print_certificate.Goals as goal

pub returns-in_err-print_count-clause-err : goal.returns-in_err-print_count-clause-err
returns-in_err-print_count-clause-err g c =
    let p = err_from_is_err_and c.from_residual.result c.from_residual.ensures.1 in
    rw p.1 (front_within (bytes_written g.W.Write.contents c.args.writer.now) (bytes_written g.W.Write.contents c.args.writer.now) (bytes_written g.W.Write.contents c.print_count.new.writer) ([]) (count_line (codes "pairs") (length c.args.pairs.now) ∷ []) (map pair_line (map addresses c.args.pairs.now) ++ codes "end" ∷ []) (certificate_lines (map addresses c.args.pairs.now)) c.args.printer.now c.args.printer.now (none_printed (bytes_written g.W.Write.contents c.args.writer.now) c.args.printer.now) c.in_err-print_count.ensures.err (ap (λ (n : ℕ). pairs_line n ∷ (map pair_line (map addresses c.args.pairs.now) ++ codes "end" ∷ [])) (sym (length-map c.args.pairs.now addresses))))

pub returns-in_err-print_pairs-clause-err : goal.returns-in_err-print_pairs-clause-err
returns-in_err-print_pairs-clause-err g c =
    let p = err_from_is_err_and c.from_residual-in_err-print_pairs.result c.from_residual-in_err-print_pairs.ensures.1 in
    rw p.1 (front_within (bytes_written g.W.Write.contents c.args.writer.now) (bytes_written g.W.Write.contents c.print_count.new.writer) (bytes_written g.W.Write.contents c.print_pairs.new.writer) (count_line (codes "pairs") (length c.args.pairs.now) ∷ []) (map pair_line (map addresses c.args.pairs.now)) (codes "end" ∷ []) (certificate_lines (map addresses c.args.pairs.now)) c.args.printer.now c.print_count.new.printer (c.in_ok-print_count.ensures.ok) c.in_err-print_pairs.ensures.err (ap (λ (n : ℕ). pairs_line n ∷ (map pair_line (map addresses c.args.pairs.now) ++ codes "end" ∷ [])) (sym (length-map c.args.pairs.now addresses))))

pub returns-in_err-print_line-clause-err : goal.returns-in_err-print_line-clause-err
returns-in_err-print_line-clause-err g c =
    let p = err_from_is_err_and c.from_residual-in_err-print_line.result c.from_residual-in_err-print_line.ensures.1 in
    rw p.1 (front_within (bytes_written g.W.Write.contents c.args.writer.now) (bytes_written g.W.Write.contents c.print_pairs.new.writer) (bytes_written g.W.Write.contents c.print_line.new.writer) ((count_line (codes "pairs") (length c.args.pairs.now) ∷ []) ++ (map pair_line (map addresses c.args.pairs.now))) (codes "end" ∷ []) ([]) (certificate_lines (map addresses c.args.pairs.now)) c.args.printer.now c.print_pairs.new.printer (prints_then (bytes_written g.W.Write.contents c.args.writer.now) (bytes_written g.W.Write.contents c.print_count.new.writer) (bytes_written g.W.Write.contents c.print_pairs.new.writer) (count_line (codes "pairs") (length c.args.pairs.now) ∷ []) (map pair_line (map addresses c.args.pairs.now)) c.args.printer.now c.print_count.new.printer c.print_pairs.new.printer (c.in_ok-print_count.ensures.ok) c.in_ok-print_pairs.ensures.ok) c.in_err-print_line.ensures.err (append-nil (((count_line (codes "pairs") (length c.args.pairs.now) ∷ []) ++ map pair_line (map addresses c.args.pairs.now)) ++ codes "end" ∷ []) ∙ ap (λ (n : ℕ). pairs_line n ∷ (map pair_line (map addresses c.args.pairs.now) ++ codes "end" ∷ [])) (sym (length-map c.args.pairs.now addresses))))

pub returns-clause-ok : goal.returns-clause-ok
returns-clause-ok g c = subst (λ (ls : List (List ℕ)). Prints ls (bytes_written g.W.Write.contents c.args.writer.now) (bytes_written g.W.Write.contents c.print_line.new.writer) c.args.printer.now c.print_line.new.printer) (ap (λ (n : ℕ). pairs_line n ∷ (map pair_line (map addresses c.args.pairs.now) ++ codes "end" ∷ [])) (sym (length-map c.args.pairs.now addresses))) (prints_then (bytes_written g.W.Write.contents c.args.writer.now) (bytes_written g.W.Write.contents c.print_pairs.new.writer) (bytes_written g.W.Write.contents c.print_line.new.writer) ((count_line (codes "pairs") (length c.args.pairs.now) ∷ []) ++ (map pair_line (map addresses c.args.pairs.now))) (codes "end" ∷ []) c.args.printer.now c.print_pairs.new.printer c.print_line.new.printer (prints_then (bytes_written g.W.Write.contents c.args.writer.now) (bytes_written g.W.Write.contents c.print_count.new.writer) (bytes_written g.W.Write.contents c.print_pairs.new.writer) (count_line (codes "pairs") (length c.args.pairs.now) ∷ []) (map pair_line (map addresses c.args.pairs.now)) c.args.printer.now c.print_count.new.printer c.print_pairs.new.printer (c.in_ok-print_count.ensures.ok) c.in_ok-print_pairs.ensures.ok) c.in_ok-print_line.ensures.ok)
