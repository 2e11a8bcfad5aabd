-- The sizes, the words, the count and the roots are printed in order, and if the writer fails, a prefix of them went out.
use Rattle.std.proofs.Common.{ℕ, List, [], ◌∷◌, ◌++◌, map, refl, sym, ap, ◌∙◌, subst, length}
use Rattle.std.specs.Prelude.{codes}
use Rattle.std.specs.Fmt.{decimal}
use Rattle.std.proofs.lemmas.List.{append-nil}
use Rattle.std.proofs.lemmas.Result.{err_from_is_err_and}
use Rattle.gc_graph.specs.Streams.{bytes_written}
use Rattle.gc_words.specs.Views.{image_of}
use Rattle.gc_cert.specs.Grammar.{count_line, size_line}
use Rattle.gc_cert.specs.Internal.Grammar.{image_alone}
use Rattle.gc_cert.specs.Internal.PrintedLines.{Prints}
use Rattle.gc_cert.proofs.Parts.{whole_image, up_to_count}
use Rattle.gc_cert.proofs.PrintedLines.{front_within, prints_then, none_printed}
use Rattle.gc_cert.proofs.writer.print_image.Goals as goal

pub returns-in_err-print_sizes-clause-err : goal.returns-in_err-print_sizes-clause-err
returns-in_err-print_sizes-clause-err g c =
    let p = err_from_is_err_and c.from_residual.result c.from_residual.ensures.1 in
    rw p.1 (front_within (bytes_written g.W.Write.contents c.args.writer.now) (bytes_written g.W.Write.contents c.args.writer.now) (bytes_written g.W.Write.contents c.print_sizes.new.writer) ([]) (size_line c.args.name.now c.args.image.now.size c.args.image.now.end ∷ []) (map decimal c.args.image.now.words.now ++ ((count_line (codes "roots") (length c.args.image.now.roots.now) ∷ []) ++ (map decimal c.args.image.now.roots.now ++ []))) (image_alone c.args.name.now (image_of c.args.image.now)) c.args.printer.now c.args.printer.now (none_printed (bytes_written g.W.Write.contents c.args.writer.now) c.args.printer.now) c.in_err-print_sizes.ensures.err (refl))

pub returns-in_err-print_words-clause-err : goal.returns-in_err-print_words-clause-err
returns-in_err-print_words-clause-err g c =
    let p = err_from_is_err_and c.from_residual-in_err-print_words.result c.from_residual-in_err-print_words.ensures.1 in
    rw p.1 (front_within (bytes_written g.W.Write.contents c.args.writer.now) (bytes_written g.W.Write.contents c.print_sizes.new.writer) (bytes_written g.W.Write.contents c.print_words.new.writer) (size_line c.args.name.now c.args.image.now.size c.args.image.now.end ∷ []) (map decimal c.args.image.now.words.now) ((count_line (codes "roots") (length c.args.image.now.roots.now) ∷ []) ++ (map decimal c.args.image.now.roots.now ++ [])) (image_alone c.args.name.now (image_of c.args.image.now)) c.args.printer.now c.print_sizes.new.printer (c.in_ok-print_sizes.ensures.ok) c.in_err-print_words.ensures.err (refl))

pub returns-in_err-print_count-clause-err : goal.returns-in_err-print_count-clause-err
returns-in_err-print_count-clause-err g c =
    let p = err_from_is_err_and c.from_residual-in_err-print_count.result c.from_residual-in_err-print_count.ensures.1 in
    rw p.1 (front_within (bytes_written g.W.Write.contents c.args.writer.now) (bytes_written g.W.Write.contents c.print_words.new.writer) (bytes_written g.W.Write.contents c.print_count.new.writer) ((size_line c.args.name.now c.args.image.now.size c.args.image.now.end ∷ []) ++ (map decimal c.args.image.now.words.now)) (count_line (codes "roots") (length c.args.image.now.roots.now) ∷ []) (map decimal c.args.image.now.roots.now ++ []) (image_alone c.args.name.now (image_of c.args.image.now)) c.args.printer.now c.print_words.new.printer (prints_then (bytes_written g.W.Write.contents c.args.writer.now) (bytes_written g.W.Write.contents c.print_sizes.new.writer) (bytes_written g.W.Write.contents c.print_words.new.writer) (size_line c.args.name.now c.args.image.now.size c.args.image.now.end ∷ []) (map decimal c.args.image.now.words.now) c.args.printer.now c.print_sizes.new.printer c.print_words.new.printer (c.in_ok-print_sizes.ensures.ok) c.in_ok-print_words.ensures.ok) c.in_err-print_count.ensures.err (whole_image c.args.name.now (c.args.image.now.size, c.args.image.now.end) c.args.image.now.words.now (length c.args.image.now.roots.now) (map decimal c.args.image.now.roots.now ++ [])))

pub returns-in_err-print_words-2-clause-err : goal.returns-in_err-print_words-2-clause-err
returns-in_err-print_words-2-clause-err g c =
    let p = err_from_is_err_and c.from_residual-in_err-print_words-2.result c.from_residual-in_err-print_words-2.ensures.1 in
    rw p.1 (front_within (bytes_written g.W.Write.contents c.args.writer.now) (bytes_written g.W.Write.contents c.print_count.new.writer) (bytes_written g.W.Write.contents c.print_words-2.new.writer) (((size_line c.args.name.now c.args.image.now.size c.args.image.now.end ∷ []) ++ (map decimal c.args.image.now.words.now)) ++ (count_line (codes "roots") (length c.args.image.now.roots.now) ∷ [])) (map decimal c.args.image.now.roots.now) ([]) (image_alone c.args.name.now (image_of c.args.image.now)) c.args.printer.now c.print_count.new.printer (prints_then (bytes_written g.W.Write.contents c.args.writer.now) (bytes_written g.W.Write.contents c.print_words.new.writer) (bytes_written g.W.Write.contents c.print_count.new.writer) ((size_line c.args.name.now c.args.image.now.size c.args.image.now.end ∷ []) ++ (map decimal c.args.image.now.words.now)) (count_line (codes "roots") (length c.args.image.now.roots.now) ∷ []) c.args.printer.now c.print_words.new.printer c.print_count.new.printer (prints_then (bytes_written g.W.Write.contents c.args.writer.now) (bytes_written g.W.Write.contents c.print_sizes.new.writer) (bytes_written g.W.Write.contents c.print_words.new.writer) (size_line c.args.name.now c.args.image.now.size c.args.image.now.end ∷ []) (map decimal c.args.image.now.words.now) c.args.printer.now c.print_sizes.new.printer c.print_words.new.printer (c.in_ok-print_sizes.ensures.ok) c.in_ok-print_words.ensures.ok) c.in_ok-print_count.ensures.ok) c.in_err-print_words-2.ensures.err (append-nil (up_to_count c.args.name.now (c.args.image.now.size, c.args.image.now.end) c.args.image.now.words.now (length c.args.image.now.roots.now) ++ map decimal c.args.image.now.roots.now) ∙ ap (λ (ls : List (List ℕ)). up_to_count c.args.name.now (c.args.image.now.size, c.args.image.now.end) c.args.image.now.words.now (length c.args.image.now.roots.now) ++ ls) (sym (append-nil (map decimal c.args.image.now.roots.now))) ∙ whole_image c.args.name.now (c.args.image.now.size, c.args.image.now.end) c.args.image.now.words.now (length c.args.image.now.roots.now) (map decimal c.args.image.now.roots.now ++ [])))

pub returns-clause-ok : goal.returns-clause-ok
returns-clause-ok g c = subst (λ (ls : List (List ℕ)). Prints ls (bytes_written g.W.Write.contents c.args.writer.now) (bytes_written g.W.Write.contents c.print_words-2.new.writer) c.args.printer.now c.print_words-2.new.printer) (ap (λ (ls : List (List ℕ)). up_to_count c.args.name.now (c.args.image.now.size, c.args.image.now.end) c.args.image.now.words.now (length c.args.image.now.roots.now) ++ ls) (sym (append-nil (map decimal c.args.image.now.roots.now))) ∙ whole_image c.args.name.now (c.args.image.now.size, c.args.image.now.end) c.args.image.now.words.now (length c.args.image.now.roots.now) (map decimal c.args.image.now.roots.now ++ [])) (prints_then (bytes_written g.W.Write.contents c.args.writer.now) (bytes_written g.W.Write.contents c.print_count.new.writer) (bytes_written g.W.Write.contents c.print_words-2.new.writer) (((size_line c.args.name.now c.args.image.now.size c.args.image.now.end ∷ []) ++ (map decimal c.args.image.now.words.now)) ++ (count_line (codes "roots") (length c.args.image.now.roots.now) ∷ [])) (map decimal c.args.image.now.roots.now) c.args.printer.now c.print_count.new.printer c.print_words-2.new.printer (prints_then (bytes_written g.W.Write.contents c.args.writer.now) (bytes_written g.W.Write.contents c.print_words.new.writer) (bytes_written g.W.Write.contents c.print_count.new.writer) ((size_line c.args.name.now c.args.image.now.size c.args.image.now.end ∷ []) ++ (map decimal c.args.image.now.words.now)) (count_line (codes "roots") (length c.args.image.now.roots.now) ∷ []) c.args.printer.now c.print_words.new.printer c.print_count.new.printer (prints_then (bytes_written g.W.Write.contents c.args.writer.now) (bytes_written g.W.Write.contents c.print_sizes.new.writer) (bytes_written g.W.Write.contents c.print_words.new.writer) (size_line c.args.name.now c.args.image.now.size c.args.image.now.end ∷ []) (map decimal c.args.image.now.words.now) c.args.printer.now c.print_sizes.new.printer c.print_words.new.printer (c.in_ok-print_sizes.ensures.ok) c.in_ok-print_words.ensures.ok) c.in_ok-print_count.ensures.ok) c.in_ok-print_words-2.ensures.ok)
