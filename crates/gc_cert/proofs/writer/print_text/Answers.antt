-- The heading, both images and the certificate are printed in order, and if the writer fails, a prefix of them went out.
use Rattle.std.proofs.Common.{ℕ, refl, List, [], ◌∷◌, ◌++◌, map, ◌∙◌, subst, append_assoc}
use Rattle.std.specs.Prelude.{codes}
use Rattle.std.proofs.lemmas.List.{append-nil}
use Rattle.std.proofs.lemmas.Result.{err_from_is_err_and}
use Rattle.gc_graph.specs.Streams.{bytes_written}
use Rattle.gc_words.specs.Views.{image_of, addresses}
use Rattle.gc_cert.specs.Grammar.{heading, certificate_lines, lines_of}
use Rattle.gc_cert.specs.Internal.Grammar.{image_alone}
use Rattle.gc_cert.specs.Internal.PrintedLines.{Prints}
use Rattle.gc_cert.specs.Views.{pair_of}
use Rattle.gc_cert.proofs.Parts.{three_parts, both_images}
use Rattle.gc_cert.proofs.PrintedLines.{front_within, prints_then, none_printed}
use Rattle.gc_cert.proofs.writer.print_text.Goals as goal

pub returns-in_err-print_heading-clause-err : goal.returns-in_err-print_heading-clause-err
returns-in_err-print_heading-clause-err g c =
    let p = err_from_is_err_and c.from_residual.result c.from_residual.ensures.1 in
    rw p.1 (front_within (bytes_written g.W.Write.contents c.args.writer.now) (bytes_written g.W.Write.contents c.args.writer.now) (bytes_written g.W.Write.contents c.print_heading.new.writer) ([]) (heading c.args.old.now.raws ∷ []) (image_alone (codes "old") (image_of c.args.old.now) ++ (image_alone (codes "new") (image_of c.args.new.now) ++ certificate_lines (map addresses c.args.pairs.now))) (lines_of (pair_of c.args.old.now c.args.new.now c.args.pairs.now)) c.args.printer.now c.args.printer.now (none_printed (bytes_written g.W.Write.contents c.args.writer.now) c.args.printer.now) c.in_err-print_heading.ensures.err (three_parts c.args.old.now.raws (image_of c.args.old.now) (image_of c.args.new.now) (map addresses c.args.pairs.now) refl))

pub returns-in_err-print_image-clause-err : goal.returns-in_err-print_image-clause-err
returns-in_err-print_image-clause-err g c =
    let p = err_from_is_err_and c.from_residual-in_err-print_image.result c.from_residual-in_err-print_image.ensures.1 in
    rw p.1 (front_within (bytes_written g.W.Write.contents c.args.writer.now) (bytes_written g.W.Write.contents c.print_heading.new.writer) (bytes_written g.W.Write.contents c.print_image.new.writer) (heading c.args.old.now.raws ∷ []) (image_alone (codes "old") (image_of c.args.old.now)) (image_alone (codes "new") (image_of c.args.new.now) ++ certificate_lines (map addresses c.args.pairs.now)) (lines_of (pair_of c.args.old.now c.args.new.now c.args.pairs.now)) c.args.printer.now c.print_heading.new.printer (c.in_ok-print_heading.ensures.ok) c.in_err-print_image.ensures.err (three_parts c.args.old.now.raws (image_of c.args.old.now) (image_of c.args.new.now) (map addresses c.args.pairs.now) refl))

pub returns-in_err-print_image-2-clause-err : goal.returns-in_err-print_image-2-clause-err
returns-in_err-print_image-2-clause-err g c =
    let p = err_from_is_err_and c.from_residual-in_err-print_image-2.result c.from_residual-in_err-print_image-2.ensures.1 in
    rw p.1 (front_within (bytes_written g.W.Write.contents c.args.writer.now) (bytes_written g.W.Write.contents c.print_image.new.writer) (bytes_written g.W.Write.contents c.print_image-2.new.writer) ((heading c.args.old.now.raws ∷ []) ++ (image_alone (codes "old") (image_of c.args.old.now))) (image_alone (codes "new") (image_of c.args.new.now)) (certificate_lines (map addresses c.args.pairs.now)) (lines_of (pair_of c.args.old.now c.args.new.now c.args.pairs.now)) c.args.printer.now c.print_image.new.printer (prints_then (bytes_written g.W.Write.contents c.args.writer.now) (bytes_written g.W.Write.contents c.print_heading.new.writer) (bytes_written g.W.Write.contents c.print_image.new.writer) (heading c.args.old.now.raws ∷ []) (image_alone (codes "old") (image_of c.args.old.now)) c.args.printer.now c.print_heading.new.printer c.print_image.new.printer (c.in_ok-print_heading.ensures.ok) c.in_ok-print_image.ensures.ok) c.in_err-print_image-2.ensures.err (append_assoc ((heading c.args.old.now.raws ∷ []) ++ image_alone (codes "old") (image_of c.args.old.now)) (image_alone (codes "new") (image_of c.args.new.now)) (certificate_lines (map addresses c.args.pairs.now)) ∙ three_parts c.args.old.now.raws (image_of c.args.old.now) (image_of c.args.new.now) (map addresses c.args.pairs.now) refl))

pub returns-in_err-print_certificate-clause-err : goal.returns-in_err-print_certificate-clause-err
returns-in_err-print_certificate-clause-err g c =
    let p = err_from_is_err_and c.from_residual-in_err-print_certificate.result c.from_residual-in_err-print_certificate.ensures.1 in
    rw p.1 (front_within (bytes_written g.W.Write.contents c.args.writer.now) (bytes_written g.W.Write.contents c.print_image-2.new.writer) (bytes_written g.W.Write.contents c.print_certificate.new.writer) (((heading c.args.old.now.raws ∷ []) ++ (image_alone (codes "old") (image_of c.args.old.now))) ++ (image_alone (codes "new") (image_of c.args.new.now))) (certificate_lines (map addresses c.args.pairs.now)) ([]) (lines_of (pair_of c.args.old.now c.args.new.now c.args.pairs.now)) c.args.printer.now c.print_image-2.new.printer (prints_then (bytes_written g.W.Write.contents c.args.writer.now) (bytes_written g.W.Write.contents c.print_image.new.writer) (bytes_written g.W.Write.contents c.print_image-2.new.writer) ((heading c.args.old.now.raws ∷ []) ++ (image_alone (codes "old") (image_of c.args.old.now))) (image_alone (codes "new") (image_of c.args.new.now)) c.args.printer.now c.print_image.new.printer c.print_image-2.new.printer (prints_then (bytes_written g.W.Write.contents c.args.writer.now) (bytes_written g.W.Write.contents c.print_heading.new.writer) (bytes_written g.W.Write.contents c.print_image.new.writer) (heading c.args.old.now.raws ∷ []) (image_alone (codes "old") (image_of c.args.old.now)) c.args.printer.now c.print_heading.new.printer c.print_image.new.printer (c.in_ok-print_heading.ensures.ok) c.in_ok-print_image.ensures.ok) c.in_ok-print_image-2.ensures.ok) c.in_err-print_certificate.ensures.err (append-nil (both_images c.args.old.now.raws (image_of c.args.old.now) (image_of c.args.new.now) ++ certificate_lines (map addresses c.args.pairs.now)) ∙ append_assoc ((heading c.args.old.now.raws ∷ []) ++ image_alone (codes "old") (image_of c.args.old.now)) (image_alone (codes "new") (image_of c.args.new.now)) (certificate_lines (map addresses c.args.pairs.now)) ∙ three_parts c.args.old.now.raws (image_of c.args.old.now) (image_of c.args.new.now) (map addresses c.args.pairs.now) refl))

pub returns-clause-ok : goal.returns-clause-ok
returns-clause-ok g c = subst (λ (ls : List (List ℕ)). Prints ls (bytes_written g.W.Write.contents c.args.writer.now) (bytes_written g.W.Write.contents c.print_certificate.new.writer) c.args.printer.now c.print_certificate.new.printer) (append_assoc ((heading c.args.old.now.raws ∷ []) ++ image_alone (codes "old") (image_of c.args.old.now)) (image_alone (codes "new") (image_of c.args.new.now)) (certificate_lines (map addresses c.args.pairs.now)) ∙ three_parts c.args.old.now.raws (image_of c.args.old.now) (image_of c.args.new.now) (map addresses c.args.pairs.now) refl) (prints_then (bytes_written g.W.Write.contents c.args.writer.now) (bytes_written g.W.Write.contents c.print_image-2.new.writer) (bytes_written g.W.Write.contents c.print_certificate.new.writer) (((heading c.args.old.now.raws ∷ []) ++ (image_alone (codes "old") (image_of c.args.old.now))) ++ (image_alone (codes "new") (image_of c.args.new.now))) (certificate_lines (map addresses c.args.pairs.now)) c.args.printer.now c.print_image-2.new.printer c.print_certificate.new.printer (prints_then (bytes_written g.W.Write.contents c.args.writer.now) (bytes_written g.W.Write.contents c.print_image.new.writer) (bytes_written g.W.Write.contents c.print_image-2.new.writer) ((heading c.args.old.now.raws ∷ []) ++ (image_alone (codes "old") (image_of c.args.old.now))) (image_alone (codes "new") (image_of c.args.new.now)) c.args.printer.now c.print_image.new.printer c.print_image-2.new.printer (prints_then (bytes_written g.W.Write.contents c.args.writer.now) (bytes_written g.W.Write.contents c.print_heading.new.writer) (bytes_written g.W.Write.contents c.print_image.new.writer) (heading c.args.old.now.raws ∷ []) (image_alone (codes "old") (image_of c.args.old.now)) c.args.printer.now c.print_heading.new.printer c.print_image.new.printer (c.in_ok-print_heading.ensures.ok) c.in_ok-print_image.ensures.ok) c.in_ok-print_image-2.ensures.ok) c.in_ok-print_certificate.ensures.ok)
