-- The sizes, the words, the count and the roots are taken in order, and where one of them stops, the image does.
use Rattle.std.proofs.lemmas.Grind.{common_steps}
use Rattle.std.proofs.Common.{ℕ, ◌≤◌, [], ◌∷◌, ◌++◌, map, arith}
use Rattle.std.specs.Prelude.{codes}
use Rattle.std.specs.Fmt.{decimal}
use Rattle.std.proofs.lemmas.Result.{err_from_is_err_and}
use Rattle.gc_cert.specs.Grammar.{count_line, size_line, IsWord, AreSizes}
use Rattle.gc_cert.specs.Internal.Sections.{alone, AreAll}
use Rattle.gc_cert.proofs.Forms.{alone_delimits, all_delimit}
use Rattle.gc_cert.proofs.LineForms.{word_form, count_form, size_form}
use Rattle.gc_cert.proofs.Parts.{none_taken, ImageSection, image_fits, image_sizes, image_words, image_count, up_to_count, image_roots, image_taken}
use Rattle.gc_cert.proofs.ReadPieces.{end_within, taken_on}
use Rattle.gc_cert.proofs.reader.take_image.Goals as goal

pub take-requires-clause-some : goal.take-requires-clause-some
take-requires-clause-some g c = ((1, 1), (omega arith, omega arith, omega arith, omega arith))

pub returns-in_err-size-clause-place : goal.returns-in_err-size-clause-place
returns-in_err-size-clause-place g c text p h =
    let fault = err_from_is_err_and c.from_residual.result c.from_residual.ensures.1 in
    let raws = c.args.raws in
    let name = c.args.name.now in
    rw (fault.1, fault.2) (end_within AreSizes (alone (λ s. size_line name s.0 s.1)) (ImageSection raws name) [] text p p _ _
    (alone_delimits AreSizes (λ s. size_line name s.0 s.1) (size_form name)) (image_sizes raws name) (none_taken p) (c.in_err-size.ensures.place text p h))

pub returns-in_err-words-clause-place : goal.returns-in_err-words-clause-place
returns-in_err-words-clause-place g c text p h =
    let fault = err_from_is_err_and c.from_residual-in_err-words.result c.from_residual-in_err-words.ensures.1 in
    let raws = c.args.raws in
    let name = c.args.name.now in
    let s : ℕ × ℕ = (c.in_ok-size.size, c.in_ok-size.end) in
    let one = c.in_ok-size.ensures.place text p h in
    rw (fault.1, fault.2) (end_within (AreAll IsWord s.1) (map decimal) (ImageSection raws name) (size_line name s.0 s.1 ∷ []) text p one.0 _ _
    (all_delimit IsWord decimal s.1 word_form) (image_words raws name s c.in_ok-size.ensures.fits) one.2 (rw c.from.ensures at c.in_err-words.ensures.place text one.0 one.1))

pub returns-in_err-count-clause-place : goal.returns-in_err-count-clause-place
returns-in_err-count-clause-place g c text p h =
    let fault = err_from_is_err_and c.from_residual-in_err-count.result c.from_residual-in_err-count.ensures.1 in
    let raws = c.args.raws in
    let name = c.args.name.now in
    let s : ℕ × ℕ = (c.in_ok-size.size, c.in_ok-size.end) in
    let words = c.in_ok-words.words.items in
    let all : AreAll IsWord s.1 words = rw c.from.ensures at c.in_ok-words.ensures.fits in
    let two = taken_on c.in_ok-size.ensures.place c.in_ok-words.ensures.place text p h in
    rw (fault.1, fault.2) (end_within (λ n. n ≤ 272) (alone (count_line (codes "roots"))) (ImageSection raws name) ((size_line name s.0 s.1 ∷ []) ++ map decimal words) text p two.0 _ _
    (alone_delimits (λ n. n ≤ 272) (count_line (codes "roots")) (count_form (codes "roots") 272 (omega arith))) (image_count raws name s words c.in_ok-size.ensures.fits all)
    two.2 (c.in_err-count.ensures.place text two.0 two.1))

pub returns-in_err-roots-clause-place : goal.returns-in_err-roots-clause-place
returns-in_err-roots-clause-place g c text p h =
    let fault = err_from_is_err_and c.from_residual-in_err-roots.result c.from_residual-in_err-roots.ensures.1 in
    let raws = c.args.raws in
    let name = c.args.name.now in
    let s : ℕ × ℕ = (c.in_ok-size.size, c.in_ok-size.end) in
    let words = c.in_ok-words.words.items in
    let n = c.in_ok-count.count in
    let three = taken_on (taken_on c.in_ok-size.ensures.place c.in_ok-words.ensures.place) c.in_ok-count.ensures.place text p h in
    rw (fault.1, fault.2) (end_within (AreAll IsWord n) (map decimal) (ImageSection raws name) (up_to_count name s words n) text p three.0 _ _
    (all_delimit IsWord decimal n word_form) (image_roots raws name s words n c.in_ok-size.ensures.fits (rw c.from.ensures at c.in_ok-words.ensures.fits) c.in_ok-count.ensures.fits)
    three.2 (c.in_err-roots.ensures.place text three.0 three.1))

pub returns-clause-fits : goal.returns-clause-fits
returns-clause-fits g c = grind (arith, common_steps, image_fits)

pub returns-clause-place : goal.returns-clause-place
returns-clause-place g c text p h =
    let raws = c.args.raws in
    let name = c.args.name.now in
    let s : ℕ × ℕ = (c.in_ok-size.size, c.in_ok-size.end) in
    let words = c.in_ok-words.words.items in
    let n = c.in_ok-count.count in
    let roots = c.in_ok-roots.roots.items in
    let all : AreAll IsWord s.1 words = rw c.from.ensures at c.in_ok-words.ensures.fits in
    let four = taken_on (taken_on (taken_on c.in_ok-size.ensures.place c.in_ok-words.ensures.place) c.in_ok-count.ensures.place) c.in_ok-roots.ensures.place text p h in
    let taken = image_taken raws name s words roots n p four.0 c.in_ok-size.ensures.fits all c.in_ok-count.ensures.fits c.in_ok-roots.ensures.fits four.2 in
    (four.0, four.1, taken.1)
