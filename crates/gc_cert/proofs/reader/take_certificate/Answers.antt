-- The count, the pairs and the last line are taken in order, and where one of them stops, the certificate does.
use Rattle.std.proofs.Common.{◌≤◌, [], ◌∷◌, map, arith}
use Rattle.std.specs.Prelude.{codes}
use Rattle.std.proofs.lemmas.Result.{err_from_is_err_and}
use Rattle.gc_words.specs.Views.{addresses}
use Rattle.gc_cert.specs.Grammar.{pair_line, count_line, AreAddresses}
use Rattle.gc_cert.specs.Internal.Sections.{Nothing, alone, AreAll}
use Rattle.gc_cert.proofs.Forms.{alone_delimits, all_delimit}
use Rattle.gc_cert.proofs.LineForms.{fixed_form, count_form, pair_form}
use Rattle.gc_cert.proofs.Parts.{none_taken, CertificateSection, pairs_line, certificate_count, certificate_pairs, up_to_end, certificate_end, certificate_taken}
use Rattle.gc_cert.proofs.ReadPieces.{end_within, taken_on}
use Rattle.gc_cert.proofs.reader.take_certificate.Goals as goal

pub returns-in_err-count-clause-place : goal.returns-in_err-count-clause-place
returns-in_err-count-clause-place g c text p h =
    let fault = err_from_is_err_and c.from_residual.result c.from_residual.ensures.1 in
    rw (fault.1, fault.2) (end_within (λ n. n ≤ 524287) (alone (count_line (codes "pairs"))) CertificateSection [] text p p _ _
    (alone_delimits (λ n. n ≤ 524287) (count_line (codes "pairs")) (count_form (codes "pairs") 524287 (omega arith))) certificate_count (none_taken p) (c.in_err-count.ensures.place text p h))

pub returns-in_err-pairs-clause-place : goal.returns-in_err-pairs-clause-place
returns-in_err-pairs-clause-place g c text p h =
    let fault = err_from_is_err_and c.from_residual-in_err-pairs.result c.from_residual-in_err-pairs.ensures.1 in
    let one = c.in_ok-count.ensures.place text p h in
    rw (fault.1, fault.2) (end_within (AreAll AreAddresses c.in_ok-count.count) (map pair_line) CertificateSection (pairs_line c.in_ok-count.count ∷ []) text p one.0 _ _
    (all_delimit AreAddresses pair_line c.in_ok-count.count pair_form) (certificate_pairs c.in_ok-count.count c.in_ok-count.ensures.fits) one.2 (c.in_err-pairs.ensures.place text one.0 one.1))

pub returns-in_err-take-clause-place : goal.returns-in_err-take-clause-place
returns-in_err-take-clause-place g c text p h =
    let fault = err_from_is_err_and c.from_residual-in_err-take.result c.from_residual-in_err-take.ensures.1 in
    let n = c.in_ok-count.count in
    let pairs = map addresses c.in_ok-pairs.pairs.items in
    let two = taken_on c.in_ok-count.ensures.place c.in_ok-pairs.ensures.place text p h in
    rw (fault.1, fault.2) (end_within Nothing (alone (λ _. codes "end")) CertificateSection (up_to_end n pairs) text p two.0 _ _
    (alone_delimits Nothing (λ _. codes "end") (fixed_form (codes "end"))) (certificate_end n pairs c.in_ok-count.ensures.fits c.in_ok-pairs.ensures.fits) two.2 (c.in_err-take.ensures.place text two.0 two.1))

pub returns-clause-place : goal.returns-clause-place
returns-clause-place g c text p h =
    let n = c.in_ok-count.count in
    let pairs = map addresses c.in_ok-pairs.pairs.items in
    let three = taken_on (taken_on c.in_ok-count.ensures.place c.in_ok-pairs.ensures.place) c.in_ok-take.ensures.place text p h in
    let taken = certificate_taken n pairs p three.0 c.in_ok-count.ensures.fits c.in_ok-pairs.ensures.fits three.2 in
    (three.0, three.1, taken.1)
