-- The heading, both images and the certificate are taken in order, and the first fault of a part is that of the text.
use Rattle.std.proofs.Common.{ℕ, List, [], ◌∷◌, ◌++◌, map}
use Rattle.std.specs.Prelude.{codes}
use Rattle.std.proofs.lemmas.Result.{err_from_is_err_and}
use Rattle.gc_words.specs.Views.{addresses}
use Rattle.gc_cert.specs.Grammar.{heading, certificate_lines, IsCertificate, HasText, lines_of}
use Rattle.gc_cert.specs.Internal.Grammar.{image_alone, IsImageBy}
use Rattle.gc_text.specs.Reading.{IsAt}
use Rattle.gc_cert.specs.Internal.Sections.{AnyFlag, alone}
use Rattle.gc_text.specs.Reading.{Place, start}
use Rattle.gc_cert.specs.Internal.Sections.{HasTaken}
use Rattle.gc_cert.specs.Views.{image_in}
use Rattle.gc_cert.proofs.Forms.{alone_delimits}
use Rattle.gc_cert.proofs.LineForms.{heading_form}
use Rattle.gc_cert.proofs.Parts.{none_taken, TextSection, image_delimits, certificate_delimits, made_pair, text_heading, text_old, text_new, both_images, text_certificate, pair_fits, text_taken}
use Rattle.gc_cert.proofs.ReadPieces.{end_within, ended_text, taken_on, text_goes_on}
use Rattle.gc_cert.proofs.Total.{whole_text}
use Rattle.gc_cert.proofs.reader.take_pair_file.Goals as goal
use Rattle.gc_cert.proofs.reader.take_pair_file.Goals.{In_ok-pairs}

pub returns-in_err-raws-clause-exact : goal.returns-in_err-raws-clause-exact
returns-in_err-raws-clause-exact g c text h =
    let fault = err_from_is_err_and c.from_residual.result c.from_residual.ensures.1 in
    let p = start text in
    rw (fault.1, fault.2) (ended_text text _ _ (end_within AnyFlag (alone heading) TextSection [] text p p _ _ (alone_delimits AnyFlag heading heading_form) text_heading (none_taken p) (c.in_err-raws.ensures.place text p h)))

pub returns-in_err-old-clause-exact : goal.returns-in_err-old-clause-exact
returns-in_err-old-clause-exact g c text h =
    let fault = err_from_is_err_and c.from_residual-in_err-old.result c.from_residual-in_err-old.ensures.1 in
    let p = start text in
    let raws = c.in_ok-raws.raws in
    let one = c.in_ok-raws.ensures.place text p h in
    rw (fault.1, fault.2) (ended_text text _ _ (end_within (IsImageBy raws) (image_alone (codes "old")) TextSection (heading raws ∷ []) text p one.0 _ _ (image_delimits raws (codes "old")) (text_old raws) one.2 (c.in_err-old.ensures.place text one.0 one.1)))

pub returns-in_err-new-clause-exact : goal.returns-in_err-new-clause-exact
returns-in_err-new-clause-exact g c text h =
    let fault = err_from_is_err_and c.from_residual-in_err-new.result c.from_residual-in_err-new.ensures.1 in
    let p = start text in
    let raws = c.in_ok-raws.raws in
    let old = image_in c.in_ok-old.old in
    let two = taken_on c.in_ok-raws.ensures.place c.in_ok-old.ensures.place text p h in
    rw (fault.1, fault.2) (ended_text text _ _ (end_within (IsImageBy raws) (image_alone (codes "new")) TextSection ((heading raws ∷ []) ++ image_alone (codes "old") old) text p two.0 _ _ (image_delimits raws (codes "new")) (text_new raws old c.in_ok-old.ensures.fits) two.2 (c.in_err-new.ensures.place text two.0 two.1)))

pub returns-in_err-pairs-clause-exact : goal.returns-in_err-pairs-clause-exact
returns-in_err-pairs-clause-exact g c text h =
    let fault = err_from_is_err_and c.from_residual-in_err-pairs.result c.from_residual-in_err-pairs.ensures.1 in
    let p = start text in
    let raws = c.in_ok-raws.raws in
    let old = image_in c.in_ok-old.old in
    let new = image_in c.in_ok-new.new in
    let three = taken_on (taken_on c.in_ok-raws.ensures.place c.in_ok-old.ensures.place) c.in_ok-new.ensures.place text p h in
    rw (fault.1, fault.2) (ended_text text _ _ (end_within IsCertificate certificate_lines TextSection (both_images raws old new) text p three.0 _ _ certificate_delimits (text_certificate raws old new c.in_ok-old.ensures.fits c.in_ok-new.ensures.fits) three.2 (c.in_err-pairs.ensures.place text three.0 three.1)))

-- the lines of the pair have been taken
taken : (g : _) (c : In_ok-pairs g) (text : List ℕ) → IsAt text (start text) c.args.lines.now (g.R.Read.remaining c.args.reader.now.reader)
    → let pair = made_pair (image_in c.in_ok-old.old) (image_in c.in_ok-new.new) (map addresses c.in_ok-pairs.pairs.items) in
    (at : Place) × IsAt text at c.take_certificate.new.lines (g.R.Read.remaining c.take_certificate.new.reader.reader) × HasText pair × HasTaken (lines_of pair) (start text) at
taken g c text h =
    let four = taken_on (taken_on (taken_on c.in_ok-raws.ensures.place c.in_ok-old.ensures.place) c.in_ok-new.ensures.place) c.in_ok-pairs.ensures.place text (start text) h in
    let whole = text_taken _ _ _ _ _ four.0 c.in_ok-old.ensures.fits c.in_ok-new.ensures.fits c.in_ok-pairs.ensures.fits four.2 in
    (four.0, four.1, whole.0, whole.1)

pub returns-in_err-end-clause-exact : goal.returns-in_err-end-clause-exact
returns-in_err-end-clause-exact g c text h =
    let fault = err_from_is_err_and c.from_residual-in_err-end.result c.from_residual-in_err-end.ensures.1 in
    let t = taken g (goal.at.returns-in_err-end-clause-exact g c).In_ok-pairs text h in
    rw (fault.1, fault.2) (text_goes_on _ text t.0 _ _ (t.2, t.3) (c.in_err-end.ensures.place text t.0 t.1))

pub returns-clause-exact : goal.returns-clause-exact
returns-clause-exact g c text h =
    let t = taken g (goal.at.returns-clause-exact g c).In_ok-pairs text h in
    let ends = c.in_ok-end.ensures.place text t.0 t.1 in
    (whole_text _ text t.0 t.2 t.3 ends.0, ends.1)

pub returns-clause-sound : goal.returns-clause-sound
returns-clause-sound g c = pair_fits c.in_ok-raws.raws (image_in c.in_ok-old.old) (image_in c.in_ok-new.new) (map addresses c.in_ok-pairs.pairs.items) c.in_ok-old.ensures.fits c.in_ok-new.ensures.fits c.in_ok-pairs.ensures.fits
