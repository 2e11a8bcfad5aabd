-- Both lines of the heading are taken, and if one of them is not there, the first fault is that of the heading.
use Rattle.std.proofs.Common.{rules, arith, refl, ◌∙◌}
use Rattle.std.proofs.lemmas.Result.{err_from_is_err_and}
use Rattle.gc_text.specs.Reading.{start}
use Rattle.gc_trace.proofs.ReadLines.{may_fail, stops, no_version, no_sizes, heading_read}
use Rattle.gc_trace.proofs.event_reader.EventReader.open.Goals as goal

pub returns-in_err-lines-clause-exact : goal.returns-in_err-lines-clause-exact
returns-in_err-lines-clause-exact g c text is =
    let p = err_from_is_err_and c.from_residual.result c.from_residual.ensures.1 in
    rw (p.1, p.2) (may_fail c.in_err-lines.field-0.0 _ text _ refl (c.in_err-lines.ensures.place text is))

pub returns-in_err-lines-clause-stops : goal.returns-in_err-lines-clause-stops
returns-in_err-lines-clause-stops g c text is large = stops c.in_err-lines.field-0.0 _ text _ refl (c.in_err-lines.ensures.place text is) (search rules)

pub returns-in_err-version-clause-exact : goal.returns-in_err-version-clause-exact
returns-in_err-version-clause-exact g c text is =
    let p = err_from_is_err_and c.from_residual-in_err-version.result c.from_residual-in_err-version.ensures.1 in
    rw (p.1, p.2) (may_fail c.in_err-version.field-0.0 _ text _ c.in_ok-lines.ensures.limit (c.in_err-version.ensures.place text (start text) (c.in_ok-lines.ensures.place text is)))

pub returns-in_err-version-clause-stops : goal.returns-in_err-version-clause-stops
returns-in_err-version-clause-stops g c text is large = stops c.in_err-version.field-0.0 _ text _ c.in_ok-lines.ensures.limit (c.in_err-version.ensures.place text (start text) (c.in_ok-lines.ensures.place text is)) (search rules)

pub returns-in_default-clause-exact : goal.returns-in_default-clause-exact
returns-in_default-clause-exact g c text is =
    let none = rw c.in_default.is at c.in_ok-version.ensures.place text (start text) (c.in_ok-lines.ensures.place text is) in
    (omega (arith, none.0.short, c.take.ensures.limit, c.in_ok-lines.ensures.limit), no_version text none.1)

pub returns-in_err-size-clause-exact : goal.returns-in_err-size-clause-exact
returns-in_err-size-clause-exact g c text is =
    let p = err_from_is_err_and c.from_residual-in_err-size.result c.from_residual-in_err-size.ensures.1 in
    let one = rw c.in-Some.is at c.in_ok-version.ensures.place text (start text) (c.in_ok-lines.ensures.place text is) in
    rw (p.1, p.2) (may_fail c.in_err-size.field-0.0 _ text _ (c.take.ensures.limit ∙ c.in_ok-lines.ensures.limit) (c.in_err-size.ensures.place text one.0 one.1))

pub returns-in_err-size-clause-stops : goal.returns-in_err-size-clause-stops
returns-in_err-size-clause-stops g c text is large =
    let one = rw c.in-Some.is at c.in_ok-version.ensures.place text (start text) (c.in_ok-lines.ensures.place text is) in
    stops c.in_err-size.field-0.0 _ text _ (c.take.ensures.limit ∙ c.in_ok-lines.ensures.limit) (c.in_err-size.ensures.place text one.0 one.1) (search rules)

pub returns-in_default-2-clause-exact : goal.returns-in_default-2-clause-exact
returns-in_default-2-clause-exact g c text is =
    let one = rw c.in-Some.is at c.in_ok-version.ensures.place text (start text) (c.in_ok-lines.ensures.place text is) in
    let none = rw c.in_default-2.is at c.in_ok-size.ensures.place text one.0 one.1 in
    (omega (arith, none.0.short, c.take-2.ensures.limit, c.take.ensures.limit, c.in_ok-lines.ensures.limit), no_sizes text c.in-Some.version one.0 (rw c.in-Some.is at c.in_ok-version.ensures.fits) one.2 none.1)

pub returns-clause-exact : goal.returns-clause-exact
returns-clause-exact g c text is =
    let one = rw c.in-Some.is at c.in_ok-version.ensures.place text (start text) (c.in_ok-lines.ensures.place text is) in
    let two = rw c.in-Some-2.is at c.in_ok-size.ensures.place text one.0 one.1 in
    let version = rw c.in-Some.is at c.in_ok-version.ensures.fits in
    let sizes = rw c.in-Some-2.is at c.in_ok-size.ensures.fits in
    heading_read text _ one.0 two.0 _ (version.0, version.1, sizes.0, sizes.1, sizes.2, sizes.3) one.2 two.2 two.1
