-- A line that is taken is the next event, or one of a mutator that does not exist; bytes that wait at the end are a bad line.
use Rattle.std.proofs.Common.{rules, arith, ◌≢◌, ◌+◌, [], refl, sym, ◌∙◌}
use Rattle.std.proofs.lemmas.Result.{err_from_is_err_and}
use Rattle.gc_trace.proofs.Total.{good_end}
use Rattle.gc_text.proofs.Public.{no_byte}
use Rattle.gc_trace.proofs.ReadLines.{may_fail, stops, event_read, stranger_read, bad_line}
use Rattle.gc_trace.proofs.event_reader.EventReader.next.Goals as goal

pub returns-in_err-event-clause-exact : goal.returns-in_err-event-clause-exact
returns-in_err-event-clause-exact g c text events h =
    let p = err_from_is_err_and c.from_residual.result c.from_residual.ensures.1 in
    rw (p.1, p.2) (may_fail c.in_err-event.field-0.0 _ text _ c.requires.reading.limit_is (c.in_err-event.ensures.place text h.place h.at))

pub returns-in_err-event-clause-stops : goal.returns-in_err-event-clause-stops
returns-in_err-event-clause-stops g c text events h large = stops c.in_err-event.field-0.0 _ text _ c.requires.reading.limit_is (c.in_err-event.ensures.place text h.place h.at) (search rules)

pub returns-then-is_empty-clause-exact : goal.returns-then-is_empty-clause-exact
returns-then-is_empty-clause-exact g c text events h =
    let none = rw c.in_default.is at c.in_ok-event.ensures.place text h.place h.at in
    (good_end text (h.place.taken + 1) _ h.place.rest h.good (none.0.rest_is ∙ no_byte c.take.new.self.waiting (search rules)), omega (arith, none.0.short, c.take.ensures.limit, c.requires.reading.limit_is))

pub returns-in_default-clause-exact : goal.returns-in_default-clause-exact
returns-in_default-clause-exact g c text events h =
    let none = rw c.in_default.is at c.in_ok-event.ensures.place text h.place h.at in
    let some : c.take.new.self.waiting ≢ [] = search rules in
    (omega (arith, none.0.short, c.take.ensures.limit, c.requires.reading.limit_is), bad_line text events c.args.self.now _ h _ (λ empty. some (sym none.0.rest_is ∙ empty)) none.1 (omega (arith, c.taken.ensures.value, none.0.taken_is)))

pub returns-in_err-read_to_end-clause-exact : goal.returns-in_err-read_to_end-clause-exact
returns-in_err-read_to_end-clause-exact g c text events h =
    let p = err_from_is_err_and c.from_residual-in_err-read_to_end.result c.from_residual-in_err-read_to_end.ensures.1 in
    let next = rw c.in-Some.is at c.in_ok-event.ensures.place text h.place h.at in
    rw (p.1, p.2) (may_fail c.in_err-read_to_end.field-0.0 _ text _ (c.take.ensures.limit ∙ c.requires.reading.limit_is) (c.in_err-read_to_end.ensures.place text next.0 next.1))

pub returns-in_err-read_to_end-clause-stops : goal.returns-in_err-read_to_end-clause-stops
returns-in_err-read_to_end-clause-stops g c text events h large =
    let next = rw c.in-Some.is at c.in_ok-event.ensures.place text h.place h.at in
    stops c.in_err-read_to_end.field-0.0 _ text _ (c.take.ensures.limit ∙ c.requires.reading.limit_is) (c.in_err-read_to_end.ensures.place text next.0 next.1) (search rules)

pub returns-then-not-is_of-clause-exact : goal.returns-then-not-is_of-clause-exact
returns-then-not-is_of-clause-exact g c text events h =
    let next = rw c.in-Some.is at c.in_ok-event.ensures.place text h.place h.at in
    let last = c.in_ok-read_to_end.ensures.place text next.0 next.1 in (
      omega (arith, last.short, c.read_to_end.ensures.limit, c.take.ensures.limit, c.requires.reading.limit_is),
      stranger_read text events c.args.self.now _ c.in-Some.event h next.0 _ (rw c.in-Some.is at c.in_ok-event.ensures.fits) (c.is_of.ensures.no (search rules)) next.2 (omega (arith, c.taken-then-not-is_of.ensures.value, last.taken_is)),
    )

pub returns-clause-exact : goal.returns-clause-exact
returns-clause-exact g c text events h =
    let next = rw c.in-Some.is at c.in_ok-event.ensures.place text h.place h.at in
    event_read text events c.args.self.now _ _ _ c.in-Some.event h next.0 (rw c.in-Some.is at c.in_ok-event.ensures.fits) (c.is_of.ensures.yes (search rules)) refl next.2 next.1
