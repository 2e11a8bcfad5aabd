-- A turn adds the next event of the text, and at its end the events, each with a line of the version, are the trace.
use Rattle.std.proofs.Common.{◌≡◌, rules, sym, subst, MatchResult, true, false}
use Rattle.std.specs.Result.{is_ok}
use Rattle.std.proofs.lemmas.Result.{err_from_is_err_and}
use Rattle.gc_graph.specs.Streams.{source_failed}
use Rattle.gc_trace.specs.Grammar.{Recording}
use Rattle.gc_trace.specs.Faults.{IsReadAsTrace, ReadingMayFail}
use Rattle.gc_trace.specs.Internal.Reading.{read_so_far}
use Rattle.gc_trace.specs.Views.{recording}
use Rattle.gc_trace.proofs.Ranges.{in_range}
use Rattle.gc_text.proofs.Public.{if_known}
use Rattle.gc_trace.proofs.ReadLines.{same_heading, all_can, still_recording}
use Rattle.gc_trace.proofs.reader.read_trace.Goals as goal

pub loop-events-init : goal.loop-events-init
loop-events-init g c =
    let good : source_failed c.open.new.reader ≡ false = search rules in
    record {
      read = λ text is. rw c.new-events.ensures.items (c.in_ok-lines.ensures.exact text is);
      reading = c.in_ok-lines.ensures.reading;
      all = rw c.new-events.ensures.items tt;
      good = good;
    }

pub returns-in_err-event-clause-exact : goal.returns-in_err-event-clause-exact
returns-in_err-event-clause-exact g c = if_known {P = λ text. MatchResult c.from_residual-in_err-event.result (λ t. IsReadAsTrace (recording t) text) (λ fault. ReadingMayFail fault text)} _ (λ text is.
    let p = err_from_is_err_and c.from_residual-in_err-event.result c.from_residual-in_err-event.ensures.1 in
    rw (p.1, p.2) (c.in_err-event.ensures.exact text c.loop-events.events.items (c.loop-events.invariant.read text is)))

pub returns-in_err-event-clause-stops : goal.returns-in_err-event-clause-stops
returns-in_err-event-clause-stops g c large = if_known _ (λ text is. c.next.ensures.stops text c.loop-events.events.items (c.loop-events.invariant.read text is) (search rules))

pub loop-events-preserved : goal.loop-events-preserved
loop-events-preserved g c =
    let i = c.loop-events.invariant in
    let event = c.in-Some.event in
    let pushed : is_ok c.push.result ≡ true = search rules in
    let items = rw pushed at c.push.ensures.items in
    let good : source_failed c.next.new.reader ≡ false = search rules in
    record {
      read = λ text is. rw items (rw c.in-Some.is at c.in_ok-event.ensures.exact text c.loop-events.events.items (i.read text is));
      reading = c.in_ok-event.ensures.reading;
      all = rw items (all_can c.loop-events.lines c.next.new.self c.loop-events.events.items event c.in_ok-event.ensures.heading i.all (rw c.in-Some.is at c.in_ok-event.ensures.event));
      good = good;
    }

pub returns-clause-exact : goal.returns-clause-exact
returns-clause-exact g c = if_known {P = λ text. IsReadAsTrace (read_so_far c.next.new.self c.loop-events.events.items) text} _ (λ text is.
    let i = c.loop-events.invariant in
    let same = same_heading c.loop-events.lines c.next.new.self c.loop-events.events.items c.in_ok-event.ensures.heading in
    subst (λ (t : Recording). IsReadAsTrace t text) (sym same) (rw c.in_default.is at c.in_ok-event.ensures.exact text c.loop-events.events.items (i.read text is)))

pub returns-clause-sound : goal.returns-clause-sound
returns-clause-sound g c = still_recording c.loop-events.lines c.next.new.self c.loop-events.events.items c.in_ok-event.ensures.heading c.loop-events.invariant.reading c.loop-events.invariant.all

pub returns-clause-ranges : goal.returns-clause-ranges
returns-clause-ranges g c = in_range _ (still_recording c.loop-events.lines c.next.new.self c.loop-events.events.items c.in_ok-event.ensures.heading c.loop-events.invariant.reading c.loop-events.invariant.all)
