-- A turn plays the next event of the text, and there are fewer events than bytes, so the counts fit their type.
use Rattle.std.proofs.Common.{◌≡◌, ◌<◌, ◌^◌, ◌++◌, ◌∷◌, [], false, length, rules, arith, length-append, sym, ap, ◌∙◌, subst}
use Rattle.std.proofs.lemmas.Result.{err_from_is_err_and}
use Rattle.gc_graph.specs.Streams.{source_failed}
use Rattle.gc_trace.specs.Faults.{IsReadAsTrace}
use Rattle.gc_trace.specs.Grammar.{Recording, IsRecording}
use Rattle.gc_trace.specs.Internal.Reading.{read_so_far}
use Rattle.gc_trace.specs.Plays.{trace_opening}
use Rattle.gc_trace.proofs.PlayedEvents.{next_fits}
use Rattle.gc_trace.proofs.ReadLines.{same_heading, all_can}
use Rattle.gc_trace.proofs.playing.Player.take_all.Goals as goal

pub returns-in_err-event-clause-fault : goal.returns-in_err-event-clause-fault
returns-in_err-event-clause-fault g c =
    let p = err_from_is_err_and c.from_residual.result c.from_residual.ensures.1 in
    let i = c.loop-event.invariant in
    rw (p.1, p.2) (λ text h. c.in_err-event.ensures.exact text i.0 (i.1.read text h))

pub take-requires-clause-fits : goal.take-requires-clause-fits
take-requires-clause-fits g c =
    let i = c.loop-event.invariant in
    let event = c.in-Some.event in
    let few : length (i.0 ++ event ∷ []) < 2 ^ 64 = omega (arith, i.1.number, i.1.reading.counted, length-append i.0 (event ∷ [])) in
    next_fits c.args.lines.now.size c.args.lines.now.mutators i.0 event c.loop-event.self.heap.core c.loop-event.self.report i.1.played.state i.1.played.counts few

pub loop-event-preserved : goal.loop-event-preserved
loop-event-preserved g c =
    let i = c.loop-event.invariant in
    let event = c.in-Some.event in
    let good : source_failed c.next.new.reader ≡ false = search rules in (
      i.0 ++ event ∷ [],
      record {
        played = c.in_ok-take.ensures.played (trace_opening (read_so_far c.args.lines.now [])) i.0 i.1.played;
        number = omega (arith, i.1.number, rw c.in-Some.is at c.in_ok-event.ensures.number, length-append i.0 (event ∷ []));
        read = λ text h. rw c.in-Some.is at c.in_ok-event.ensures.exact text i.0 (i.1.read text h);
        reading = c.in_ok-event.ensures.reading;
        all = all_can c.loop-event.lines c.next.new.self i.0 event c.in_ok-event.ensures.heading i.1.all (rw c.in-Some.is at c.in_ok-event.ensures.event);
        heading = c.in_ok-event.ensures.heading ∙ i.1.heading;
        sound = search rules;
        mutators = c.take.ensures.mutators ∙ i.1.mutators ∙ sym (ap (λ (t : Recording). t.mutators) c.in_ok-event.ensures.heading);
        gather = search rules;
        good = good;
      },
    )

pub returns-clause-played : goal.returns-clause-played
returns-clause-played g c =
    let i = c.loop-event.invariant in
    let same = same_heading c.args.lines.now c.loop-event.lines i.0 i.1.heading in
    record {
      events = i.0;
      recording = subst IsRecording same (record { heading = i.1.reading.heading; events = i.1.all });
      played = i.1.played;
      read = λ text h. subst (λ (t : Recording). IsReadAsTrace t text) same (rw c.in_default.is at c.in_ok-event.ensures.exact text i.0 (i.1.read text h));
    }
