-- An event that flips leaves one flip less to skip, and any other event leaves as many.
use Rattle.std.proofs.Common.{◌∙◌, ◌-◌, sym, ap, subst, arith, inl, inr, rules}
use Rattle.std.specs.Prelude.{slice_get}
use Rattle.gc_model.specs.State.{State}
use Rattle.gc_graph.specs.Limits.{most_words}
use Rattle.gc_model.specs.Belonging.{IsState}
use Rattle.gc_model.specs.Runs.{HasSizesWithin}
use Rattle.gc_model.proofs.Public.{opening_within}
use Rattle.std.specs.Option.{option_map}
use Rattle.gc_cert.specs.Views.{pair_in}
use Rattle.gc_collected.specs.Collected.{Beside}
use Rattle.gc_trace.specs.Flips.{nth_flip, flips}
use Rattle.gc_trace.specs.Views.{recording}
use Rattle.gc_trace.proofs.FlipPairs.{Counted, next_flip}
use Rattle.gc_trace.proofs.flips.nth_flip.Goals as goal
use Rattle.gc_trace.proofs.flips.nth_flip.Goals.{in-Some+else-before-eq0, in_default}

counted : (c : goal.Joined-kept) → Counted (option_map pair_in c.in_ok-kept.kept) c.loop-event.before c.match-kept.before
counted c =
    elim c.match-kept.branch [
      | in-Some+else-before-eq0 w ↦ inr (pair_in w.in-Some.file, ap (option_map pair_in) w.in-Some.is, omega (arith, w.before-is, w.if-before-eq0.false))
      | in_default w ↦ inl (ap (option_map pair_in) w.in_default.is, w.before-is)
    ]

pub loop-event-init : goal.loop-event-init
loop-event-init c =
    let t = c.args.trace.now in
    let opened = c.in_ok-heap.ensures.core in
    record {
      mutators = ap (λ (s : State). s.mutators) opened;
      sound = subst IsState (sym opened) (c.states_stay.ensures.opening t.size t.mutators (search rules) (search rules));
      small = subst (HasSizesWithin most_words) (sym opened) (opening_within most_words t.size t.mutators (search rules));
      taken = ap (λ (b : Beside). b.pair) c.in_ok-heap.ensures.beside;
      flips = ap (λ (s : State). slice_get (flips s t.events.items) (c.args.n - 1)) opened;
    }

pub loop-event-preserved : goal.loop-event-preserved
loop-event-preserved c =
    record {
      mutators = c.flip_in.ensures.mutators ∙ c.loop-event.invariant.mutators;
      sound = c.in_ok-kept.ensures.sound;
      small = c.in_ok-kept.ensures.small;
      taken = c.in_ok-kept.ensures.taken;
      flips =
          next_flip c.loop-event.heap.core c.flip_in.new.heap.core c.args.trace.now.events.items c.loop-event.event-index c.loop-event.before c.match-kept.before c.event-item.result _ (nth_flip c.args.n (recording c.args.trace.now))
          (rw c.deref-event-items.ensures.value at c.loop-event-test.true) (rw c.deref-event-items.ensures.value at c.event-item.is) c.in_ok-kept.ensures.happened c.in_ok-kept.ensures.flip c.loop-event.invariant.flips (counted c);
    }
