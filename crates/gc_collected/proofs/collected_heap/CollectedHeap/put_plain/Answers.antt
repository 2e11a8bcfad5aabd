-- Room in the log changes no state, and no root changes, so all that is known of the roots is still true.
use Rattle.std.proofs.Common.{◌≡◌, is_some, ap, ◌∙◌, sym, subst}
use Rattle.gc_graph.specs.declared.reply.Reply.{Reply}
use Rattle.gc_model.specs.State.{State}
use Rattle.gc_collected.specs.Values.{value_of_plain, put_value_step}
use Rattle.gc_collected.specs.Internal.CollectedHeap.{state_in}
use Rattle.gc_collected.specs.Internal.KnownRoots.{KnowsRoots}
use Rattle.gc_collected.proofs.Core.{core_is, left_is}
use Rattle.gc_collected.proofs.OtherCommands.{it_belongs}
use Rattle.gc_collected.proofs.Parts.{same_state, still_known}
use Rattle.gc_collected.proofs.Unwritten.{left_open, logged_open}
use Rattle.gc_collected.proofs.ValuesPut.{value_known, value_numbered}
use Rattle.gc_collected.proofs.collected_heap.CollectedHeap.put_plain.Goals as goal

pub invariant_of-self : goal.invariant_of-self
invariant_of-self c = still_known c.self.inside.epoch c.self.inside.known c.self.inside.heap c.self.inside.collection c.reserve_in.new.collection c.self.inside.watch c.self.inside.along c.reserve_in.ensures.same c.reserve_in.ensures.fits c.self.invariant

pub put_plain_in-requires-clause-belongs : goal.put_plain_in-requires-clause-belongs
put_plain_in-requires-clause-belongs c = it_belongs c.self.inside.epoch c.self.inside.heap c.reserve_in.new.collection (c.reserve_in.ensures.fits c.self.inside.epoch c.self.inside.heap c.self.invariant.0.0)

pub invariant_of-self-2 : goal.invariant_of-self-2
invariant_of-self-2 c =
    let put = c.put_plain_in in
    let s = state_in c.self.inside.heap c.reserve_in.new.collection in
    let k = still_known c.self.inside.epoch c.self.inside.known c.self.inside.heap c.self.inside.collection c.reserve_in.new.collection c.self.inside.watch c.self.inside.along c.reserve_in.ensures.same c.reserve_in.ensures.fits c.self.invariant in (
      (
        put.ensures.fits c.self.inside.epoch (k.0).0,
        subst (KnowsRoots c.self.inside.known) (ap (λ (x : Reply × State). x.1) put.ensures.step) (value_known c.self.inside.known s c.args.m c.args.s c.field_number.result (value_of_plain c.args.value) (k.0).1),
        (k.0).2,
      ),
      λ on. put.ensures.follows (k.1 on),
    )

pub returns-clause-step : goal.returns-clause-step
returns-clause-step c =
    let view = same_state c.self.inside.heap c.self.inside.collection c.reserve_in.new.collection c.args.self.now.core c.reserve_in.ensures.same (core_is c.self.view_is) in
    let number = c.field_number in
    sym (value_numbered c.args.self.now.core c.args.m c.args.s c.args.i number.result (value_of_plain c.args.value) c.is_sound.ensures.heap number.ensures.small number.ensures.large)
    ∙ subst (λ (s : State). put_value_step s c.args.m c.args.s number.result (value_of_plain c.args.value) ≡ (c.put_plain_in.result, state_in c.put_plain_in.new.heap c.put_plain_in.new.collection)) view c.put_plain_in.ensures.step

pub returns-clause-looks : goal.returns-clause-looks
returns-clause-looks c =
    let put = c.put_plain_in in
    let s = state_in c.self.inside.heap c.reserve_in.new.collection in
    left_open c.self.inside.collection put.new.collection c.self.inside.known.twins
    (ap (λ (x : Reply × State). is_some x.1.collection) (sym put.ensures.step) ∙ (logged_open s.collection c.args.m _ ∙ ap is_some c.reserve_in.ensures.same))
    ∙ left_is c.self.view_is
