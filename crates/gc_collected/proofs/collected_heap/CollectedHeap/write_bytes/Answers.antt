-- Numbers for fields change no root, so all that is known of the roots is still true; room in a log changes no state.
use Rattle.std.proofs.Common.{◌/◌, map, is_some, ap, sym, subst, ◌∙◌}
use Rattle.gc_model.specs.State.{State}
use Rattle.gc_collected.specs.declared.giving.FieldValue.TheVariants.{Number}
use Rattle.gc_collected.specs.Internal.CollectedHeap.{state_in}
use Rattle.gc_collected.specs.Internal.KnownRoots.{KnowsRoots}
use Rattle.gc_collected.proofs.Core.{left_is}
use Rattle.gc_collected.proofs.GivenFields.{gives_known, gives_open}
use Rattle.gc_collected.proofs.OtherCommands.{it_belongs}
use Rattle.gc_collected.proofs.Parts.{still_known}
use Rattle.gc_collected.proofs.Unwritten.{left_open}
use Rattle.gc_collected.proofs.collected_heap.CollectedHeap.write_bytes.Goals as goal

pub invariant_of-self : goal.invariant_of-self
invariant_of-self c = still_known c.self.inside.epoch c.self.inside.known c.self.inside.heap c.self.inside.collection c.reserve_in.new.collection c.self.inside.watch c.self.inside.along c.reserve_in.ensures.same c.reserve_in.ensures.fits c.self.invariant

pub write_numbers-requires-clause-belongs : goal.write_numbers-requires-clause-belongs
write_numbers-requires-clause-belongs c = it_belongs c.self.inside.epoch c.self.inside.heap c.reserve_in.new.collection (c.reserve_in.ensures.fits c.self.inside.epoch c.self.inside.heap c.self.invariant.0.0)

pub invariant_of-self-2 : goal.invariant_of-self-2
invariant_of-self-2 c =
    let all = c.write_numbers in
    let s = state_in c.self.inside.heap c.reserve_in.new.collection in
    let k = still_known c.self.inside.epoch c.self.inside.known c.self.inside.heap c.self.inside.collection c.reserve_in.new.collection c.self.inside.watch c.self.inside.along c.reserve_in.ensures.same c.reserve_in.ensures.fits c.self.invariant in (
      (
        all.ensures.fits c.self.inside.epoch (k.0).0,
        subst (KnowsRoots c.self.inside.known) all.ensures.step (gives_known (map Number c.changed_by-words.result) c.self.inside.known s c.args.m c.args.s (c.args.at / 7) (k.0).1),
        (k.0).2,
      ),
      λ on. all.ensures.follows (k.1 on),
    )

pub returns-clause-looks : goal.returns-clause-looks
returns-clause-looks c =
    let all = c.write_numbers in
    let s = state_in c.self.inside.heap c.reserve_in.new.collection in
    left_open c.self.inside.collection all.new.collection c.self.inside.known.twins
    (ap (λ (x : State). is_some x.collection) (sym all.ensures.step) ∙ (gives_open (map Number c.changed_by-words.result) s c.args.m c.args.s (c.args.at / 7) ∙ ap is_some c.reserve_in.ensures.same))
    ∙ left_is c.self.view_is
