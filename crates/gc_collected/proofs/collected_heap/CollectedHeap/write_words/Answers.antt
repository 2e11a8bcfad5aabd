-- Numbers for two rows of fields change no root, so all that is known of the roots is still true; room in a log changes no state.
use Rattle.std.proofs.Common.{map, is_some, ap, sym, subst, ◌∙◌}
use Rattle.gc_bytes.specs.Vector.{low_bits}
use Rattle.gc_model.specs.State.{State}
use Rattle.gc_collected.specs.declared.giving.FieldValue.TheVariants.{Number}
use Rattle.gc_collected.specs.Vectors.{row_put}
use Rattle.gc_collected.specs.Internal.CollectedHeap.{state_in}
use Rattle.gc_collected.specs.Internal.KnownRoots.{KnowsRoots}
use Rattle.gc_collected.proofs.Core.{left_is}
use Rattle.gc_collected.proofs.GivenFields.{gives_known, gives_open}
use Rattle.gc_collected.proofs.OtherCommands.{it_belongs}
use Rattle.gc_collected.proofs.Parts.{still_known}
use Rattle.gc_collected.proofs.Unwritten.{left_open}
use Rattle.gc_collected.proofs.collected_heap.CollectedHeap.write_words.Goals as goal
use Rattle.gc_collected.proofs.collected_heap.CollectedHeap.write_words.Goals.{After-reserve_in}

-- the state before both rows, and between them
before : After-reserve_in → State
before c = state_in c.self.inside.heap c.reserve_in.new.collection

between : After-reserve_in → State
between c = row_put (before c) c.args.m c.args.s c.args.at (map low_bits c.args.words.now)

pub invariant_of-self : goal.invariant_of-self
invariant_of-self c = still_known c.self.inside.epoch c.self.inside.known c.self.inside.heap c.self.inside.collection c.reserve_in.new.collection c.self.inside.watch c.self.inside.along c.reserve_in.ensures.same c.reserve_in.ensures.fits c.self.invariant

pub write_rows-requires-clause-belongs : goal.write_rows-requires-clause-belongs
write_rows-requires-clause-belongs c = it_belongs c.self.inside.epoch c.self.inside.heap c.reserve_in.new.collection (c.reserve_in.ensures.fits c.self.inside.epoch c.self.inside.heap c.self.invariant.0.0)

pub invariant_of-self-2 : goal.invariant_of-self-2
unfolding before between
invariant_of-self-2 c =
    let all = c.write_rows in
    let r = (goal.at.invariant_of-self-2 c).After-reserve_in in
    let known = c.self.inside.known in
    let k = still_known c.self.inside.epoch known c.self.inside.heap c.self.inside.collection c.reserve_in.new.collection c.self.inside.watch c.self.inside.along c.reserve_in.ensures.same c.reserve_in.ensures.fits c.self.invariant in
    let one = gives_known (map Number (map low_bits c.args.words.now)) known (before r) c.args.m c.args.s c.args.at (k.0).1 in
    let two = gives_known (map Number c.changed_tops-tops.result) known (between r) c.args.m c.args.s c.first_top-first.result one in (
      (all.ensures.fits c.self.inside.epoch (k.0).0, subst (KnowsRoots known) all.ensures.step two, (k.0).2),
      λ on. all.ensures.follows (k.1 on),
    )

pub returns-clause-looks : goal.returns-clause-looks
unfolding before between
returns-clause-looks c =
    let all = c.write_rows in
    let r = (goal.at.returns-clause-looks c).After-reserve_in in
    let one = gives_open (map Number (map low_bits c.args.words.now)) (before r) c.args.m c.args.s c.args.at in
    let two = gives_open (map Number c.changed_tops-tops.result) (between r) c.args.m c.args.s c.first_top-first.result in
    left_open c.self.inside.collection all.new.collection c.self.inside.known.twins
    (ap (λ (x : State). is_some x.collection) (sym all.ensures.step) ∙ (two ∙ one ∙ ap is_some c.reserve_in.ensures.same))
    ∙ left_is c.self.view_is
