-- A `Put` by places writes no root, so all that is known of the roots is still true; room in a log changes no state.
use Rattle.std.proofs.lemmas.Grind.{common_steps}
use Rattle.std.proofs.Common.{◌≡◌, ap, refl, sym, ◌∙◌, subst, arith}
use Rattle.gc_model.specs.State.{State}
use Rattle.gc_model.specs.Steps.{mutate}
use Rattle.gc_collected.proofs.Core.{core_is}
use Rattle.std.specs.Option.{option_map}
use Rattle.gc_graph.specs.declared.command.Op.TheVariants.{Put}
use Rattle.gc_heap.specs.Places.{root_at}
use Rattle.gc_copy.specs.Words.{BelongsTo, collection_in, state_of, open_state}
use Rattle.gc_collected.specs.Internal.KnownRoots.{KnowsRoots}
use Rattle.gc_collected.proofs.ByPlace.{put_numbered}
use Rattle.gc_collected.proofs.Followed.{closed}
use Rattle.gc_collected.proofs.Marks.{put_knows, with_looks}
use Rattle.gc_collected.proofs.OtherCommands.{idle_mutated}
use Rattle.gc_collected.proofs.Reserved.{opened_at, reserved, reserved_follows}
use Rattle.gc_collected.proofs.collected_heap.CollectedHeap.put_root.Goals as goal
use Rattle.gc_collected.proofs.collected_heap.CollectedHeap.put_root.Goals.{In_ok-reserve}

-- the open collection, whose log got room
ready : (c : In_ok-reserve) → BelongsTo c.self.inside.heap c.reserve.new.self × KnowsRoots c.self.inside.known (open_state c.self.inside.heap c.reserve.new.self)
ready c = (let r = reserved c.self.inside.epoch c.self.inside.known c.self.inside.heap c.self.inside.collection c.in-Some.collection c.reserve.new.self c.in-Some.is c.in_ok-reserve.ensures.collection c.in_ok-reserve.ensures.belongs c.self.invariant.0 in (r.0, r.1))

pub invariant_of-self : goal.invariant_of-self
invariant_of-self c =
    let o = option_map collection_in c.self.inside.collection in
    let put = idle_mutated c.self.inside.epoch c.self.inside.heap c.put_root.new.self c.self.inside.collection c.args.m (Put (root_at c.args.s) c.field_number-i.result (root_at c.args.t)) c.put_root.result c.space.ensures.sound c.in_default.not-Some (c.put_root.ensures.performs c.args.m) c.self.invariant.0.0 in (
      with_looks c.self.invariant.0.2 (put.1, put_knows c.self.inside.known (state_of c.self.inside.heap o) (state_of c.put_root.new.self o) c.args.m c.field_number-i.result (root_at c.args.s) (root_at c.args.t) c.put_root.result put.0 c.self.invariant.0.1),
      λ on. closed c.self.inside.heap c.put_root.new.self c.self.inside.collection c.args.m (Put (root_at c.args.s) c.field_number-i.result (root_at c.args.t)) c.put_root.result c.self.inside.watch c.in_default.not-Some refl put.0 (c.self.invariant.1 on),
    )

pub invariant_of-self-2 : goal.invariant_of-self-2
invariant_of-self-2 c =
    let knows = (ready (goal.at.invariant_of-self-2 c).In_ok-reserve).1 in (
      (c.put_root-2.ensures.belongs, put_knows c.self.inside.known (open_state c.self.inside.heap c.reserve.new.self) (open_state c.put_root-2.new.heap c.put_root-2.new.collection) c.args.m c.field_number-i.result (root_at c.args.s) (root_at c.args.t) c.put_root-2.result c.put_root-2.ensures.step knows, c.self.invariant.0.2),
      λ on. c.put_root-2.ensures.follows (reserved_follows c.self.inside.heap c.self.inside.collection c.in-Some.collection c.reserve.new.self c.self.inside.watch c.in-Some.is c.in_ok-reserve.ensures.collection (c.self.invariant.1 on)),
    )

pub invariant_of-self-in_err-reserve : goal.invariant_of-self-in_err-reserve
invariant_of-self-in_err-reserve c = (
  reserved c.self.inside.epoch c.self.inside.known c.self.inside.heap c.self.inside.collection c.in-Some.collection c.reserve.new.self c.in-Some.is c.in_err-reserve.ensures.collection c.in_err-reserve.ensures.belongs c.self.invariant.0,
  λ on. reserved_follows c.self.inside.heap c.self.inside.collection c.in-Some.collection c.reserve.new.self c.self.inside.watch c.in-Some.is c.in_err-reserve.ensures.collection (c.self.invariant.1 on),
)

pub put_root-requires-2-clause-belongs : goal.put_root-requires-2-clause-belongs
put_root-requires-2-clause-belongs c = (ready (goal.at.put_root-requires-2-clause-belongs c).In_ok-reserve).0

pub returns-clause-step : goal.returns-clause-step
returns-clause-step c =
    let put : mutate c.args.self.now.core c.args.m (Put (root_at c.args.s) c.field_number-i.result (root_at c.args.t)) ≡ (c.put_root-2.result, open_state c.put_root-2.new.heap c.put_root-2.new.collection) = grind (arith, common_steps, opened_at) in
    sym (put_numbered c.args.self.now.core c.args.m c.args.i c.field_number-i.result (root_at c.args.s) (root_at c.args.t) c.is_sound.ensures.heap c.field_number-i.ensures.small c.field_number-i.ensures.large) ∙ put

pub returns-in_default-clause-step : goal.returns-in_default-clause-step
returns-in_default-clause-step c =
    let put = idle_mutated c.self.inside.epoch c.self.inside.heap c.put_root.new.self c.self.inside.collection c.args.m (Put (root_at c.args.s) c.field_number-i.result (root_at c.args.t)) c.put_root.result c.space.ensures.sound c.in_default.not-Some (c.put_root.ensures.performs c.args.m) c.self.invariant.0.0 in
    sym (put_numbered c.args.self.now.core c.args.m c.args.i c.field_number-i.result (root_at c.args.s) (root_at c.args.t) c.is_sound.ensures.heap c.field_number-i.ensures.small c.field_number-i.ensures.large)
    ∙ subst (λ (s : State). mutate s c.args.m (Put (root_at c.args.s) c.field_number-i.result (root_at c.args.t)) ≡ (c.put_root.result, state_of c.put_root.new.self (option_map collection_in c.self.inside.collection))) (core_is c.self.view_is) put.0

pub returns-in_default-clause-mutators : goal.returns-in_default-clause-mutators
returns-in_default-clause-mutators c = (c.put_root.ensures.performs c.args.m).mutators ∙ ap (λ (s : State). s.mutators) (core_is c.self.view_is)
