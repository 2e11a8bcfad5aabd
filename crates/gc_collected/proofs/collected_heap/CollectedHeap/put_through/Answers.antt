-- The slot is set in the heap, which leaves the collection, so the `Put` starts from the state after that.
use Rattle.std.proofs.Common.{◌≡◌, ◌<◌, length, sym, ap, ◌∙◌, subst, arith}
use Rattle.std.proofs.lemmas.List.{length-map}
use Rattle.gc_graph.specs.Slots.{roots_of}
use Rattle.gc_graph.specs.declared.command.Op.TheVariants.{Put}
use Rattle.gc_graph.specs.declared.reply.Reply.{Reply}
use Rattle.gc_heap.specs.Places.{root_at}
use Rattle.gc_model.specs.State.{State}
use Rattle.gc_model.proofs.Public.{roots_counted}
use Rattle.gc_words.specs.Word.{value_of}
use Rattle.gc_model.specs.Steps.{mutate}
use Rattle.gc_collected.specs.Internal.CollectedHeap.{state_in}
use Rattle.gc_collected.specs.Internal.Values.{set_plain}
use Rattle.gc_collected.proofs.ByPlace.{puts_none, set_put_knows, takes_none}
use Rattle.gc_collected.proofs.Core.{core_is}
use Rattle.gc_collected.proofs.Followed.{quiet}
use Rattle.gc_collected.proofs.OtherCommands.{it_belongs, performed, still_belongs, still_fits}
use Rattle.gc_collected.proofs.Parts.{same_state, still_known}
use Rattle.gc_collected.proofs.collected_heap.CollectedHeap.put_through.Goals as goal
use Rattle.gc_collected.proofs.collected_heap.CollectedHeap.put_through.Goals.{After-set_plain-done}

pub invariant_of-self : goal.invariant_of-self
invariant_of-self c = still_known c.self.inside.epoch c.self.inside.known c.self.inside.heap c.self.inside.collection c.reserve_in.new.collection c.self.inside.watch c.self.inside.along c.reserve_in.ensures.same c.reserve_in.ensures.fits c.self.invariant

pub put_root_in-requires-clause-belongs : goal.put_root_in-requires-clause-belongs
put_root_in-requires-clause-belongs c =
    let heap = c.self.inside.heap in
    let p = c.reserve_in.new.collection in
    still_belongs heap c.set_plain-done.new.heap p c.args.m (set_plain c.args.t c.args.value) c.set_plain-done.result c.space.ensures.sound (puts_none c.args.t c.args.value) (c.set_plain-done.ensures.performs c.args.m) (it_belongs c.self.inside.epoch heap p (c.reserve_in.ensures.fits c.self.inside.epoch heap c.self.invariant.0.0))

-- the slot is set, after room was made in the log
set : (c : After-set_plain-done) → mutate (state_in c.self.inside.heap c.reserve_in.new.collection) c.args.m (set_plain c.args.t c.args.value) ≡ (c.set_plain-done.result, state_in c.set_plain-done.new.heap c.reserve_in.new.collection)
set c =
    let heap = c.self.inside.heap in
    let p = c.reserve_in.new.collection in
    performed heap c.set_plain-done.new.heap p c.args.m (set_plain c.args.t c.args.value) c.set_plain-done.result c.space.ensures.sound (puts_none c.args.t c.args.value) (c.set_plain-done.ensures.performs c.args.m) (it_belongs c.self.inside.epoch heap p (c.reserve_in.ensures.fits c.self.inside.epoch heap c.self.invariant.0.0))

-- there are as many roots afterwards
counted : (c : After-set_plain-done) → length c.set_plain-done.new.heap.roots ≡ length c.args.self.now.core.heap.graph.roots
counted c =
    let new = c.set_plain-done.new.heap in
    let p = c.reserve_in.new.collection in
    sym (length-map new.roots value_of) ∙ sym (ap (λ (x : Reply × State). length x.1.heap.graph.roots) (set c)) ∙ roots_counted (state_in c.self.inside.heap p) c.args.m (set_plain c.args.t c.args.value)
    ∙ ap (λ (s : State). length s.heap.graph.roots) (same_state c.self.inside.heap c.self.inside.collection p c.args.self.now.core c.reserve_in.ensures.same (core_is c.self.view_is))

pub put_root_in-requires-clause-mutator : goal.put_root_in-requires-clause-mutator
put_root_in-requires-clause-mutator c = subst (λ n. c.args.m < n) (sym ((c.set_plain-done.ensures.performs c.args.m).mutators ∙ ap (λ (s : State). s.mutators) (core_is c.self.view_is))) c.requires.mutator

pub put_root_in-requires-clause-target : goal.put_root_in-requires-clause-target
put_root_in-requires-clause-target c = subst (λ n. c.args.s < n) (sym (counted (goal.at.put_root_in-requires-clause-target c).After-set_plain-done)) c.requires.target

pub put_root_in-requires-clause-giver : goal.put_root_in-requires-clause-giver
put_root_in-requires-clause-giver c = subst (λ n. c.args.t < n) (sym (counted (goal.at.put_root_in-requires-clause-giver c).After-set_plain-done)) (omega (arith, c.requires.giver, c.root_places.ensures.slots, c.root_places.ensures.count))

pub returns-clause-mutators : goal.returns-clause-mutators
returns-clause-mutators c = c.put_root_in.ensures.mutators ∙ (c.set_plain-done.ensures.performs c.args.m).mutators ∙ ap (λ (s : State). s.mutators) (core_is c.self.view_is)

pub returns-clause-step : goal.returns-clause-step
returns-clause-step c =
    let last = state_in c.put_root_in.new.heap c.put_root_in.new.collection in
    let view = same_state c.self.inside.heap c.self.inside.collection c.reserve_in.new.collection c.args.self.now.core c.reserve_in.ensures.same (core_is c.self.view_is) in
    subst (λ (s : State). mutate (mutate s c.args.m (set_plain c.args.t c.args.value)).1 c.args.m (Put (root_at c.args.s) c.args.i (root_at c.args.t)) ≡ (c.put_root_in.result, last)) view
    (subst (λ (x : State). mutate x c.args.m (Put (root_at c.args.s) c.args.i (root_at c.args.t)) ≡ (c.put_root_in.result, last)) (sym (ap (λ (x : Reply × State). x.1) (set (goal.at.returns-clause-step c).After-set_plain-done))) c.put_root_in.ensures.step)

pub invariant_of-self-2 : goal.invariant_of-self-2
invariant_of-self-2 c =
    let heap = c.self.inside.heap in
    let p = c.reserve_in.new.collection in
    let one = c.set_plain-done in
    let put = c.put_root_in in
    let op = set_plain c.args.t c.args.value in
    let low : c.args.t < roots_of heap.mutators = subst (λ (s : State). c.args.t < roots_of s.mutators) (sym (core_is c.self.view_is)) c.requires.giver in
    let view = same_state heap c.self.inside.collection p c.args.self.now.core c.reserve_in.ensures.same (core_is c.self.view_is) in
    let k = still_known c.self.inside.epoch c.self.inside.known heap c.self.inside.collection p c.self.inside.watch c.self.inside.along c.reserve_in.ensures.same c.reserve_in.ensures.fits c.self.invariant in
    let none = puts_none c.args.t c.args.value in
    let performs = one.ensures.performs c.args.m in (
      (
        put.ensures.fits c.self.inside.epoch (still_fits c.self.inside.epoch heap one.new.heap p c.args.m op one.result c.space.ensures.sound none performs (k.0).0),
        set_put_knows c.self.inside.known (state_in heap p) (state_in one.new.heap p) (state_in put.new.heap put.new.collection) c.args.m c.args.s c.args.i c.args.t c.args.value one.result put.result low
            (set (goal.at.invariant_of-self-2 c).After-set_plain-done) put.ensures.step (k.0).1,
        (k.0).2,
      ),
      λ on. put.ensures.follows (quiet c.args.self.now.core heap one.new.heap p c.args.m op one.result c.self.inside.watch view c.is_sound.ensures.open c.space.ensures.sound none (takes_none c.args.t c.args.value) performs (it_belongs c.self.inside.epoch heap p (k.0).0) (k.1 on)),
    )
