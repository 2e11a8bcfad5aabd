-- The monitor has room for both spaces, and a new collection has no replica, so it follows the heap, and no root is known to have one.
use Rattle.std.proofs.Common.{◌≡◌, ◌≤◌, ◌∙◌, ℕ, Option, Some, None, false, is_some, refl, sym, ap, subst, arith}
use Rattle.std.specs.Option.{option_map}
use Rattle.std.specs.Ordering.{nat_cmp, ord_max}
use Rattle.std.proofs.lemmas.Grind.{common_steps}
use Rattle.gc_words.specs.Space.{SpaceWords}
use Rattle.gc_model.specs.State.{State}
use Rattle.gc_model.specs.Belonging.{IsSpaceGraph}
use Rattle.gc_model.specs.declared.step.StepReply.{StepReply}
use Rattle.gc_copy.specs.Words.{CollectionWords, collection_in, idle_state, open_state, state_of}
use Rattle.gc_collected.specs.Internal.Follows.{Follows}
use Rattle.gc_collected.proofs.Begins.{begun_knows, follows_begun}
use Rattle.gc_collected.proofs.Core.{core_is}
use Rattle.gc_collected.proofs.collected_heap.CollectedHeap.begin_sized.Goals as goal

none_open : (o : Option CollectionWords) → is_some o ≡ false → o ≡ None
none_open o e = grind (arith, common_steps)

-- the larger of two sizes
max_high : (a b m : ℕ) → m ≡ ord_max nat_cmp a b → (a ≤ m) × (b ≤ m)
max_high a b m e = grind (arith, common_steps)

pub invariant_of-self-2 : goal.invariant_of-self-2
invariant_of-self-2 c =
    let heap = c.self.inside.heap in
    let closed : c.self.inside.collection ≡ None = none_open c.self.inside.collection (sym c.is_some.ensures ∙ c.if-is_some.false) in
    let high = max_high c.args.size c.size.result c.max.result c.max.ensures in
    let here : idle_state heap ≡ state_of heap (option_map collection_in c.self.inside.collection) = ap (λ o. state_of heap (option_map collection_in o)) (sym closed) in (
      (c.begin_in.ensures.belongs, begun_knows c.self.inside.known c.begin.new.self (state_of heap (option_map collection_in c.self.inside.collection)) (Some (collection_in c.begin_in.result)) c.begin.ensures.slots c.begin.ensures.twins (c.self.invariant.0).1, c.begin.ensures.compares),
      λ on. follows_begun (idle_state heap) c.self.inside.watch c.reserve.new.self refl (subst (λ (s : State). IsSpaceGraph s.size s.heap.free s.heap.graph) (sym (here ∙ core_is c.self.view_is)) c.is_sound.ensures.heap)
          c.max.result c.reserve.ensures.tables c.in_ok-reserve.ensures.room (omega (arith, high.1, c.size.ensures.value ∙ ap (λ (s : SpaceWords). s.size) c.space.ensures.value)) (subst (λ (s : State). Follows s c.self.inside.watch) (sym here) (c.self.invariant.1 on))
          (open_state heap c.begin_in.result) c.in_ok-room.room.size (sym (ap (λ (x : StepReply × State). x.1) c.begin_in.ensures.step)) (omega (arith, high.0, c.in_ok-room.ensures.size)),
    )
