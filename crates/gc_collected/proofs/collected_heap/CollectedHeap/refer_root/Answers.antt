-- The root refers to the object, the words stay, what is known of the other roots is still true, and the monitor follows.
use Rattle.std.proofs.lemmas.Grind.{common_steps}
use Rattle.std.proofs.Common.{◌+◌, ◌-◌, ◌<◌, is_some, length, ap, sym, ◌∙◌, subst, arith}
use Rattle.std.specs.Prelude.{IfSome, max}
use Rattle.std.specs.Option.{option_map}
use Rattle.gc_graph.specs.Graph.{Ref}
use Rattle.gc_graph.specs.Slots.{roots_of}
use Rattle.gc_model.specs.State.{State}
use Rattle.gc_model.specs.Belonging.{IsOpened}
use Rattle.gc_copy.specs.Words.{collection_in, state_of}
use Rattle.gc_roots.specs.Twins.{AsksForLook}
use Rattle.gc_collected.specs.Internal.KnownRoots.{HasStored, KnowsRoots, roots_left_in}
use Rattle.gc_collected.proofs.Core.{core_is, left_is}
use Rattle.gc_collected.proofs.Marks.{stored_asks}
use Rattle.gc_collected.proofs.Referred.{refers, start_named, still_fits, valued, valued_known}
use Rattle.gc_collected.proofs.Rooted.{follows_valued}
use Rattle.gc_collected.proofs.collected_heap.CollectedHeap.refer_root.Goals as goal

pub refer_root-requires-clause-start : goal.refer_root-requires-clause-start
refer_root-requires-clause-start = grind (arith, common_steps, start_named, is_some)

pub invariant_of-self : goal.invariant_of-self
invariant_of-self c =
    let heap = c.self.inside.heap in
    let new = c.refer_root.new.self in
    let d = c.args.d in
    let v = Ref c.args.a.0 in
    let o = c.self.inside.collection in
    let before = state_of heap (option_map collection_in o) in
    let after = state_of new (option_map collection_in o) in
    let within = subst (λ (s : State). d < length s.heap.graph.roots) (sym (core_is c.self.view_is)) c.requires in
    let taken = subst (λ n. HasStored c.self.inside.known c.took.new.self 0 (max c.self.inside.known.twins.used (d - n + 1)) n d) (c.root_count-slots.ensures ∙ ap roots_of c.mutators.ensures.value) c.took.ensures in
    let is = valued heap new d v c.refer_root.ensures.space c.refer_root.ensures.graph c.refer_root.ensures.mutators (option_map collection_in o) in
    let known = valued_known c.self.inside.known c.took.new.self before d v within taken (c.self.invariant.0.1, c.self.invariant.0.2) in (
      (
        still_fits heap new d v c.refer_root.ensures.space c.refer_root.ensures.graph c.refer_root.ensures.mutators c.self.inside.epoch o c.self.invariant.0.0,
        subst (KnowsRoots c.took.new.self) (sym is) known.0,
        known.1,
      ),
      λ on. follows_valued before after d v c.self.inside.watch (subst (λ (s : State). IfSome s.collection (IsOpened s)) (sym (core_is c.self.view_is)) c.is_sound.ensures.open) is (c.self.invariant.1 on),
    )

pub returns-clause-step : goal.returns-clause-step
returns-clause-step = grind (arith, common_steps, is_some, refers, valued)

pub returns-clause-looks : goal.returns-clause-looks
returns-clause-looks c = subst (λ n. AsksForLook c.args.d n (roots_left_in c.self.inside.collection c.took.new.self.twins)) (left_is c.self.view_is)
    (stored_asks c.self.inside.collection c.self.inside.known c.took.new.self 0 c.root_count-slots.result c.args.d c.took.ensures)
