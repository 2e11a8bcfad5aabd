-- Slots and the roots at their places are the same to the commands.
use Rattle.std.proofs.Common.{◌≡◌, [], ◌∷◌, ◌∙◌, subst}
use Rattle.std.specs.Prelude.{IfOk}
use Rattle.gc_heap.specs.Places.{root_at}
use Rattle.gc_collected.specs.CollectedHeap.{new_from_step}
use Rattle.gc_collected.proofs.NewFrom.{pair_named}
use Rattle.gc_collected.proofs.collected_heap.CollectedHeap.cons.Goals as goal

pub returns-clause-step : goal.returns-clause-step
returns-clause-step c =
    let s = c.args.self.now.core in
    subst (λ x. IfOk c.new_from_roots.result (λ reply. x ≡ (reply, c.new_from_roots.new.self.core)))
    ((λ k. new_from_step s c.args.m (root_at (c.place-3.ensures.value k)) c.args.kind (root_at (c.place.ensures.value k) ∷ root_at (c.place-2.ensures.value k) ∷ [])) ∙ pair_named s c.args.m c.args.kind c.args.d c.args.s c.args.t) c.new_from_roots.ensures.step
