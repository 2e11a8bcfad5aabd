-- A slot and the root at its place are the same to the commands.
use Rattle.std.proofs.Common.{◌≡◌, ap, ◌∙◌, subst}
use Rattle.std.specs.Prelude.{IfOk}
use Rattle.gc_heap.specs.Places.{root_at}
use Rattle.gc_collected.specs.CollectedHeap.{new_from_step}
use Rattle.gc_collected.proofs.NewFrom.{from_named}
use Rattle.gc_collected.proofs.collected_heap.CollectedHeap.new_from.Goals as goal

pub returns-clause-step : goal.returns-clause-step
returns-clause-step g c =
    let s = c.args.self.now.core in
    let names = g.R.RootRow.names c.args.fields.now in
    subst (λ x. IfOk c.new_from_roots.result (λ reply. x ≡ (reply, c.new_from_roots.new.self.core)))
    (ap (λ p. new_from_step s c.args.m (root_at p) c.args.kind names) c.place.ensures.value ∙ from_named s c.args.m c.args.kind c.args.d names) c.new_from_roots.ensures.step
