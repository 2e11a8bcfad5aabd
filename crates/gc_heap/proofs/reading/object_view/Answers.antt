-- What is seen of an object is what its header says: its kind, its length, and whether it is raw.
use Rattle.std.proofs.Common.{cond, ◌∙◌, sym}
use Rattle.gc_graph.specs.declared.reply.View.TheVariants.{Obj, RawObj}
use Rattle.gc_heap.proofs.Views.{shown}
use Rattle.gc_heap.proofs.reading.object_view.Goals as goal

pub returns-then-is_raw : goal.returns-then-is_raw
returns-then-is_raw c =
    (λ i. cond ((sym c.if-is_raw.true ∙ c.is_raw.ensures) i) (RawObj (c.kind-kind.ensures i) (c.len-len.ensures i)) (Obj (c.kind-kind.ensures i) (c.len-len.ensures i)))
    ∙ sym (shown c.args.space.now c.args.at.0 c.header-header.result c.requires.shaped c.header-header.ensures)

pub returns-else-is_raw : goal.returns-else-is_raw
returns-else-is_raw c =
    (λ i. cond ((sym c.if-is_raw.false ∙ c.is_raw.ensures) i) (RawObj (c.kind-kind.ensures i) (c.len-len.ensures i)) (Obj (c.kind-kind.ensures i) (c.len-len.ensures i)))
    ∙ sym (shown c.args.space.now c.args.at.0 c.header-header.result c.requires.shaped c.header-header.ensures)
