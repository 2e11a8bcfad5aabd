-- The model applies the oldest entry: its field is brought up to date and the entry goes, or nothing changes if there is no room.
use Rattle.std.proofs.lemmas.Grind.{common_steps}
use Rattle.std.proofs.Common.{◌≡◌, length, Some, ap, sym, subst, arith}
use Rattle.std.specs.Prelude.{slice_get, slice_set}
use Rattle.gc_heap.specs.Heap.{graph_in}
use Rattle.gc_model.specs.State.{State}
use Rattle.gc_model.specs.Steps.{log_at, apply_entry, apply_log}
use Rattle.gc_copy.specs.contracts.collection.Collection.{the_view}
use Rattle.gc_copy.specs.Words.{IsCollection, collection_in, open_state, BelongsTo}
use Rattle.gc_copy.specs.Internal.Words.{KeepsRest}
use Rattle.gc_model.specs.declared.step.Step.TheVariants as steps
use Rattle.gc_model.specs.declared.step.StepReply.{StepReply}
use Rattle.gc_model.specs.declared.step.StepReply.TheVariants.{Applied}
use Rattle.gc_copy.proofs.Logs.{there_in}
use Rattle.gc_copy.proofs.Applying.{field_there, stays, applied, applied_belongs}
use Rattle.gc_copy.proofs.collection.Collection.apply_noted.Goals as goal
use Rattle.gc_copy.proofs.collection.Collection.apply_noted.Goals.{In-Some, After-drop_oldest}

-- the log of the mutator
there : (c : In-Some) → slice_get (the_view c.self.inside).logs c.args.m ≡ Some c.index.result.now
there c = there_in _ c.args.self.now c.args.m c.index.result.now c.self.view_is (omega (arith, (c.requires.belongs).logs, c.requires.mutator)) c.index.ensures

-- the field is up to date, the rest is as it was, and the log still has the entry
done : (c : After-drop_oldest) → apply_entry (collection_in (the_view c.self.inside)) (graph_in c.args.heap.now) (c.in-Some.entry.object.0, c.in-Some.entry.field) ≡ Some (collection_in (the_view c.self-2.inside))
done c = (let applied = c.in-Ok.ensures.applied in grind (arith, common_steps))

rest : (c : After-drop_oldest) → KeepsRest (the_view c.self.inside) (the_view c.self-2.inside)
rest c = (let rest = c.in-Ok.ensures.rest in grind (arith, common_steps))

has : (c : After-drop_oldest) → slice_get (the_view c.self-2.inside).logs c.args.m ≡ Some c.index_mut.result.now
has c = there_in _ _ c.args.m c.index_mut.result.now c.self-2.view_is (omega (arith, ap length (c.in-Ok.ensures.rest).logs, (c.requires.belongs).logs, c.requires.mutator)) c.index_mut.ensures.value

pub apply_entry-requires-clause-field : goal.apply_entry-requires-clause-field
apply_entry-requires-clause-field c = field_there c.args.heap.now _ c.args.m c.index.result.now (there (goal.at.apply_entry-requires-clause-field c).In-Some) (c.in-Some.entry.object.0, c.in-Some.entry.field) c.in-Some.ensures (subst (BelongsTo c.args.heap.now) (sym c.self.view_is) c.requires.belongs)

pub returns-in-Ok-clause-step : goal.returns-in-Ok-clause-step
returns-in-Ok-clause-step c =
    let at = goal.at.returns-in-Ok-clause-step c in
    subst (λ y. apply_log (open_state c.args.heap.now y) (collection_in y) c.args.m (log_at (collection_in y) c.args.m) ≡ (Applied, open_state c.apply_entry.new.heap (record (the_view c.self-2.inside) { logs = slice_set (the_view c.self-2.inside).logs c.args.m c.drop_oldest.new.self }))) c.self.view_is
    (applied c.args.heap.now _ c.args.m c.index.result.now (there at.In-Some) (c.in-Some.entry.object.0, c.in-Some.entry.field) c.in-Some.ensures c.apply_entry.new.heap _ c.index_mut.result.now c.drop_oldest.new.self c.in-Ok.ensures.graph (rest at.After-drop_oldest) (done at.After-drop_oldest) (has at.After-drop_oldest) c.drop_oldest.ensures)

pub returns-in-Ok-clause-belongs : goal.returns-in-Ok-clause-belongs
returns-in-Ok-clause-belongs c =
    let at = goal.at.returns-in-Ok-clause-belongs c in
    applied_belongs c.args.heap.now _ c.args.m c.index.result.now (there at.In-Some) (c.in-Some.entry.object.0, c.in-Some.entry.field) c.in-Some.ensures c.apply_entry.new.heap _ c.index_mut.result.now c.drop_oldest.new.self
    c.self.invariant.0 (subst (BelongsTo c.args.heap.now) (sym c.self.view_is) c.requires.belongs) c.in-Ok.ensures.graph (rest at.After-drop_oldest) (subst (BelongsTo c.apply_entry.new.heap) (sym c.self-2.view_is) c.in-Ok.ensures.belongs) (done at.After-drop_oldest) (has at.After-drop_oldest) c.drop_oldest.ensures

pub returns-in-Err-clause-step : goal.returns-in-Err-clause-step
returns-in-Err-clause-step c =
    let at = goal.at.returns-in-Err-clause-step c in
    let kept = stays c.args.heap.now (the_view c.self.inside) c.args.m c.index.result.now (there at.In-Some) (c.in-Some.entry.object.0, c.in-Some.entry.field) c.in-Some.ensures in
    grind (arith, common_steps, kept)

pub returns-in-Err-clause-room : goal.returns-in-Err-clause-room
returns-in-Err-clause-room c larger same =
    c.new_spaces_have_room.ensures c.args.heap.now c.args.self.now (steps.Apply c.args.m) c.space.ensures.sound (subst IsCollection c.self.view_is c.self.invariant.0) c.requires.belongs larger
    (ap (λ (next : StepReply × State). next.0) (returns-in-Err-clause-step c))
