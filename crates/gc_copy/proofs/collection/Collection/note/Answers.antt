-- One log gets the entry at its end, so a collection that was out of date only in this field belongs to the heap.
use Rattle.std.proofs.lemmas.Grind.{common_steps}
use Rattle.std.proofs.Common.{◌≡◌, ◌∷◌, [], ◌++◌, length, ap, ◌∙◌, length-set, arith}
use Rattle.std.specs.Prelude.{slice_set}
use Rattle.gc_model.specs.Steps.{with_log, log_at}
use Rattle.gc_copy.specs.contracts.collection.Collection.{the_view}
use Rattle.gc_copy.specs.Words.{CollectionWords, collection_in}
use Rattle.gc_copy.proofs.Logs.{there_in, entry_noted, noted_belongs}
use Rattle.gc_copy.proofs.collection.Collection.note.Goals as goal

made : (c : goal.After-self-1) → collection_in (record (the_view c.self.inside) { logs = slice_set c.self.inside.logs.items c.args.m c.note.new.self }) ≡ with_log (collection_in c.args.self.now) c.args.m (log_at (collection_in c.args.self.now) c.args.m ++ (c.args.object.0, c.args.field) ∷ [])
made c = grind (arith, common_steps, entry_noted, there_in)

pub returns-clause-collection : goal.returns-clause-collection
returns-clause-collection c = made c

pub returns-clause-belongs : goal.returns-clause-belongs
returns-clause-belongs c = λ heap field k.
    noted_belongs heap c.args.self.now (record (the_view c.self.inside) { logs = slice_set c.self.inside.logs.items c.args.m c.note.new.self }) c.args.m c.args.object.0 c.args.field c.requires.log (made c)
    (ap (λ (y : CollectionWords). y.epoch) c.self.view_is) (length-set c.self.inside.logs.items c.args.m c.note.new.self ∙ ap (λ (y : CollectionWords). length y.logs) c.self.view_is) field k
