-- More room in one log changes no entry and takes no room from another log, so the collection still belongs to the heap.
use Rattle.std.proofs.lemmas.Grind.{common_steps}
use Rattle.std.proofs.Common.{◌≡◌, length-set, arith}
use Rattle.std.specs.Prelude.{slice_set}
use Rattle.gc_copy.specs.contracts.collection.Collection.{the_view}
use Rattle.gc_copy.specs.Words.{collection_in}
use Rattle.gc_copy.proofs.Logs.{there_in, room_made, room_kept}
use Rattle.gc_copy.proofs.collection.Collection.reserve_more.Goals as goal

made : (c : goal.After-self-1) → collection_in (record (the_view c.self.inside) { logs = slice_set c.self.inside.logs.items c.args.m c.reserve.new.self }) ≡ collection_in c.args.self.now
made c = grind (arith, common_steps, room_made, there_in)

pub returns-clause-spare : goal.returns-clause-spare
returns-clause-spare c = λ k. grind (arith, common_steps, room_kept, there_in)

pub returns-clause-collection : goal.returns-clause-collection
returns-clause-collection c = made c

pub returns-clause-belongs : goal.returns-clause-belongs
returns-clause-belongs c = λ heap k. grind (arith, common_steps, made, length-set)
