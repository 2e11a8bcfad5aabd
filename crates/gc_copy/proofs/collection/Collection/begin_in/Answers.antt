-- A new space without objects and with empty logs is a sound collection, and it belongs to the heap, whose links lead nowhere.
use Rattle.std.proofs.lemmas.Grind.{common_steps}
use Rattle.std.proofs.Common.{◌≡◌, [], length, replicate, ◌∙◌, ap, arith}
use Rattle.gc_copy.specs.Words.{RoomWords}
use Rattle.gc_copy.proofs.Beginning.{begun}
use Rattle.gc_copy.proofs.collection.Collection.begin_in.Goals as goal

pub invariant_of-result : goal.invariant_of-result
invariant_of-result c = grind (arith, common_steps)

pub returns-clause-belongs : goal.returns-clause-belongs
returns-clause-belongs c =
    let mutators : length c.room.inside.logs.items ≡ c.args.heap.now.mutators = ap (λ (r : RoomWords). r.mutators) c.room.view_is ∙ c.requires.mutators in
    begun c.args.heap.now c.emptied.result c.room.inside.logs.items c.room.inside.space.size c.args.epoch c.requires.links c.room.invariant.shaped.size_low c.emptied.ensures.empty (c.room.invariant.logs ∙ ap (λ n. replicate n []) mutators)
