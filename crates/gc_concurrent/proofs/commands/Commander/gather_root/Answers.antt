-- The log has room for each put after the object is made. It has as many fields as there are roots.
use Rattle.std.proofs.Common.{ap, sym, ◌∙◌, refl, subst, inr}
use Rattle.gc_graph.specs.declared.command.Op.TheVariants.{New}
use Rattle.gc_graph.specs.declared.reply.Reply.{Reply}
use Rattle.gc_graph.specs.declared.reply.Reply.TheVariants.{Made}
use Rattle.gc_heap.specs.Heap.{HeapWords, roomy_in}
use Rattle.gc_heap.specs.Places.{root_at}
use Rattle.gc_concurrent.specs.Bulk.{MakesFrom, places_from}
use Rattle.gc_concurrent.specs.Holders.{heap_in}
use Rattle.gc_concurrent.specs.Internal.LogRoom.{HasLogRoom}
use Rattle.gc_concurrent.specs.Machines.{Does}
use Rattle.gc_concurrent.proofs.Several.{full_from, places_counted}
use Rattle.gc_concurrent.proofs.commands.Commander.gather_root.Goals as goal

pub put_row-requires-clause-room : goal.put_row-requires-clause-room
put_row-requires-clause-room c = c.make.ensures.room c.args.count (subst (λ n. HasLogRoom n c.reserve.new.self) c.from.ensures c.in_ok-reserve.ensures.room)

pub returns-in-Made-clause-step : goal.returns-in-Made-clause-step
returns-in-Made-clause-step c =
    let old : HeapWords = heap_in c.reserve.new.self in
    let one : HeapWords = heap_in c.make.new.self in
    let new : HeapWords = heap_in c.put_row.new.self in
    let made : Does old (New (root_at c.args.d) c.args.kind c.args.count) Made one = sym c.make.ensures.step ∙ ap (λ (r : Reply). (r, roomy_in one)) c.in-Made.is in
    let first = subst (λ n. Does old (New (root_at c.args.d) c.args.kind n) Made one) (sym (places_counted c.args.first c.args.count)) made in
    let puts = c.put_row.ensures.step in
    subst (λ h. MakesFrom c.args.d c.args.kind (places_from c.args.first c.args.count) h Made new) c.reserve.ensures.heap
    (inr (refl, puts.0, puts.1, (one, c.make.new.self.sound, first, puts.2)))

pub returns-in_default-clause-step : goal.returns-in_default-clause-step
returns-in_default-clause-step c =
    subst (λ h. MakesFrom c.args.d c.args.kind (places_from c.args.first c.args.count) h c.make.result (heap_in c.make.new.self)) c.reserve.ensures.heap
    (full_from (heap_in c.reserve.new.self) (heap_in c.make.new.self) c.args.d c.args.kind c.args.count (places_from c.args.first c.args.count) c.make.result
    (sym (places_counted c.args.first c.args.count)) c.make.ensures.step c.in_default.not-Made)
