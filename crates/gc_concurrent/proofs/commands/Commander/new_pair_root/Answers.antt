-- The object is made, and each put after it has room in the log. They are the machine's commands.
use Rattle.std.proofs.Common.{refl, sym, ap, ◌∙◌, subst, inr, arith}
use Rattle.gc_graph.specs.declared.command.Op.TheVariants.{New}
use Rattle.gc_graph.specs.declared.reply.Reply.{Reply}
use Rattle.gc_graph.specs.declared.reply.Reply.TheVariants.{Made}
use Rattle.gc_heap.specs.Heap.{HeapWords, roomy_in}
use Rattle.gc_heap.specs.Places.{root_at}
use Rattle.gc_concurrent.specs.Holders.{heap_in}
use Rattle.gc_concurrent.specs.Machines.{Does, MakesPair}
use Rattle.gc_concurrent.proofs.Values.{put_does}
use Rattle.gc_concurrent.proofs.commands.Commander.new_pair_root.Goals as goal

pub put-requires-clause-room : goal.put-requires-clause-room
put-requires-clause-room c on = let two = c.make.ensures.room 2 c.in_ok-reserve.ensures.room on in omega (arith, two)

pub put-requires-in-Made-clause-room : goal.put-requires-in-Made-clause-room
put-requires-in-Made-clause-room c = c.put.ensures.room 1 (c.make.ensures.room 2 c.in_ok-reserve.ensures.room)

pub returns-in-Made-clause-step : goal.returns-in-Made-clause-step
returns-in-Made-clause-step c =
    let old : HeapWords = heap_in c.reserve.new.self in
    let one : HeapWords = heap_in c.make.new.self in
    let two : HeapWords = heap_in c.put.new.self in
    let three : HeapWords = heap_in c.put-in-Made.new.self in
    let made : Does old (New (root_at c.args.d) c.args.kind 2) Made one = sym c.make.ensures.step ∙ ap (λ (r : Reply). (r, roomy_in one)) c.in-Made.is in
    let first = put_does one two c.args.d 0 c.args.s c.put.result
    (record { roots = c.put.ensures.roots; words = c.put.ensures.end.0; size = c.put.ensures.end.1; graph = c.put.ensures.graph }) in
    let second = put_does two three c.args.d 1 c.args.t c.put-in-Made.result
    (record { roots = c.put-in-Made.ensures.roots; words = c.put-in-Made.ensures.end.0; size = c.put-in-Made.ensures.end.1; graph = c.put-in-Made.ensures.graph }) in
    subst (λ h. MakesPair c.args.d c.args.kind c.args.s c.args.t h Made three) c.reserve.ensures.heap
    (inr (refl, c.put.result, c.put-in-Made.result, (one, c.make.new.self.sound, made, (two, c.put.new.self.sound, first, (three, c.put-in-Made.new.self.sound, second, refl)))))
