-- The log has room for each put after the object is made, and all roots are there.
use Rattle.std.proofs.Common.{◌<◌, ◌∙◌, length, ap, sym, subst}
use Rattle.std.specs.List.{AllByRecursion}
use Rattle.gc_heap.specs.Heap.{HeapWords}
use Rattle.gc_concurrent.proofs.commands.Commander.new_from_root.Goals as goal

pub put_each-requires-clause-room : goal.put_each-requires-clause-room
put_each-requires-clause-room c = c.make.ensures.room (length c.args.places.now) c.in_ok-reserve.ensures.room

pub put_each-requires-clause-fields : goal.put_each-requires-clause-fields
put_each-requires-clause-fields c =
    subst (λ n. AllByRecursion (λ p. p < n) c.args.places.now) (sym (c.make.ensures.roots ∙ ap (λ (h : HeapWords). length h.roots) c.reserve.ensures.heap)) c.requires.fields
