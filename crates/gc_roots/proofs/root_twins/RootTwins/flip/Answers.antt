-- The twins are the new root words, and the former root words are a row.
use Rattle.std.proofs.Common.{◌∙◌, ap, sym, subst, map, refl}
use Rattle.gc_words.specs.Word.{value_of}
use Rattle.gc_heap.specs.Heap.{HeapWords}
use Rattle.gc_copy.specs.Words.{collection_in, open_state, idle_state}
use Rattle.gc_roots.specs.Twins.{RootRow, KeepsTwins}
use Rattle.gc_roots.proofs.Turns.{new_roots, turned_keeps}
use Rattle.gc_roots.proofs.root_twins.RootTwins.flip.Goals as goal

pub flip_swapping-room-requires-clause-roots : goal.flip_swapping-room-requires-clause-roots
flip_swapping-room-requires-clause-roots c =
    ap (λ v. v.items) c.replace-twins.ensures.value
    ∙ ap (λ (r : RootRow). r.twins) c.self.view_is
    ∙ new_roots c.args.self.now (open_state c.args.heap.now c.args.collection) (collection_in c.args.collection) refl c.requires.keeps c.requires.done c.requires.slots

pub returns-clause-keeps : goal.returns-clause-keeps
returns-clause-keeps c =
    let was = open_state c.args.heap.now c.args.collection in
    subst (λ (row : RootRow). KeepsTwins row (idle_state c.flip_swapping-room.new.heap)) (sym c.expire.ensures)
    (turned_keeps (record { twins = c.self.inside.twins.items; marks = c.self.inside.due; front = c.self.inside.front; used = c.self.inside.used; stale = c.self.inside.stale }) was (idle_state c.flip_swapping-room.new.heap)
    c.flip_swapping-room.result.roots.items _ (ap (map value_of) (sym c.flip_swapping-room.ensures.roots)) refl (ap (λ (h : HeapWords). h.mutators) c.flip_swapping-room.ensures.heap)
    c.flip_swapping-room.ensures.step (subst (λ r. KeepsTwins r was) (sym c.self.view_is) c.requires.keeps))
