-- Where the slots are known and no extra root has to be looked at, each root's target has a replica.
use Rattle.std.proofs.lemmas.Grind.{common_steps}
use Rattle.std.proofs.Common.{◌≡◌, refl, ◌∙◌, ap, arith}
use Rattle.gc_graph.specs.Slots.{roots_of}
use Rattle.gc_heap.specs.Heap.{graph_in}
use Rattle.gc_copy.specs.Words.{collection_in, open_state}
use Rattle.gc_model.proofs.Public.{all_replicated}
use Rattle.gc_collected.proofs.Marks.{slots_have, all_have}
use Rattle.gc_collected.proofs.known.all_known.Goals as goal

pub returns-then-known-root_count : goal.returns-then-known-root_count
returns-then-known-root_count c told =
    let collection = collection_in c.args.collection.now in
    let state = open_state c.args.heap.now c.args.collection.now in
    let count : c.root_count.result ≡ roots_of c.args.heap.now.mutators = c.root_count.ensures ∙ ap roots_of c.mutators.ensures.value in
    all_replicated collection (graph_in c.args.heap.now) (λ p less. all_have c.args.known.now state collection refl c.requires.knows
    (slots_have c.args.known.now state collection refl c.requires.knows (roots_of c.args.heap.now.mutators) (λ q low l. absurd (omega (arith, low, l, c.if-known-root_count.true, count))))
    (c.next.ensures.none (grind (arith, common_steps))) p)
