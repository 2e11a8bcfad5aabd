-- The known slots need no search, so the root that is found is the first missing one of all.
use Rattle.std.proofs.Common.{◌≡◌, ℕ, ◌<◌, suc, refl, ◌∙◌, ap, arith}
use Rattle.gc_graph.specs.Slots.{roots_of}
use Rattle.gc_graph.specs.Graph.{root}
use Rattle.gc_heap.specs.Heap.{graph_in}
use Rattle.gc_model.specs.Staying.{HasReplicaOf}
use Rattle.gc_copy.specs.Words.{collection_in, open_state}
use Rattle.gc_model.proofs.Public.{first_missing}
use Rattle.gc_collected.proofs.Marks.{all_have, rest_found, slots_have}
use Rattle.gc_collected.proofs.known.search_within.Goals as goal

pub returns-in-Some-clause-first : goal.returns-in-Some-clause-first
returns-in-Some-clause-first c =
    let collection = collection_in c.args.collection.now in
    let found = c.in-Some.ensures.first in
    first_missing collection (graph_in c.args.heap.now) (suc c.in-Some.missing.place) c.in-Some.missing.place c.in-Some.missing.target.0 (record {
      low = omega arith;
      high = omega arith;
      before = λ p low less. slots_have c.args.known.now (open_state c.args.heap.now c.args.collection.now) collection refl c.requires.knows c.in-Some.missing.place found.before p less;
      target = found.target;
      missing = found.missing;
    })

pub returns-clause-first : goal.returns-clause-first
returns-clause-first c =
    let collection = collection_in c.args.collection.now in
    let state = open_state c.args.heap.now c.args.collection.now in
    let count : c.root_count-slots.result ≡ roots_of c.args.heap.now.mutators = c.root_count-slots.ensures ∙ ap roots_of c.mutators.ensures.value in
    let slots : (p : ℕ) → p < roots_of c.args.heap.now.mutators → HasReplicaOf collection (root (graph_in c.args.heap.now) p) =
    slots_have c.args.known.now state collection refl c.requires.knows (roots_of c.args.heap.now.mutators) (λ p low less. c.missing_root.ensures.none c.in_default.is p low (omega (arith, less, count))) in
    rest_found collection (graph_in c.args.heap.now) (roots_of c.args.heap.now.mutators) c.search_extra.result.found slots
    (λ e p. all_have c.search_extra.new.known state collection refl c.search_extra.ensures.knows slots (c.search_extra.ensures.done e) p) c.search_extra.ensures.missing
