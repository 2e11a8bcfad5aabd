-- A slot's target has a replica, since each root's has one.
use Rattle.std.proofs.Common.{◌≡◌, ◌<◌, ◌∙◌, ap, refl, subst, sym, arith}
use Rattle.gc_graph.specs.Slots.{roots_of}
use Rattle.gc_heap.specs.Heap.{graph_in}
use Rattle.gc_copy.specs.Words.{collection_in, open_state}
use Rattle.gc_roots.specs.Twins.{RootRow, IsDone}
use Rattle.gc_roots.proofs.Turns.{new_roots, moved_prefix}
use Rattle.gc_roots.proofs.Looks.{slot_written, slots_written, none_lacks, rest_same}
use Rattle.gc_roots.proofs.root_twins.RootTwins.settle.Goals as goal
use Rattle.gc_roots.proofs.root_twins.RootTwins.settle.Goals.{in-Ok, in-Err, After-loop-place}

pub loop-place-preserved : goal.loop-place-preserved
loop-place-preserved c =
    let state = open_state c.args.heap.now c.args.collection.now in
    let collection = collection_in c.args.collection.now in
    let slots : c.root_count-place-end.result ≡ roots_of c.args.heap.now.mutators = c.root_count-place-end.ensures ∙ ap roots_of c.mutators.ensures.value in
    let below : c.loop-place.place < roots_of c.args.heap.now.mutators = omega (arith, slots, c.loop-place-test.true) in
    elim c.match-root_twin.branch [
      | in-Ok w ↦ (let is = w.self-is ∙ w.settled.ensures in record {
        keeps = slot_written c.loop-place.self c.match-root_twin.self state c.loop-place.place w.in-Ok.word is below c.loop-place.invariant.keeps;
        so_far = slots_written c.loop-place.self c.match-root_twin.self state collection c.loop-place.place w.in-Ok.word is (omega (arith, below, c.loop-place.invariant.keeps.front_high)) w.in-Ok.ensures.twin c.loop-place.invariant.so_far;
        rest = rest_same c.args.self.now c.loop-place.self c.match-root_twin.self c.loop-place.place w.in-Ok.word is c.loop-place.invariant.rest;
      })
      | in-Err w ↦ absurd (none_lacks collection (graph_in c.args.heap.now) c.loop-place.place w.in-Err._target.0 c.requires.known w.in-Err.ensures.twin.0 w.in-Err.ensures.twin.1)
    ]

-- the twins of the slots do not count for what is done
done_with : (row now : RootRow) → now ≡ record row { twins = now.twins } → IsDone row → IsDone now
done_with row now same d = subst IsDone (sym same) (record { used = d.used; stale = d.stale; none = d.none })

pub returns-clause-done : goal.returns-clause-done
returns-clause-done c = done_with c.args.self.now c.loop-place.self c.loop-place.invariant.rest c.requires.done

pub returns-clause-moved : goal.returns-clause-moved
returns-clause-moved c =
    let state = open_state c.args.heap.now c.args.collection.now in
    let collection = collection_in c.args.collection.now in
    let count : c.root_count-place-end.result ≡ roots_of c.args.heap.now.mutators = c.root_count-place-end.ensures ∙ ap roots_of c.mutators.ensures.value in
    moved_prefix c.loop-place.self c.args.heap.now c.args.collection.now _ refl
    (new_roots c.loop-place.self state collection refl c.loop-place.invariant.keeps (done_with c.args.self.now c.loop-place.self c.loop-place.invariant.rest c.requires.done)
    (λ p less. c.loop-place.invariant.so_far p (omega (arith, less, count, c.loop-place-test.false)))) c.loop-place.invariant.keeps
