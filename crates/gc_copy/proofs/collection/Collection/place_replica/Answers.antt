-- The copy at the new end, with links both ways, is the model's new replica; if it lacks room, the model places none either.
use Rattle.std.proofs.lemmas.Grind.{common_steps}
use Rattle.std.proofs.Common.{◌≡◌, ◌+◌, arith, Some, None, ap, sym, subst}
use Rattle.gc_graph.specs.Graph.{lookup}
use Rattle.gc_words.specs.Image.{header_at}
use Rattle.gc_words.specs.Space.{HasRoomFor}
use Rattle.gc_heap.specs.Heap.{graph_in}
use Rattle.gc_model.specs.State.{replica_of}
use Rattle.gc_model.specs.Steps.{place_replica}
use Rattle.gc_copy.specs.contracts.collection.Collection.{the_view}
use Rattle.gc_copy.specs.Words.{CollectionWords, collection_in, BelongsTo}
use Rattle.gc_copy.specs.Internal.Words.{KeepsStarts}
use Rattle.gc_copy.proofs.Spaces.{count_small}
use Rattle.gc_copy.proofs.OpenCollection.{Placing, placed_start, placing_done, full}
use Rattle.gc_copy.proofs.collection.Collection.place_replica.Goals as goal

pub returns-then-not-has_room-clause-full : goal.returns-then-not-has_room-clause-full
returns-then-not-has_room-clause-full c = grind (arith, common_steps, full)

pub set_link-requires : goal.set_link-requires
set_link-requires c = grind (arith, common_steps, placed_start)

made : (c : goal.After-set_link_word) → Placing c.args.heap.now c.set_link_word.new.self (the_view c.self.inside)
    (record (the_view c.self.inside) { space = c.set_link.new.self }) c.args.original.0
made c =
    let x : CollectionWords = the_view c.self.inside in
    let header : header_at c.args.heap.now.space.words c.args.original.0 ≡ Some c.header-header.result = subst (λ (s : Rattle.gc_words.specs.Space.SpaceWords). header_at s.words c.args.original.0 ≡ Some c.header-header.result) c.space.ensures.value c.header-header.ensures in
    let room : HasRoomFor x.space c.header-header.result.len = subst (HasRoomFor x.space) c.len.ensures (c.has_room.ensures.0 c.if-not-has_room.false) in
    placing_done c.args.heap.now c.set_link_word.new.self x (record x { space = c.set_link.new.self }) c.args.original.0 c.place_fresh-replica.result.0 c.from.result _ c.header-header.result c.place_fresh-replica.new.space
    c.space.ensures.sound c.self.invariant.0 (subst (BelongsTo c.args.heap.now) (sym c.self.view_is) c.requires.belongs) c.requires.start (subst (λ y. replica_of (collection_in y) c.args.original.0 ≡ None) (sym c.self.view_is) c.requires.missing)
    header room c.place_fresh-replica.ensures.at c.place_fresh-replica.ensures.words c.from.ensures (ap (λ (s : Rattle.gc_words.specs.Space.SpaceWords). record x { space = s }) c.set_link.ensures.words) (λ i. c.link_mark.ensures i + c.from-2.ensures i) c.set_link_word.ensures.words

pub invariant_of-self : goal.invariant_of-self
invariant_of-self c = ((made c).sound, (made c).counted c.self.inside.replicas c.self.invariant.1)

pub overflow_add-self : goal.overflow_add-self
overflow_add-self c = grind (arith, common_steps, count_small)

pub returns-clause-placed : goal.returns-clause-placed
returns-clause-placed c = let m = made c in subst (λ y. place_replica (collection_in y) c.args.original.0 (lookup (graph_in c.args.heap.now).objects c.args.original.0) ≡ Some (collection_in (record (the_view c.self.inside) { space = c.set_link.new.self }))) c.self.view_is m.placed

pub returns-clause-belongs : goal.returns-clause-belongs
returns-clause-belongs c = (made c).belongs

pub returns-clause-graph : goal.returns-clause-graph
returns-clause-graph c = (made c).graph

pub returns-clause-rest : goal.returns-clause-rest
returns-clause-rest c = grind (arith, common_steps, made)

pub returns-clause-starts : goal.returns-clause-starts
returns-clause-starts c = let m = made c in subst (λ (y : CollectionWords). KeepsStarts y.space c.set_link.new.self) c.self.view_is m.starts
