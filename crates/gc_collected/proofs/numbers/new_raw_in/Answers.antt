-- A `NewRaw` into a root by its place writes no field of an older object, so an open collection stays, and the monitor is told of the new object.
use Rattle.std.proofs.Common.{◌≡◌, ◌<◌, true, false, length, refl, ap, sym, subst, ◌∙◌, arith}
use Rattle.std.proofs.lemmas.List.{length-map}
use Rattle.gc_graph.specs.declared.command.Op.TheVariants.{NewRaw}
use Rattle.gc_graph.specs.declared.reply.Reply.{Reply}
use Rattle.gc_words.specs.Word.{value_of}
use Rattle.gc_heap.specs.Places.{root_at}
use Rattle.gc_heap.specs.Heap.{graph_in, roomy_in}
use Rattle.gc_words.specs.Space.{end_of}
use Rattle.gc_model.specs.State.{State}
use Rattle.gc_model.proofs.Public.{roots_counted}
use Rattle.gc_monitor.specs.Claims.{CanMake}
use Rattle.gc_monitor.specs.Events.{Made}
use Rattle.gc_collected.specs.Internal.CollectedHeap.{state_in}
use Rattle.gc_collected.proofs.Followed.{newly}
use Rattle.gc_collected.proofs.Numbered.{new_raw_is}
use Rattle.gc_collected.proofs.OtherCommands.{performed, still_belongs, still_fits}
use Rattle.gc_collected.proofs.numbers.new_raw_in.Goals as goal

pub returns-clause-step : goal.returns-clause-step
returns-clause-step c = λ m. performed c.args.heap.now c.new_raw_at_root-reply.new.self c.args.collection.now m (NewRaw (root_at c.args.d) c.args.kind c.args.len) c.new_raw_at_root-reply.result c.space.ensures.sound (λ none. none) (c.new_raw_at_root-reply.ensures.performs m) c.requires.belongs

pub returns-clause-fits : goal.returns-clause-fits
returns-clause-fits c = λ epoch fits. still_fits epoch c.args.heap.now c.new_raw_at_root-reply.new.self c.args.collection.now 0 (NewRaw (root_at c.args.d) c.args.kind c.args.len) c.new_raw_at_root-reply.result c.space.ensures.sound (λ none. none) (c.new_raw_at_root-reply.ensures.performs 0) fits

pub returns-clause-belongs : goal.returns-clause-belongs
returns-clause-belongs c = still_belongs c.args.heap.now c.new_raw_at_root-reply.new.self c.args.collection.now 0 (NewRaw (root_at c.args.d) c.args.kind c.args.len) c.new_raw_at_root-reply.result c.space.ensures.sound (λ none. none) (c.new_raw_at_root-reply.ensures.performs 0) c.requires.belongs

pub returns-clause-follows : goal.returns-clause-follows
returns-clause-follows c = λ f.
    let heap = c.args.heap.now in
    let new = c.new_raw_at_root-reply.new.self in
    let words = c.words.ensures.value ∙ ap (λ x. x.words) c.space-2.ensures.value in
    newly (state_in heap c.args.collection.now) heap new c.args.collection.now 0 (NewRaw (root_at c.args.d) c.args.kind c.args.len) c.new_raw_at_root-reply.result c.args.watch.now c.made.new.self true (root_at c.args.d) c.args.kind c.args.len refl refl c.are_sound_in.ensures
    (c.heaps_have_addresses_as_names.ensures.graph heap c.space.ensures.sound) c.space.ensures.sound (λ none. none) (c.new_raw_at_root-reply.ensures.performs 0) c.requires.belongs
    (c.heaps_have_addresses_as_names.ensures.graph new c.space-2.ensures.sound) (c.heaps_have_addresses_as_names.ensures.image new c.space-2.ensures.sound)
    (subst (λ ws. c.args.watch.now.lost ≡ false → CanMake ws c.args.watch.now → c.made.new.self.lost ≡ false) words c.made.ensures.stays)
    (subst (λ ws. c.made.new.self.lost ≡ false → Made ws c.args.watch.now c.made.new.self) words c.made.ensures.made) f

pub returns-clause-mutators : goal.returns-clause-mutators
returns-clause-mutators c = (c.new_raw_at_root-reply.ensures.performs 0).mutators

pub returns-clause-roots : goal.returns-clause-roots
returns-clause-roots c =
    let heap = c.args.heap.now in
    let new = c.new_raw_at_root-reply.new.self in
    let op = NewRaw (root_at c.args.d) c.args.kind c.args.len in
    let said = performed heap new c.args.collection.now 0 op c.new_raw_at_root-reply.result c.space.ensures.sound (λ none. none) (c.new_raw_at_root-reply.ensures.performs 0) c.requires.belongs in
    sym (length-map new.roots value_of) ∙ sym (ap (λ (x : Reply × State). length x.1.heap.graph.roots) said) ∙ roots_counted (state_in heap c.args.collection.now) 0 op ∙ length-map heap.roots value_of

pub returns-clause-made : goal.returns-clause-made
returns-clause-made c = λ made.
    let heap = c.args.heap.now in
    let new = c.new_raw_at_root-reply.new.self in
    let within : c.args.d < length (graph_in heap).roots = let n = length-map heap.roots value_of in omega (arith, n, c.requires.root) in
    new_raw_is (roomy_in heap) (roomy_in new) 0 c.args.d c.args.kind c.args.len (end_of heap.space) _ c.new_raw_at_root-reply.result (c.new_raw_at_root-reply.ensures.performs 0).step made within
    (c.heaps_have_addresses_as_names.ensures.graph new c.space-2.ensures.sound).laid
