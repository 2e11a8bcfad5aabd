-- The image has the heap's graph, with links that lead to the replicas, and as many words as the one with the exact links.
use Rattle.std.proofs.Common.{length, sym, ◌∙◌, ap, subst}
use Rattle.std.specs.Option.{option_map}
use Rattle.gc_words.specs.Image.{Image}
use Rattle.gc_model.specs.State.{State}
use Rattle.gc_copy.specs.Words.{collection_in, state_of}
use Rattle.gc_collected.specs.Internal.CollectedHeap.{Fits}
use Rattle.gc_collected.specs.Readings.{heap_image}
use Rattle.gc_collected.proofs.Core.{core_is}
use Rattle.gc_collected.proofs.Shown.{shown_count, shown_idle, shown_open}
use Rattle.gc_collected.proofs.collected_heap.CollectedHeap.image.Goals as goal
use Rattle.gc_collected.proofs.collected_heap.CollectedHeap.image.Goals.{in-Some, in_default}

pub returns-clause-shows : goal.returns-clause-shows
returns-clause-shows c =
    let heap = c.self.inside.heap in
    let all = c.heaps_have_addresses_as_names.ensures.image heap c.image.ensures.sound in
    elim c.match-self.branch [
      | in-Some w ↦ shown_open heap w.in-Some.collection c.args.self.now.core _ (ap (λ o. state_of heap (option_map collection_in o)) (sym w.in-Some.is) ∙ (core_is c.self.view_is)) c.image.ensures.value all
          (c.images_show_links.ensures.linked heap w.in-Some.collection (subst (Fits c.self.inside.epoch heap) w.in-Some.is c.self.invariant.0.0) w.new_image.ensures.sound)
      | in_default w ↦ shown_idle heap c.args.self.now.core _ (ap (λ o. state_of heap (option_map collection_in o)) (sym w.in_default.is) ∙ (core_is c.self.view_is)) c.image.ensures.value all
    ]

pub returns-clause-count : goal.returns-clause-count
returns-clause-count c =
    ap (λ (image : Image). length image.words) c.image.ensures.value
    ∙ sym (shown_count c.self.inside.heap c.self.inside.collection c.image.ensures.sound)
    ∙ ap (λ (s : State). length (heap_image s).words) (core_is c.self.view_is)
