-- Lowered by the mark, the links of the words are the exact ones, with or without an open collection.
use Rattle.std.proofs.Common.{◌≡◌, ◌-◌, length, sym, ◌∙◌, ap, subst}
use Rattle.std.specs.Option.{option_map}
use Rattle.gc_words.specs.Image.{Image, blocks}
use Rattle.gc_words.specs.Spelling.{link_at, spelled}
use Rattle.gc_model.specs.State.{State}
use Rattle.gc_copy.specs.Words.{collection_in, mark_of, state_of}
use Rattle.gc_collected.specs.Internal.CollectedHeap.{Fits}
use Rattle.gc_collected.specs.Readings.{heap_image}
use Rattle.gc_collected.proofs.Core.{core_is}
use Rattle.gc_collected.proofs.Shown.{shown_count, idle_words, open_words}
use Rattle.gc_collected.proofs.collected_heap.CollectedHeap.copy_words.Goals as goal

pub copy_from_slice-requires : goal.copy_from_slice-requires
copy_from_slice-requires c =
    c.requires
    ∙ ap (λ (s : State). length (heap_image s).words) (sym (core_is c.self.view_is))
    ∙ shown_count c.self.inside.heap c.self.inside.collection c.space.ensures.sound
    ∙ sym (ap (λ (image : Image). length image.words) c.image.ensures.value)

pub returns-in-None : goal.returns-in-None
returns-in-None c =
    let heap = c.self.inside.heap in
    let copied : c.copy_from_slice.new.self ≡ heap.space.words = c.copy_from_slice.ensures.after ∙ ap (λ (image : Image). image.words) c.image.ensures.value in
    c.lower_links.ensures
    ∙ (λ i. spelled (λ a. link_at (copied i) a - c.link_mark.ensures i) (blocks (copied i)))
    ∙ idle_words c.self.inside.epoch heap c.space.ensures.sound (subst (Fits c.self.inside.epoch heap) c.in-None.is c.self.invariant.0.0)
    ∙ ap (λ (s : State). (heap_image s).words) (ap (λ o. state_of heap (option_map collection_in o)) (sym c.in-None.is) ∙ (core_is c.self.view_is))

pub returns-in-Some : goal.returns-in-Some
returns-in-Some c =
    let heap = c.self.inside.heap in
    let copied : c.copy_from_slice.new.self ≡ heap.space.words = c.copy_from_slice.ensures.after ∙ ap (λ (image : Image). image.words) c.image.ensures.value in
    let mark = c.link_mark-in-Some.ensures ∙ ap mark_of c.epoch.ensures in
    c.lower_links-in-Some.ensures
    ∙ (λ i. spelled (λ a. link_at (copied i) a - mark i) (blocks (copied i)))
    ∙ open_words heap c.in-Some.collection c.space.ensures.sound (subst (Fits c.self.inside.epoch heap) c.in-Some.is c.self.invariant.0.0)
    ∙ ap (λ (s : State). (heap_image s).words) (ap (λ o. state_of heap (option_map collection_in o)) (sym c.in-Some.is) ∙ (core_is c.self.view_is))
