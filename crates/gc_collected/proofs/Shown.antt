-- What is shown of the mutators' space: an image whose links lead to the replicas, and words with the exact links.
use Rattle.std.proofs.lemmas.Grind.{common_steps}
use Rattle.std.proofs.Common.{◌≡◌, ◌-◌, ◌≤◌, ℕ, Option, Some, None, length, ◌∙◌, subst, arith}
use Rattle.std.specs.Option.{option_map, option_map_or}
use Rattle.gc_words.specs.Image.{Image, blocks}
use Rattle.gc_words.specs.Spelling.{link_at, spelled, no_links}
use Rattle.gc_heap.specs.Heap.{HeapWords, IsHeap, image_of, graph_in}
use Rattle.gc_model.specs.State.{State, replica_of}
use Rattle.gc_model.specs.Linked.{LeadsTo, linked_image, old_links}
use Rattle.gc_copy.specs.Words.{CollectionWords, BelongsTo, LinksNothing, collection_in, mark_of, state_of}
use Rattle.gc_copy.proofs.Public.{link_above, lowered_words, other_links}
use Rattle.gc_monitor.specs.Outline.{outline_of}
use Rattle.gc_collected.specs.Readings.{ShowsHeap, heap_image}

-- the heap has as many words as its image with the exact links
pub shown_count : (heap : HeapWords) (o : Option CollectionWords) → IsHeap heap → length (heap_image (state_of heap (option_map collection_in o))).words ≡ length heap.space.words
shown_count heap o is = (other_links heap is (option_map_or old_links (option_map collection_in o) no_links)).2

pub shown_idle : (heap : HeapWords) (s : State) (image : Image) → state_of heap None ≡ s → image ≡ image_of heap → image_of heap ≡ linked_image (link_at heap.space.words) heap.space.size (graph_in heap) → ShowsHeap s image
shown_idle heap s image seen is all = subst (λ s. ShowsHeap s image) seen (link_at heap.space.words, tt, is ∙ all)

pub shown_open : (heap : HeapWords) (c : CollectionWords) (s : State) (image : Image) → state_of heap (Some (collection_in c)) ≡ s → image ≡ image_of heap → image_of heap ≡ linked_image (link_at heap.space.words) heap.space.size (graph_in heap)
    → LeadsTo (link_at heap.space.words) (collection_in c) → ShowsHeap s image
shown_open heap c s image seen is all leads = subst (λ s. ShowsHeap s image) seen (link_at heap.space.words, leads, is ∙ all)

-- lowered links are the exact ones
pub idle_words : (epoch : ℕ) (heap : HeapWords) → IsHeap heap → LinksNothing epoch heap
    → spelled (λ a. link_at heap.space.words a - mark_of epoch) (blocks heap.space.words) ≡ (heap_image (state_of heap None)).words
idle_words epoch heap is none = lowered_words heap (option_map_or old_links None no_links) (mark_of epoch) is (λ a start. let low : link_at heap.space.words a ≤ mark_of epoch = none a start in omega arith)

pub open_words : (heap : HeapWords) (c : CollectionWords) → IsHeap heap → BelongsTo heap c
    → spelled (λ a. link_at heap.space.words a - mark_of c.epoch) (blocks heap.space.words) ≡ (heap_image (state_of heap (Some (collection_in c)))).words
open_words heap c is belongs = lowered_words heap (old_links (collection_in c)) (mark_of c.epoch) is (λ a start. link_above c.epoch (replica_of (collection_in c) a) (link_at heap.space.words a) (belongs.links a start))

-- the outline of an image does not depend on links
pub same_outline : (heap : HeapWords) → IsHeap heap → (links : ℕ → ℕ) → image_of heap ≡ linked_image (link_at heap.space.words) heap.space.size (graph_in heap) → outline_of (image_of heap) ≡ outline_of (linked_image links heap.space.size (graph_in heap))
same_outline heap is links all = grind (arith, common_steps, other_links)
