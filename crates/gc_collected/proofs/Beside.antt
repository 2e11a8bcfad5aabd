-- A watch that goes along with the open collection watches the words of both images.
use Rattle.std.proofs.lemmas.Grind.{common_steps}
use Rattle.std.proofs.Common.{◌≡◌, ◌-◌, ℕ, arith, List, length, Option, Some, None, refl, ap, sym, ◌∙◌, subst}
use Rattle.std.proofs.lemmas.List.{take_all}
use Rattle.std.specs.Option.{option_map}
use Rattle.gc_words.specs.Image.{Image, blocks}
use Rattle.gc_words.specs.Space.{IsSpace, end_of}
use Rattle.gc_heap.specs.Heap.{HeapWords, IsHeap}
use Rattle.gc_model.specs.State.{State, Collection, heap_end}
use Rattle.gc_model.specs.Linked.{old_links, old_image, new_image}
use Rattle.gc_copy.specs.Words.{CollectionWords, IsCollection, BelongsTo, collection_in, state_of, open_state}
use Rattle.gc_copy.proofs.Public.{new_shown, other_links}
use Rattle.gc_collected.specs.Internal.CollectedHeap.{Fits}
use Rattle.gc_monitor.specs.Watch.{Watch, Watches}
use Rattle.gc_collected.specs.Internal.Stays.{GoesAlong}
use Rattle.gc_collected.proofs.Monitor.Words.{watches}

-- the heap's end
end_is : (heap : HeapWords) → IsHeap heap → heap.space.size - (heap.space.size - end_of heap.space) ≡ end_of heap.space
end_is heap sound = let a = sound.space.end_high in omega arith

-- a watch that has come to the end of the old space watches it with any links
relinked : (old other new : List ℕ) (w : Watch) → w.old_seen ≡ length old → length other ≡ length old → blocks other ≡ blocks old → IsSpace (record { size = 4294967295; words = other }) → Watches old new w → Watches other new w
relinked old other new w end count same space k = grind (arith, common_steps, take_all)

shown : (heap : HeapWords) (col : CollectionWords) (w : Watch) → IsHeap heap → IsCollection col → BelongsTo heap col
    → GoesAlong (open_state heap col).heap.graph.objects (heap_end (open_state heap col)) (collection_in col) w
    → Watches (old_image (open_state heap col) (collection_in col)).words (new_image (open_state heap col) (collection_in col)).words w
shown heap col w sound is belongs goes =
    let along = subst (λ n. GoesAlong (open_state heap col).heap.graph.objects n (collection_in col) w) (end_is heap sound) goes in
    let exact = other_links heap sound (old_links (collection_in col)) in
    let size = (exact.0).size_high in
    let wide : IsSpace (record { size = 4294967295; words = (old_image (open_state heap col) (collection_in col)).words }) = record {
      size_low = omega arith;
      size_high = omega arith;
      end_low = (exact.0).end_low;
      end_high = let high = (exact.0).end_high in omega arith;
      count = refl;
      reserved = (exact.0).reserved;
      walked = (exact.0).walked;
    } in
    relinked heap.space.words (old_image (open_state heap col) (collection_in col)).words (new_image (open_state heap col) (collection_in col)).words w (along.fits).old_seen exact.2 exact.1 wide
    (subst (λ (image : Image). Watches heap.space.words image.words w) (new_shown heap col is belongs) (watches heap col w sound is belongs along))

pub watched : (epoch : ℕ) (heap : HeapWords) (o : Option CollectionWords) (col : CollectionWords) (s : State) → o ≡ Some col → state_of heap (option_map collection_in o) ≡ s → Fits epoch heap o → IsHeap heap → IsCollection col
    → (c : Collection) (w : Watch) → s.collection ≡ Some c → GoesAlong s.heap.graph.objects (heap_end s) c w → Watches (old_image s c).words (new_image s c).words w
watched epoch heap None col s e same fits sound is c w there goes = absurd (let no : None ≡ Some col = e in cc)
watched epoch heap (Some x) col s e same fits sound is c w there goes =
    let x_is : x ≡ col = cc e in
    let c_is : collection_in x ≡ c = (let a : Some (collection_in x) ≡ Some c = ap (λ (s : State). s.collection) same ∙ there in cc) in
    subst (λ (s : State). Watches (old_image s c).words (new_image s c).words w) same
    (subst (λ (c : Collection). Watches (old_image (open_state heap x) c).words (new_image (open_state heap x) c).words w) c_is
    (shown heap x w sound (subst IsCollection (sym x_is) is) fits
    (subst (λ (c : Collection). GoesAlong (open_state heap x).heap.graph.objects (heap_end (open_state heap x)) c w) (sym c_is)
    (subst (λ (s : State). GoesAlong s.heap.graph.objects (heap_end s) c w) (sym same) goes))))
