-- A field's word that was read from the space of a heap is that of the heap.
use Rattle.std.proofs.Common.{◌≡◌, ℕ, Some, subst}
use Rattle.gc_words.specs.Image.{field_at}
use Rattle.gc_words.specs.Space.{SpaceWords}
use Rattle.gc_heap.specs.Heap.{HeapWords}

pub read_in_heap : (heap : HeapWords) (s : SpaceWords) (name i w : ℕ) → s ≡ heap.space → field_at s.words name i ≡ Some w → field_at heap.space.words name i ≡ Some w
read_in_heap heap s name i w same e = subst (λ (s : SpaceWords). field_at s.words name i ≡ Some w) same e
