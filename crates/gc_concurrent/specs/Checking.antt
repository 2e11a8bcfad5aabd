-- What a flip shows its checker: the mutator's heap, the new space with the moved roots, and each original with its replica.
use Rattle.std.specs.Prelude.{◌≡◌, ◌⊎◌, map}
use Rattle.gc_words.specs.Word.{value_of}
use Rattle.gc_words.specs.Certificate.{Certified}
use Rattle.gc_heap.specs.Heap.{HeapWords, image_of, graph_in}
use Rattle.gc_cert.specs.Grammar.{CertifiedPair}
use Rattle.gc_monitor.specs.Claims.{Accepts}
use Rattle.gc_monitor.specs.Origins.{pairs_in}
use Rattle.gc_monitor.specs.Outline.{outline_of}
use Rattle.gc_monitor.specs.Tables.{Tables}
use Rattle.gc_model.specs.State.{new_graph, pairs_of}
use Rattle.gc_model.specs.Linked.{linked_image, new_links}
use Rattle.gc_concurrent.specs.Ends.{Theirs, its}

-- In the new image a replica's link is its original's address.
abbrev pub flip_shown : HeapWords → Theirs → CertifiedPair
flip_shown heap t = record { old = image_of heap; new = linked_image (new_links (its t)) t.size (new_graph (its t) (map value_of heap.roots)); pairs = pairs_of (its t) }

-- the certificate of such a flip holds
abbrev pub CertifiesFlip : HeapWords → Theirs → Type 0
CertifiesFlip heap t = Certified (flip_shown heap t).old (flip_shown heap t).new (flip_shown heap t).pairs

-- A standing checker with these tables says yes to both heaps, once it has walked on to the end of the old one: all is seen, no field is due, and the
-- roots correspond by its own pairs. The certificate of these pairs holds.
pub record IsVouchedBy (tables : Tables) (old new : HeapWords) : Type 0 where
  pub walked : Tables
  pub same : record walked { olds = tables.olds } ≡ tables
  pub accepts : Accepts walked (outline_of (image_of old)) (outline_of (image_of new))
  pub certified : ∥ Certified (image_of old) (image_of new) (pairs_in tables.origins) ∥₁

-- some standing checker does
abbrev pub IsVouchedFor : HeapWords → HeapWords → Type 0
IsVouchedFor old new = (tables : Tables) × IsVouchedBy tables old new

-- A checker said this of a flip of the old heap, or a standing checker vouched for the new one. The certificate of the flip holds, and the new heap has
-- the graph to which that flip leads.
abbrev pub FlippedBy : (CertifiedPair → Type 0) → HeapWords → HeapWords → Type 0
FlippedBy says old new = (t : Theirs) × (IsVouchedFor old new ⊎ says (flip_shown old t)) × CertifiesFlip old t × (graph_in new ≡ new_graph (its t) (map value_of old.roots))
