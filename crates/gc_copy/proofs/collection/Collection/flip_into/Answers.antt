-- The new space without its links and the moved roots are a sound heap, which is the heap after the model's flip.
use Rattle.gc_words.proofs.Public.{link_cleared, cleared}
use Rattle.std.proofs.lemmas.Grind.{common_steps}
use Rattle.std.proofs.Common.{◌≡◌, ℕ, List, sym, ap, ◌∙◌, subst, arith}
use Rattle.std.specs.Prelude.{IsTrue}
use Rattle.gc_words.specs.Space.{SpaceWords, without_links}
use Rattle.gc_heap.specs.Heap.{HeapWords, IsHeap, graph_in}
use Rattle.gc_model.specs.Steps.{is_ready}
use Rattle.gc_copy.specs.Words.{CollectionWords, IsCollection, BelongsTo, collection_in, new_root_words}
use Rattle.gc_copy.proofs.Flipping.{flipped_sound, flip_is, without_its_links}
use Rattle.gc_copy.proofs.collection.Collection.flip_into.Goals as goal

-- the space that replaces the heap's
space_is : (s : SpaceWords) (x c : CollectionWords) → x ≡ c → s ≡ without_links x.space → s ≡ without_links c.space
space_is s x c e f = f ∙ ap (λ (y : CollectionWords). without_links y.space) e

-- the heap after the flip
sound : (heap : HeapWords) (c : CollectionWords) (space : SpaceWords) (roots : List ℕ) → IsHeap heap → IsCollection c → BelongsTo heap c → IsTrue (is_ready (collection_in c) (graph_in heap)) → roots ≡ new_root_words heap (collection_in c) → space ≡ without_links c.space
    → IsHeap (record { space = space; roots = roots; mutators = heap.mutators })
sound heap c space roots is whole belongs ready new cleared =
    subst IsHeap (λ i. record { space = sym cleared i; roots = sym new i; mutators = heap.mutators }) (flipped_sound heap c (without_links c.space) is whole belongs ready (without_its_links c.space whole.space))

pub replace-requires : goal.replace-requires
replace-requires c = grind (arith, common_steps, sound, space_is)

pub returns-clause-sound : goal.returns-clause-sound
returns-clause-sound c = grind (arith, common_steps, sound, space_is)

pub returns-clause-step : goal.returns-clause-step
returns-clause-step c = grind (arith, common_steps, sound, space_is, flip_is, without_its_links)

pub returns-clause-links : goal.returns-clause-links
returns-clause-links c = grind (arith, common_steps, sound, space_is, link_cleared, cleared)
