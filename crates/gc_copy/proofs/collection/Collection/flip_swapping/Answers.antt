-- The new space keeps links that lead nowhere, as none is above the mark, all logs are empty because the collection was ready, and the
-- links of the old words tell its pairs.
use Rattle.std.proofs.lemmas.Grind.{common_steps}
use Rattle.std.proofs.Common.{◌≡◌, ℕ, List, [], ◌∷◌, true, map, length, replicate, refl, sym, ap, subst, arith}
use Rattle.std.specs.List.{list_all}
use Rattle.std.proofs.lemmas.Bool.{and_parts}
use Rattle.std.specs.Prelude.{IsTrue}
use Rattle.gc_words.specs.Space.{SpaceWords}
use Rattle.gc_heap.specs.Heap.{HeapWords, IsHeap, graph_in}
use Rattle.gc_model.specs.Steps.{is_ready, is_empty}
use Rattle.gc_copy.specs.Words.{Log, CollectionWords, IsCollection, entries_of, BelongsTo, collection_in, new_root_words}
use Rattle.gc_model.proofs.Public.{ready_parts}
use Rattle.gc_copy.proofs.Flipping.{flipped_sound, flip_is, below_the_mark}
use Rattle.gc_copy.specs.Internal.Words.{moves_of}
use Rattle.gc_copy.proofs.Moves.{moves_told}
use Rattle.gc_copy.proofs.collection.Collection.flip_swapping.Goals as goal

empty_logs : (logs : List Log) → list_all is_empty (map entries_of logs) ≡ true → map entries_of logs ≡ replicate (length logs) []
empty_logs [] h = refl
empty_logs (l ∷ logs) h = grind (arith, common_steps, and_parts, empty_logs logs)

-- the heap after the flip
sound : (heap : HeapWords) (c : CollectionWords) (space : SpaceWords) (roots : List ℕ) → IsHeap heap → IsCollection c → BelongsTo heap c → IsTrue (is_ready (collection_in c) (graph_in heap)) → roots ≡ new_root_words heap (collection_in c) → space ≡ c.space
    → IsHeap (record { space = space; roots = roots; mutators = heap.mutators })
sound heap c space roots is whole belongs ready new same = grind (arith, common_steps, flipped_sound)

pub replace-space-requires : goal.replace-space-requires
replace-space-requires c =
    sound c.args.heap.now c.args.self c.self.inside.space c.args.roots.items c.space.ensures.sound (subst IsCollection c.self.view_is c.self.invariant.0) c.requires.belongs c.requires.ready c.requires.roots
    (ap (λ (y : CollectionWords). y.space) c.self.view_is)

pub returns-clause-sound : goal.returns-clause-sound
returns-clause-sound c =
    subst IsHeap (sym c.replace-space.ensures.heap)
    (sound c.args.heap.now c.args.self c.self.inside.space c.args.roots.items c.space.ensures.sound (subst IsCollection c.self.view_is c.self.invariant.0) c.requires.belongs c.requires.ready c.requires.roots
    (ap (λ (y : CollectionWords). y.space) c.self.view_is))

pub returns-clause-step : goal.returns-clause-step
returns-clause-step c = grind (arith, common_steps, sound, flip_is)

pub returns-clause-links : goal.returns-clause-links
returns-clause-links c = grind (arith, common_steps, sound, below_the_mark)

pub invariant_of-room : goal.invariant_of-room
invariant_of-room c = grind (arith, common_steps, sound, empty_logs, ready_parts)

pub returns-clause-moves : goal.returns-clause-moves
returns-clause-moves c =
    moves_told c.args.heap.now c.args.self (subst IsCollection c.self.view_is c.self.invariant.0) c.requires.belongs
    (record { size = c.replace-space.result.0.size; mutators = length c.self.inside.logs.items; moves = moves_of c.self.inside.epoch c.replace-space.result.0.words })
    (λ i. moves_of (c.self.view_is i).epoch (c.replace-space.ensures.space i).words)
