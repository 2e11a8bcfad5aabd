-- The images of the words have the roots of the model's images.
use Rattle.std.proofs.Common.{◌≡◌, ◌+◌, ◌∙◌, ℕ, true, List, [], ◌∷◌, map, refl, sym, ap, subst}
use Rattle.std.specs.Prelude.{slice_index}
use Rattle.gc_graph.specs.Slots.{roots_of}
use Rattle.gc_words.specs.Word.{value_of, word_of, words_correspond}
use Rattle.gc_model.specs.State.{pairs_of}
use Rattle.gc_copy.specs.Words.{collection_in, new_root_words, open_state}
use Rattle.gc_copy.proofs.Public.{word_back}
use Rattle.gc_collected.proofs.flipping.root_watcher.Goals as goal

words_back : (words : List ℕ) → map word_of (map value_of words) ≡ words
words_back [] = refl
words_back (w ∷ words) = let rest = words_back words in let one = word_back w in λ i. one i ∷ rest i

pub returns-clause-looked : goal.returns-clause-looked
returns-clause-looked c same k less none =
    let heap = c.args.heap.now in
    let news = new_root_words heap (collection_in c.args.collection.now) in
    let count : c.root_count.result ≡ roots_of heap.mutators = c.root_count.ensures ∙ ap roots_of c.mutators.ensures.value in
    let looked = c.twins_are_alike.ensures.rows heap (open_state heap c.args.collection.now) (collection_in c.args.collection.now) c.args.twins.now c.args.looks.now c.are_shown.ensures.sound refl refl c.are_shown.ensures.opened c.requires.keeps c.requires.compares k less none in
    subst (λ (pairs : List (ℕ × ℕ)). words_correspond pairs (slice_index (map word_of (map value_of heap.roots)) (c.root_count.result + k)) (slice_index news (c.root_count.result + k)) ≡ true) (sym same)
    (ap (λ (ws : List ℕ). words_correspond (pairs_of (collection_in c.args.collection.now)) (slice_index ws (c.root_count.result + k)) (slice_index news (c.root_count.result + k))) (words_back heap.roots)
    ∙ ap (λ n. words_correspond (pairs_of (collection_in c.args.collection.now)) (slice_index heap.roots (n + k)) (slice_index news (n + k))) count
    ∙ looked)
