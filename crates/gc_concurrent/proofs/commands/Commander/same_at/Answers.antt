-- Two roots are compared as their words are.
use Rattle.std.proofs.Common.{◌≡◌, ℕ, ◌<◌, length, Bool, true, false, refl, sym, ◌∙◌, ap, subst}
use Rattle.std.specs.Prelude.{slice_index, if◌then◌else◌}
use Rattle.gc_graph.specs.Graph.{root}
use Rattle.gc_graph.specs.Machine.{same}
use Rattle.gc_graph.specs.declared.reply.Reply.TheVariants.{Yes, No}
use Rattle.gc_words.specs.Word.{value_of}
use Rattle.gc_words.specs.Closed.{IsRootWord}
use Rattle.gc_heap.specs.Heap.{HeapWords, IsHeap, graph_in}
use Rattle.gc_heap.proofs.Public.{read_root, root_word, same_words, other_words, at_root}
use Rattle.gc_concurrent.specs.Holders.{heap_in}
use Rattle.gc_concurrent.proofs.commands.Commander.same_at.Goals as goal

-- the reply for two roots that hold these words
compared : (h : HeapWords) → IsHeap h → (s t v w : ℕ) (b : Bool) → s < length h.roots → t < length h.roots → v ≡ slice_index h.roots s → w ≡ slice_index h.roots t
    → (IsRootWord h.space.words v → IsRootWord h.space.words w → same (graph_in h).objects (value_of v) (value_of w) ≡ b)
    → (if b then Yes else No) ≡ (if same (graph_in h).objects (root (graph_in h) s) (root (graph_in h) t) then Yes else No)
compared h is s t v w b one other rv rw alike =
    let at : same (graph_in h).objects (root (graph_in h) s) (root (graph_in h) t) ≡ b = (λ i. same (graph_in h).objects (at_root h s v rv i) (at_root h t w rw i))
    ∙ alike (subst (IsRootWord h.space.words) (sym rv) (root_word h s is one)) (subst (IsRootWord h.space.words) (sym rw) (root_word h t is other)) in
    sym (ap (λ x. if x then Yes else No) at)

pub returns-then-index : goal.returns-then-index
returns-then-index c =
    let h : HeapWords = heap_in c.args.self.now in
    compared h c.args.self.now.sound c.args.s c.args.t _ _ true c.requires.one c.requires.other (read_root h h.roots c.args.s c.index.result.now refl c.requires.one c.index.ensures)
    (read_root h h.roots c.args.t c.index-2.result.now refl c.requires.other c.index-2.ensures) (λ x y. same_words h _ _ x y c.if-index.true)

pub returns-else-index : goal.returns-else-index
returns-else-index c =
    let h : HeapWords = heap_in c.args.self.now in
    compared h c.args.self.now.sound c.args.s c.args.t _ _ false c.requires.one c.requires.other (read_root h h.roots c.args.s c.index.result.now refl c.requires.one c.index.ensures)
    (read_root h h.roots c.args.t c.index-2.result.now refl c.requires.other c.index-2.ensures) (λ x y. other_words h _ _ x y c.if-index.false)
