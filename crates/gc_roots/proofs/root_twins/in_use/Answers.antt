-- The word of the last extra root that may be in use is 0, so the root is nil.
use Rattle.std.proofs.Common.{◌≡◌, ◌∙◌, ◌+◌, ◌-◌, ◌<◌, ◌≤◌, ⊎_elim, ℕ, List, length, get_or, ap, subst, arith}
use Rattle.std.proofs.lemmas.Bool.{cases_eq}
use Rattle.gc_graph.specs.Graph.{Nil, root}
use Rattle.gc_words.specs.Word.{value_of}
use Rattle.gc_heap.specs.Heap.{graph_in}
use Rattle.gc_copy.proofs.Public.{value_at}
use Rattle.gc_roots.proofs.root_twins.in_use.Goals as goal

pub loop-nils-preserved : goal.loop-nils-preserved
loop-nils-preserved c =
    let heap = c.args.heap.now in
    let left = c.loop-nils.left in
    let some : 1 ≤ left = omega (arith, c.if-left-eq0.false) in
    let last = c.args.slots + left - 1 in
    let within : last < length heap.roots = omega (arith, some, c.loop-nils.invariant.high, c.requires.within) in
    let zero : get_or heap.roots last 0 ≡ 0 = subst (λ (ws : List ℕ). get_or ws last 0 ≡ 0) c.roots.ensures.value c.if-roots-slots-ne0.false in
    let nil : root (graph_in heap) last ≡ Nil = value_at heap.roots last within ∙ ap value_of zero in
    record {
      low = omega (arith, some, c.loop-nils.invariant.low);
      high = omega (arith, c.loop-nils.invariant.high);
      nil = λ k le less. ⊎_elim
          (λ same. (let at : last ≡ c.args.slots + k = omega (arith, some, same) in subst (λ p. root (graph_in heap) p ≡ Nil) at nil))
          (λ differ. c.loop-nils.invariant.nil k (omega (arith, le, differ)) less)
          (cases_eq k (left - 1));
    }
