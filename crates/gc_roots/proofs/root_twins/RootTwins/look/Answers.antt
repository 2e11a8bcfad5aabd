-- The next root is the first without a replica, or it takes its twin.
use Rattle.std.proofs.lemmas.Grind.{common_steps}
use Rattle.std.proofs.Common.{◌≡◌, ◌+◌, ◌∙◌, ap, refl, sym, subst, arith}
use Rattle.gc_graph.specs.Slots.{roots_of}
use Rattle.gc_graph.specs.Graph.{root}
use Rattle.gc_heap.specs.Heap.{graph_in}
use Rattle.gc_copy.specs.Words.{collection_in, open_state}
use Rattle.gc_copy.specs.Twins.{IsTwin}
use Rattle.gc_roots.specs.Twins.{IsLooked}
use Rattle.gc_roots.proofs.Counted.{looks_once}
use Rattle.gc_roots.proofs.Looks.{missing_next, next_within}
use Rattle.gc_roots.proofs.Twins.{looked_keeps}
use Rattle.gc_roots.proofs.root_twins.RootTwins.look.Goals as goal

pub returns-in-Err-clause-looked : goal.returns-in-Err-clause-looked
returns-in-Err-clause-looked c =
    let slots : c.root_count-slots.result ≡ roots_of c.args.heap.now.mutators = c.root_count-slots.ensures ∙ ap roots_of c.mutators.ensures.value in (
      refl,
      missing_next c.args.self.now (open_state c.args.heap.now c.args.collection.now) (collection_in c.args.collection.now) c.args.k (roots_of c.args.heap.now.mutators + c.args.k) c.in-Err.target.0 refl
          c.requires.keeps c.requires.next refl (ap (λ n. root (graph_in c.args.heap.now) (n + c.args.k)) (sym slots) ∙ c.in-Err.ensures.twin.0) c.in-Err.ensures.twin.1,
    )

pub returns-in-Ok-clause-keeps : goal.returns-in-Ok-clause-keeps
returns-in-Ok-clause-keeps c =
    let state = open_state c.args.heap.now c.args.collection.now in
    let slots : c.root_count-slots.result ≡ roots_of c.args.heap.now.mutators = c.root_count-slots.ensures ∙ ap roots_of c.mutators.ensures.value in
    c.trim.ensures.keeps state refl refl
    (looked_keeps c.args.self.now c.looked.new.self state (collection_in c.args.collection.now) c.args.k c.in-Ok.word refl
    (subst (λ n. IsLooked c.args.self.now c.looked.new.self n c.args.k c.in-Ok.word) slots c.looked.ensures.looked) c.looked.ensures.used c.requires.next.low
    (next_within c.args.self.now state c.args.k c.requires.keeps c.requires.next)
    (subst (λ n. IsTwin (collection_in c.args.collection.now) (root (graph_in c.args.heap.now) (n + c.args.k)) c.in-Ok.word) slots c.in-Ok.ensures.twin) c.requires.keeps)

pub returns-in-Ok-clause-less : goal.returns-in-Ok-clause-less
returns-in-Ok-clause-less c = looks_once c.args.self.now c.looked.new.self c.trim.new.self c.root_count-slots.result c.args.k c.in-Ok.word c.requires.next c.looked.ensures.looked c.looked.ensures.used c.trim.ensures.rest c.trim.ensures.used.0 (grind (arith, common_steps, c.trim.ensures.used.1, c.from.ensures))
