-- After the last root the target of each has a replica.
use Rattle.std.proofs.Common.{◌≡◌, ℕ, List, length, slice_index, ap, ◌∙◌, subst, arith}
use Rattle.std.specs.Prelude.{IsSome}
use Rattle.gc_graph.specs.Graph.{Ref}
use Rattle.gc_words.specs.Word.{value_of}
use Rattle.gc_model.specs.State.{replica_of}
use Rattle.gc_concurrent.specs.Ends.{its}
use Rattle.gc_concurrent.specs.Holders.{known_to}
use Rattle.gc_concurrent.specs.declared.held.Held.{Held}
use Rattle.gc_concurrent.proofs.Rooting.{placed_next, nearer_then}
use Rattle.gc_concurrent.proofs.Turn.{roots_placed}
use Rattle.gc_concurrent.proofs.held.Held.place_roots.Goals as goal

pub loop-k-preserved : goal.loop-k-preserved
loop-k-preserved c =
    let was : Held = c.loop-k.self in
    let now : Held = c.place_root.new.self in
    let told = c.place_root.ensures in
    let inv = c.loop-k.invariant in
    let true_it = c.if-not-place_root.false in
    record {
      settled = told.settled true_it;
      placed = placed_next (known_to was.copier) (known_to now.copier) c.args.self.now.roots.items c.loop-k.k told.replicas inv.placed
          (subst (λ (roots : List ℕ). (a : ℕ) → value_of (slice_index roots c.loop-k.k) ≡ Ref a → IsSome (replica_of (its (known_to now.copier)) a)) inv.roots (told.placed true_it));
      roots = told.roots ∙ inv.roots;
      heap = told.heap ∙ inv.heap;
      moves = told.moves ∙ inv.moves;
      since = told.since ∙ inv.since;
      nearer = nearer_then c.args.self.now was now inv.heap inv.nearer (told.nearer true_it);
      begun = record { base = told.begun.base ∙ inv.begun.base; from = told.begun.from ∙ inv.begun.from; into = told.begun.into ∙ inv.begun.into };
      row = told.row ∙ inv.row;
    }

pub returns-clause-placed : goal.returns-clause-placed
returns-clause-placed c _ =
    let now : Held = c.loop-k.self in
    let inv = c.loop-k.invariant in
    roots_placed (known_to now.copier) now.roots.items
    (λ k a l is. inv.placed k a (let n = ap (length {A = ℕ}) inv.roots in let e = c.len-k-end.ensures in let t = c.loop-k-test.false in omega arith)
    (subst (λ (roots : List ℕ). value_of (slice_index roots k) ≡ Ref a) inv.roots is))
