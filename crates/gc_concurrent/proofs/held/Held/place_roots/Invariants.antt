-- The targets of the roots so far have replicas.
use Rattle.std.proofs.Common.{◌≡◌, ℕ, ◌<◌, slice_index}
use Rattle.std.specs.Prelude.{IsSome}
use Rattle.gc_graph.specs.Graph.{Ref}
use Rattle.gc_words.specs.Word.{value_of}
use Rattle.gc_model.specs.State.{replica_of}
use Rattle.gc_concurrent.specs.Ends.{its}
use Rattle.gc_concurrent.specs.Holders.{beginning_held, heap_held, known_to, moves_held, StaysOrIsNearer}
use Rattle.gc_concurrent.specs.Internal.Settled.{IsSettled}
use Rattle.gc_concurrent.specs.Works.{KeepsBeginning}
use Rattle.gc_concurrent.proofs.held.Held.place_roots.Given as goal

abbrev pub invariant-loop-k : goal.invariant-loop-k
invariant-loop-k l = record {
  settled : IsSettled l.self.copier;
  placed : (j a : ℕ) → j < l.k → value_of (slice_index l.fn.self.roots.items j) ≡ Ref a → IsSome (replica_of (its (known_to l.self.copier)) a);
  roots : l.self.roots.items ≡ l.fn.self.roots.items;
  heap : heap_held l.self ≡ heap_held l.fn.self;
  moves : moves_held l.self ≡ moves_held l.fn.self;
  since : beginning_held l.self ≡ beginning_held l.fn.self;
  nearer : StaysOrIsNearer l.fn.self l.self;
  begun : KeepsBeginning (known_to l.fn.self.copier) (known_to l.self.copier);
  row : l.self.copier.seat.table_id ≡ l.fn.self.copier.seat.table_id;
}
