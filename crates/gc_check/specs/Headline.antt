-- The soundness theorem, which we call the headline: if a certificate holds, this is what mutators can rely on when they
-- continue on the new heap.
use Rattle.std.specs.Prelude.{◌≡◌, ℕ, List, length, take, IsTrue}
use Rattle.gc_graph.specs.Graph.{at_path, Reachable, lookup}
use Rattle.gc_graph.specs.Correspond.{paired, Agree, EqualFieldByField}
use Rattle.gc_graph.specs.Runs.{replies, HasRoom}
use Rattle.gc_graph.specs.declared.command.Op.{Op}
use Rattle.gc_words.specs.Image.{Image, graph_of, roomy_of}

pub record Replicated (old new : Image) (pairs : List (ℕ × ℕ)) : Type 0 where
  -- every path finds nothing in both heaps, or finds values that correspond
  pub paths : (place : ℕ) (fields : List ℕ) → Agree pairs (at_path (graph_of old) place fields) (at_path (graph_of new) place fields)
  -- every reachable object has exactly one replica
  pub one_replica : (a : ℕ) → Reachable (graph_of old) a → (b : ℕ) × IsTrue (paired pairs a b) × ((c : ℕ) → IsTrue (paired pairs a c) → c ≡ b)
  -- no two reachable objects share a replica
  pub its_own : (a b c : ℕ) → Reachable (graph_of old) a → Reachable (graph_of old) b → IsTrue (paired pairs a c) → IsTrue (paired pairs b c) → a ≡ b
  -- a replica equals its original field by field
  pub fields : (a b : ℕ) → Reachable (graph_of old) a → IsTrue (paired pairs a b) → EqualFieldByField pairs (lookup (graph_of old).objects a) (lookup (graph_of new).objects b)
  -- later commands get the same replies, up to the first new object for which one heap has no room
  pub same_replies : (commands : List (ℕ × Op)) (n : ℕ) → HasRoom (roomy_of old) commands n → HasRoom (roomy_of new) commands n
      → take n (replies (roomy_of old) commands) ≡ take n (replies (roomy_of new) commands)
  pub all_replies : (commands : List (ℕ × Op)) → HasRoom (roomy_of old) commands (length commands) → HasRoom (roomy_of new) commands (length commands)
      → replies (roomy_of old) commands ≡ replies (roomy_of new) commands
