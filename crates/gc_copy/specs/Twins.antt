-- The twin of a root: the word that it takes at a flip.
use Rattle.std.specs.Prelude.{◌≡◌, ℕ}
use Rattle.gc_graph.specs.Graph.{Value}
use Rattle.gc_words.specs.Word.{word_of}
use Rattle.gc_model.specs.State.{Collection, moved}
use Rattle.gc_model.specs.Staying.{HasReplicaOf}

-- this is the word of the value once references lead to replicas, and the value's target, if it has one, has a replica
pub record IsTwin (c : Collection) (v : Value) (word : ℕ) : Type 0 where
  pub known : HasReplicaOf c v
  pub word_is : word ≡ word_of (moved c v)
