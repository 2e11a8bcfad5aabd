-- Roots whose targets have replicas, and what commands and collector steps leave of them.
use Rattle.std.specs.Prelude.{◌≡◌, ℕ, ◌≤◌, ◌<◌, IsSome, IfSome, Option, Some, None, ⊤}
use Rattle.gc_graph.specs.Slots.{place}
use Rattle.gc_graph.specs.Graph.{Value, Nil, Num, Ref, Graph, root}
use Rattle.gc_graph.specs.declared.command.Op.{Op}
use Rattle.gc_graph.specs.declared.command.Op.TheVariants as ops
use Rattle.gc_model.specs.State.{Collection, State, replica_of}

-- nil, a number, or a reference to an object that has a replica
abbrev pub HasReplicaOf : Collection → Value → Type 0
HasReplicaOf c Nil = ⊤
HasReplicaOf c (Num n) = ⊤
HasReplicaOf c (Ref name) = IsSome (replica_of c name)

-- Among the roots from place `from` on, and below `to`, the one at this place is the first whose target has no replica. It
-- refers to the object with this name.
pub record IsMissing (c : Collection) (g : Graph) (from to place name : ℕ) : Type 0 where
  pub low : from ≤ place
  pub high : place < to
  pub before : (p : ℕ) → from ≤ p → p < place → HasReplicaOf c (root g p)
  pub target : root g place ≡ Ref name
  pub missing : replica_of c name ≡ None

-- if a collection is open, it has a replica of the target of the root at this place
abbrev pub KnowsRoot : State → ℕ → Type 0
KnowsRoot s p = IfSome s.collection (λ c. HasReplicaOf c (root s.heap.graph p))

-- the place of the root that mutator m's command may write
abbrev pub root_written : ℕ → Op → Option ℕ
root_written m (ops.New d kind len) = Some (place d m)
root_written m (ops.NewRaw d kind len) = Some (place d m)
root_written m (ops.Num d n) = Some (place d m)
root_written m (ops.Nil d) = Some (place d m)
root_written m (ops.Move d s) = Some (place d m)
root_written m (ops.Get d s i) = Some (place d m)
root_written m (ops.Put s i t) = None
root_written m (ops.Same s t) = None
root_written m (ops.Look s) = None
