-- What keeps a collection from copying what was unreachable: references lead only to what may be copied.
use Rattle.std.specs.Prelude.{◌≡◌, ◌≤◌, ℕ, List}
use Rattle.gc_model.specs.State.{Replica}
use Rattle.gc_graph.specs.Graph.{Value, Object}
use Rattle.gc_words.specs.Image.{objects_of}
use Rattle.gc_words.specs.Space.{end_of}
use Rattle.gc_model.specs.Members.{In}
use Rattle.gc_model.specs.Belonging.{RefersTo}
use Rattle.gc_concurrent.specs.Ends.{Mine, Theirs}
use Rattle.gc_concurrent.specs.Unreachable.{MayBeCopied}

-- P holds of each name in a field of an object that satisfies P
abbrev pub FieldsLeadTo : (ℕ → Type 0) → List (ℕ × Object) → Type 0
FieldsLeadTo P objects = (a : ℕ) (o : Object) → In (a, o) objects → P a → (v : Value) → In v o.fields → RefersTo P v

-- Both ends know the heap with which the collection began. Objects made since lie behind it. Fields of objects that may be copied refer only to
-- such objects, and only these are copied or wanted.
pub record KeepsUnreachableOut (m : Mine) (t : Theirs) : Type 0 where
  pub begun : t.base ≡ m.base.heap
  pub behind : end_of m.base.heap.space ≤ end_of m.space
  pub fields : FieldsLeadTo (MayBeCopied m.base) (objects_of m.space.words)
  pub copied : (r : Replica) → In r t.replicas → MayBeCopied m.base r.original
  pub wanted : (a : ℕ) → In a t.wanted → MayBeCopied m.base a
