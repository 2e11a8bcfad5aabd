-- Objects whose fields are written one by one: a new one from slots, and any one with values that no root has to hold.
use Rattle.std.specs.Prelude.{◌≡◌, ℕ, suc, List, [], ◌∷◌, length, Some, IsFalse}
use Rattle.gc_graph.specs.Graph.{Graph, Value, Num, Ref, field_of, object_of, root}
use Rattle.gc_graph.specs.Machine.{put_field}
use Rattle.gc_graph.specs.declared.reply.Reply.{Reply}
use Rattle.gc_graph.specs.declared.reply.Reply.TheVariants.{Done}
use Rattle.gc_words.specs.Image.{Block, block_at}
use Rattle.gc_heap.specs.Heap.{HeapWords, KeepsLinks, graph_in}

-- root p refers to the object at this address, which has `len` fields, each for any value
pub record TakesFields (heap : HeapWords) (p at len : ℕ) : Type 0 where
  pub block : Block
  pub found : block_at heap.space.words at ≡ Some block
  pub plain : IsFalse block.header.raw
  pub long : length block.fields ≡ len
  pub target : root (graph_in heap) p ≡ Ref at

-- Field i of the object in root p takes this value, as by a `Put` of a root that holds it. No root changes.
pub record PutsValue (old : HeapWords) (p i : ℕ) (v : Value) (new : HeapWords) : Type 0 where
  pub graph : let object = object_of (graph_in old).objects (root (graph_in old) p) in
      ◌≡◌ {A = Reply × Graph} (Done, graph_in new) (put_field (graph_in old) (root (graph_in old) p) object (field_of object i) i v)
  pub links : KeepsLinks old.space.words new.space.words
  pub end : length new.space.words ≡ length old.space.words
  pub size : new.space.size ≡ old.space.size
  pub roots : new.roots ≡ old.roots
  pub mutators : new.mutators ≡ old.mutators

-- these fields of the object in root p take these values, in order
abbrev pub PutsAll : HeapWords → ℕ → List (ℕ × Value) → HeapWords → Type 0
PutsAll old p [] new = old ≡ new
PutsAll old p (e ∷ rest) new = (next : HeapWords) × PutsValue old p e.0 e.1 next × PutsAll next p rest new

-- field i and the number that it takes, and so on with the next field
abbrev pub numbered : ℕ → List ℕ → List (ℕ × Value)
numbered i [] = []
numbered i (n ∷ rest) = (i, Num n) ∷ numbered (suc i) rest
