-- What the machine's `Get` does to graphs, and what a header says of an object and of a row of numbers in it.
use Rattle.std.specs.Prelude.{◌≡◌, ◌+◌, ℕ, nat_le, Option, Some, None, length, IsSomeAnd, if◌then◌else◌}
use Rattle.gc_graph.specs.Graph.{Graph, Object, field_of, object_of, root}
use Rattle.gc_graph.specs.Machine.{get_field}
use Rattle.gc_heap.specs.Heap.{HeapWords, graph_in}
use Rattle.gc_graph.specs.declared.reply.Reply.{Reply}
use Rattle.gc_graph.specs.declared.reply.Reply.TheVariants.{Done, NoObject, NoField}
use Rattle.gc_words.specs.declared.header.Header.{Header}

-- The machine's `Get` of field i of the object in root s into root d leads from the one heap's graph to the other's, with this reply.
abbrev pub GetsField : HeapWords → ℕ → ℕ → ℕ → Reply → HeapWords → Type 0
GetsField old d s i reply new =
    let object = object_of (graph_in old).objects (root (graph_in old) s) in
    ◌≡◌ {A = Reply × Graph} (reply, graph_in new) (get_field (graph_in old) d object (field_of object i))

-- There is an object. It is raw if the header says so, and has as many fields as that says.
abbrev pub FitsHeader : Header → Option Object → Type 0
FitsHeader header o = IsSomeAnd o (λ object. (object.raw ≡ header.raw) × (length object.fields ≡ header.len))

-- whether there is a raw object with so many fields from `first` on
abbrev pub row_told : ℕ → ℕ → Option Header → Reply
row_told first count None = NoObject
row_told first count (Some header) = if header.raw then (if nat_le (first + count) header.len then Done else NoField) else NoObject
