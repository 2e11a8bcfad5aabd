-- What a slot takes from a field.
use Rattle.std.specs.Prelude.{ℕ, List, ⊤}
use Rattle.gc_graph.specs.Machine.{view_of}
use Rattle.gc_graph.specs.declared.reply.Reply.{Reply}
use Rattle.gc_graph.specs.declared.reply.Reply.TheVariants as replies
use Rattle.gc_words.specs.Word.{value_of}
use Rattle.gc_words.specs.Closed.{IsRootWord}
use Rattle.gc_heap.specs.Heap.{HeapWords, graph_in}
use Rattle.gc_heap.specs.declared.taken.Taken.{Taken}
use Rattle.gc_heap.specs.declared.taken.Taken.TheVariants.{NoObject, NoField, Word}

-- the reply to the `Get`
abbrev pub taken_reply : HeapWords → Taken → Reply
taken_reply heap NoObject = replies.NoObject
taken_reply heap NoField = replies.NoField
taken_reply heap (Word w) = replies.Saw (view_of (graph_in heap).objects (value_of w))

-- a word that was taken is a root word
abbrev pub IsTakenWord : List ℕ → Taken → Type 0
IsTakenWord words NoObject = ⊤
IsTakenWord words NoField = ⊤
IsTakenWord words (Word w) = IsRootWord words w
