-- What a command does to a heap of words.
use Rattle.std.specs.Prelude.{◌≡◌, ℕ}
use Rattle.gc_graph.specs.Machine.{roomy_step}
use Rattle.gc_graph.specs.declared.command.Op.{Op}
use Rattle.gc_graph.specs.declared.reply.Reply.{Reply}
use Rattle.gc_graph.specs.declared.command.Op.TheVariants as ops
use Rattle.gc_graph.specs.declared.reply.Reply.TheVariants as replies
use Rattle.gc_graph.specs.declared.reply.View.TheVariants as views
use Rattle.gc_graph.specs.Slots.{SlotName}
use Rattle.gc_words.specs.Space.{end_of}
use Rattle.gc_heap.specs.declared.taken.Fetched.{Fetched}
use Rattle.gc_heap.specs.declared.taken.Fetched.TheVariants.{NoObject, NoField, Nil, Num, Object}
use Rattle.gc_heap.specs.Heap.{HeapWords, KeepsLinks, roomy_in}

-- mutator m's command gets this reply and leads from the old heap to the new one
pub record Performs (old : HeapWords) (m : ℕ) (op : Op) (reply : Reply) (new : HeapWords) : Type 0 where
  -- the machine's step; the name of a new object is the end of the space
  pub step : roomy_step (roomy_in old) m op (end_of old.space) ≡ (reply, roomy_in new)
  pub links : KeepsLinks old.space.words new.space.words
  pub size : new.space.size ≡ old.space.size
  pub mutators : new.mutators ≡ old.mutators

-- what `fetch` shows of the reply to a `Get`: a value without the kind and the length of an object
abbrev pub fetched_of : Reply → Fetched
fetched_of replies.NoField = NoField
fetched_of (replies.Saw views.Nil) = Nil
fetched_of (replies.Saw (views.Num n)) = Num n
fetched_of (replies.Saw view) = Object
fetched_of reply = NoObject

-- mutator m's `Get` leads from the old heap to the new one, and `fetched` is what `fetch` shows of its reply
abbrev pub Fetches : HeapWords → ℕ → SlotName → SlotName → ℕ → Fetched → HeapWords → Type 0
Fetches old m d s i fetched new = (reply : Reply) × Performs old m (ops.Get d s i) reply new × (fetched ≡ fetched_of reply)
