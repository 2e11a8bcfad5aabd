-- Reading the numbers of a raw object at once, and the address of an object.
use Rattle.std.specs.Prelude.{◌≡◌, ℕ, ◌+◌, nat_le, if◌then◌else◌, List, length, Option, Some, None, slice_range}
use Rattle.gc_graph.specs.Graph.{name_of, root}
use Rattle.gc_graph.specs.Slots.{SlotName, place}
use Rattle.gc_check.specs.InC.{done}
use Rattle.gc_graph.specs.declared.reply.Reply.TheVariants.{NoObject, NoField}
use Rattle.gc_model.specs.State.{State}
use Rattle.gc_in_c.specs.Replies.{reply_in_c}

-- C's array takes as many numbers of a raw object, or bytes of a text, as it is long, from field or byte `first` on. It stays as it was where
-- there is no raw object or text, or it has fewer, and the answer says so.
abbrev pub Reads : ℕ → Option (List ℕ) → List ℕ → List ℕ → ℕ → Type 0
Reads first None before after answer = (answer ≡ reply_in_c NoObject) × (after ≡ before)
Reads first (Some numbers) before after answer =
    let has_fields = nat_le (first + length before) (length numbers) in
    (answer ≡ if has_fields then done else reply_in_c NoField) × (after ≡ if has_fields then slice_range numbers first (first + length before) else before)

-- the address of the object that mutator m's slot refers to
abbrev pub address_in : State → SlotName → ℕ → Option ℕ
address_in state slot m = name_of (root state.heap.graph (place slot m))
