-- What C's variables take: a number that there may be or not, and the value in a field, with the address of its object.
use Rattle.std.specs.Prelude.{◌≡◌, ℕ, List, Option, Some, None}
use Rattle.std.specs.Option.{unwrap_or, option_map_or}
use Rattle.gc_graph.specs.Graph.{Object, Value, Nil, Ref, field_of}
use Rattle.gc_graph.specs.Machine.{view_of}
use Rattle.gc_check.specs.InC.{done}
use Rattle.gc_graph.specs.declared.reply.Reply.TheVariants.{NoObject, NoField}
use Rattle.gc_in_c.specs.Replies.{reply_in_c, seen_in_c, view_in_c}
use Rattle.gc_in_c.specs.declared.reply.GcflipView.{GcflipView}

-- C's variable takes the number, which may be an address; if there is none, it stays as it was, and the answer says so
abbrev pub TellsNumber : Option ℕ → ℕ → ℕ → ℕ → Type 0
TellsNumber found before after answer = (answer ≡ option_map_or (λ _. done) found (reply_in_c NoObject)) × (after ≡ unwrap_or found before)

-- C's view of a value, which has the address of its object as a number
abbrev pub value_in_c : List (ℕ × Object) → Value → GcflipView
value_in_c objects (Ref a) = record (view_in_c (view_of objects (Ref a))) { number = a }
value_in_c objects v = view_in_c (view_of objects v)

-- C's view shows the value; if there is none, it stays as it was, and the answer says so
abbrev pub TellsValue : List (ℕ × Object) → Option Value → GcflipView → GcflipView → ℕ → Type 0
TellsValue objects None before after answer = (answer ≡ reply_in_c NoField) × (after ≡ before)
TellsValue objects (Some v) before after answer = (answer ≡ seen_in_c (view_of objects v)) × (after ≡ value_in_c objects v)

-- C's view shows the value in field i of the object, and nil if there is no object
abbrev pub TellsField : List (ℕ × Object) → Option Object → ℕ → GcflipView → GcflipView → ℕ → Type 0
TellsField objects None i before after answer = TellsValue objects (Some Nil) before after answer
TellsField objects (Some object) i before after answer = TellsValue objects (field_of (Some object) i) before after answer
