-- Texts of bytes in raw objects.
use Rattle.std.specs.Prelude.{◌≡◌, ℕ, ◌+◌, ◌/◌, nat_le, if◌then◌else◌, List, [], ◌++◌, length, map, Option, Some, None, slice_range}
use Rattle.std.specs.Option.{option_and_then, unwrap_or}
use Rattle.gc_bytes.specs.Text.{changed_words, spelled, text_of}
use Rattle.gc_graph.specs.Graph.{Graph, Object, Ref, lookup, root}
use Rattle.gc_graph.specs.Machine.{Roomy, view_of}
use Rattle.gc_graph.specs.declared.reply.Reply.{Reply}
use Rattle.gc_graph.specs.declared.reply.Reply.TheVariants.{Done, NoField, NoObject}
use Rattle.gc_heap.specs.Places.{root_at}
use Rattle.gc_heap.specs.Raws.{numbers_in}
use Rattle.gc_model.specs.State.{State}
use Rattle.gc_collected.specs.Copying.{object_in}
use Rattle.gc_collected.specs.Giving.{gives_step}
use Rattle.gc_collected.specs.Numbers.{new_numbers_step}
use Rattle.gc_collected.specs.declared.giving.FieldValue.TheVariants.{Number}

-- the bytes of the text that an object is, if it is one
abbrev pub text_of_object : Option Object → Option (List ℕ)
text_of_object o = option_and_then text_of (numbers_in o)

-- the bytes of the text that root p refers to, if it refers to one
abbrev pub text_in : Graph → ℕ → Option (List ℕ)
text_in g p = text_of_object (object_in g (root_at p) 0)

-- those, or none
abbrev pub bytes_in : Graph → ℕ → List ℕ
bytes_in g p = unwrap_or (text_in g p) []

-- a new object with both texts, one behind the other
abbrev pub joined_texts : State → ℕ → ℕ → ℕ → Option (List ℕ) → Option (List ℕ) → Reply × State
joined_texts old m d kind (Some one) (Some other) = new_numbers_step old m d kind (spelled (one ++ other))
joined_texts old m d kind one other = (NoObject, old)

-- the reply and the next state where both roots' texts are joined in a new object
abbrev pub join_step : State → ℕ → ℕ → ℕ → ℕ → ℕ → Reply × State
join_step old m d kind s t = joined_texts old m d kind (text_in old.heap.graph s) (text_in old.heap.graph t)

-- a new object with so many bytes of the text, from one of them on, if it has them
abbrev pub part : State → ℕ → ℕ → ℕ → Option (List ℕ) → ℕ → ℕ → Reply × State
part old m d kind None at count = (NoObject, old)
part old m d kind (Some text) at count =
    if nat_le (at + count) (length text) then new_numbers_step old m d kind (spelled (slice_range text at (at + count))) else (NoField, old)

-- the reply and the next state where a part of the root's text is copied to a new object
abbrev pub part_step : State → ℕ → ℕ → ℕ → ℕ → ℕ → ℕ → Reply × State
part_step old m d kind s at count = part old m d kind (text_in old.heap.graph s) at count

-- these bytes are written over those of the text, from one of them on, if it has so many: each word that changes is put, in rising order
abbrev pub write : State → ℕ → ℕ → Option (List ℕ) → ℕ → List ℕ → Reply × State
write old m s None at bytes = (NoObject, old)
write old m s (Some text) at bytes =
    if nat_le (at + length bytes) (length text) then (Done, gives_step old m s (at / 7) (map Number (changed_words text at bytes))) else (NoField, old)

-- the reply and the next state where bytes are written over those of the root's text
abbrev pub write_step : State → ℕ → ℕ → ℕ → List ℕ → Reply × State
write_step old m s at bytes = write old m s (text_in old.heap.graph s) at bytes

-- Root p refers to this text, in an object that looks as before. All other objects and all roots are as before, and no room was taken.
pub record OnlyText (old new : Roomy) (p : ℕ) (text : List ℕ) : Type 0 where
  pub is : text_in new.graph p ≡ Some text
  pub looks : view_of new.graph.objects (root new.graph p) ≡ view_of old.graph.objects (root old.graph p)
  pub others : (a : ℕ) → (root old.graph p ≡ Ref a → ⊥) → lookup new.graph.objects a ≡ lookup old.graph.objects a
  pub roots : new.graph.roots ≡ old.graph.roots
  pub free : new.free ≡ old.free
