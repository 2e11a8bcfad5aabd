-- The numbers in a raw object, and the reply to a call that writes some of them.
use Rattle.std.specs.Prelude.{ℕ, ◌+◌, ◌^◌, nat_le, nat_lt, Bool, if◌then◌else◌, List, length, map, Option, Some, None}
use Rattle.std.specs.Bool.{then_some}
use Rattle.std.specs.List.{list_all}
use Rattle.std.specs.Option.{option_and_then}
use Rattle.gc_graph.specs.Graph.{Object, Graph, object_of, root, number_of}
use Rattle.gc_graph.specs.Slots.{SlotName, place}
use Rattle.gc_graph.specs.declared.reply.Reply.{Reply}
use Rattle.gc_graph.specs.declared.reply.Reply.TheVariants.{Done, NoObject, NoField, NoNumber}

-- the numbers in the fields of an object, if it is raw
abbrev pub numbers_in : Option Object → Option (List ℕ)
numbers_in o = option_and_then (λ object. then_some object.raw (map number_of object.fields)) o

-- the numbers in the raw object that mutator m's slot refers to
abbrev pub raw_numbers : Graph → SlotName → ℕ → Option (List ℕ)
raw_numbers g s m = numbers_in (object_of g.objects (root g (place s m)))

-- a word that is a number, and not too large for one
abbrev pub is_number_word : ℕ → Bool
is_number_word w = nat_lt w (2 ^ 63)

-- the reply where these words are to go to the fields from `first` on: whether there is a raw object, it has the fields, and all words are numbers
abbrev pub numbers_reply : ℕ → List ℕ → Option (List ℕ) → Reply
numbers_reply first words None = NoObject
numbers_reply first words (Some fields) =
    if nat_le (first + length words) (length fields) then (if list_all is_number_word words then Done else NoNumber) else NoField
