-- Vectors of 64-bit words in raw objects.
use Rattle.std.specs.Prelude.{◌≡◌, ℕ, ◌+◌, nat_le, if◌then◌else◌, List, length, map, Option, Some, None}
use Rattle.std.specs.Option.{option_map}
use Rattle.gc_bytes.specs.Vector.{changed_tops, first_top, low_bits, words_in, words_of}
use Rattle.gc_graph.specs.Graph.{Graph, Ref, lookup, root}
use Rattle.gc_graph.specs.Machine.{Roomy, view_of}
use Rattle.gc_graph.specs.declared.reply.Reply.{Reply}
use Rattle.gc_graph.specs.declared.reply.Reply.TheVariants.{Done, NoField, NoObject}
use Rattle.gc_heap.specs.Places.{root_at}
use Rattle.gc_heap.specs.Raws.{raw_numbers}
use Rattle.gc_model.specs.State.{State}
use Rattle.gc_collected.specs.Giving.{gives_step}
use Rattle.gc_collected.specs.declared.giving.FieldValue.TheVariants.{Number}

-- the words of the vector that root p refers to, if it refers to a raw object
abbrev pub vector_in : Graph → ℕ → Option (List ℕ)
vector_in g p = option_map words_of (raw_numbers g (root_at p) 0)

-- the fields, from field i on, of the object in root p take these numbers
abbrev pub row_put : State → ℕ → ℕ → ℕ → List ℕ → State
row_put s m p i numbers = gives_step s m p i (map Number numbers)

-- so do the fields with the low bits of these words, and then those with the top bits that change
abbrev pub words_put : State → ℕ → ℕ → List ℕ → ℕ → List ℕ → State
words_put s m p fields at words = row_put (row_put s m p at (map low_bits words)) m p (first_top fields at) (changed_tops fields at words)

-- words are written over those of the vector with these fields, from word `at` on, if it has so many
abbrev pub write_over : State → ℕ → ℕ → Option (List ℕ) → ℕ → List ℕ → Reply × State
write_over old m p None at words = (NoObject, old)
write_over old m p (Some fields) at words = if nat_le (at + length words) (words_in (length fields)) then (Done, words_put old m p fields at words) else (NoField, old)

-- the reply and the next state where words are written over those of the root's vector
abbrev pub write_words_step : State → ℕ → ℕ → ℕ → List ℕ → Reply × State
write_words_step old m p at words = write_over old m p (raw_numbers old.heap.graph (root_at p) 0) at words

-- Root p refers to a vector with these words, in an object that looks as before. All other objects and all roots are as before, and no room was taken.
pub record OnlyVector (old new : Roomy) (p : ℕ) (words : List ℕ) : Type 0 where
  pub is : vector_in new.graph p ≡ Some words
  pub looks : view_of new.graph.objects (root new.graph p) ≡ view_of old.graph.objects (root old.graph p)
  pub others : (a : ℕ) → (root old.graph p ≡ Ref a → ⊥) → lookup new.graph.objects a ≡ lookup old.graph.objects a
  pub roots : new.graph.roots ≡ old.graph.roots
  pub free : new.free ≡ old.free
