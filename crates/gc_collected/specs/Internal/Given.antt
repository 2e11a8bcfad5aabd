-- Values that fields of one object take one after the other, in the mutators' heap alone.
use Rattle.std.specs.Prelude.{◌≡◌, ℕ, zero, suc, List, [], ◌∷◌, ◌++◌, map, slice_get}
use Rattle.std.specs.Option.{unwrap_or}
use Rattle.gc_graph.specs.Graph.{Value, Nil, Num}
use Rattle.gc_heap.specs.Filling.{PutsValue}
use Rattle.gc_heap.specs.Heap.{HeapWords, graph_in}
use Rattle.gc_model.specs.State.{State}
use Rattle.gc_collected.specs.Copying.{value_in}
use Rattle.gc_collected.specs.Values.{put_value_step}
use Rattle.gc_collected.specs.declared.giving.FieldValue.{FieldValue}
use Rattle.gc_collected.specs.declared.giving.FieldValue.TheVariants as values

-- the state after mutator m has put these values into these fields of the object in root p
abbrev pub puts_step : State → ℕ → ℕ → List (ℕ × Value) → State
puts_step s m p [] = s
puts_step s m p (e ∷ rest) = puts_step (put_value_step s m p e.0 e.1).1 m p rest

-- so many fields, from field i on, and the same value for each
abbrev pub same_from : ℕ → ℕ → Value → List (ℕ × Value)
same_from i zero v = []
same_from i (suc n) v = (i, v) ∷ same_from (suc i) n v

-- so many fields of the object in root p, from field i on, take in order what those of the object in root q have then, from field j on
abbrev pub CopiesAll : HeapWords → ℕ → ℕ → ℕ → ℕ → ℕ → HeapWords → Type 0
CopiesAll old p i q j zero new = old ≡ new
CopiesAll old p i q j (suc n) new = (next : HeapWords) × PutsValue old p i (value_in (graph_in old) q j) next × CopiesAll next p (suc i) q (suc j) n new

-- these fields of the object at a
abbrev pub fields_put : ℕ → List (ℕ × Value) → List (ℕ × ℕ)
fields_put a entries = map (λ e. (a, e.0)) entries

-- field i and the value that it takes where the roots have these values, unless it stays nil
abbrev pub given_at : List Value → ℕ → FieldValue → List (ℕ × Value)
given_at roots i values.Nil = []
given_at roots i (values.Number n) = (i, Num n) ∷ []
given_at roots i (values.Root p) = (i, unwrap_or (slice_get roots p) Nil) ∷ []

-- and so on, from field i on
abbrev pub given_from : List Value → ℕ → List FieldValue → List (ℕ × Value)
given_from roots i [] = []
given_from roots i (v ∷ rest) = given_at roots i v ++ given_from roots (suc i) rest

-- field i of the object at a is written, unless it stays nil
abbrev pub field_given : ℕ → ℕ → FieldValue → List (ℕ × ℕ)
field_given a i values.Nil = []
field_given a i value = (a, i) ∷ []

-- and so on, from field i on
abbrev pub fields_given : ℕ → ℕ → List FieldValue → List (ℕ × ℕ)
fields_given a i [] = []
fields_given a i (v ∷ rest) = field_given a i v ++ fields_given a (suc i) rest
