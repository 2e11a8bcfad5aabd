-- A new object whose fields take numbers and the values of roots, without a root for the numbers.
use Rattle.std.specs.Prelude.{ℕ, suc, ◌<◌, List, [], ◌∷◌, length, ⊤}
use Rattle.gc_graph.specs.Graph.{Num}
use Rattle.gc_graph.specs.declared.command.Op.TheVariants as ops
use Rattle.gc_graph.specs.declared.reply.Reply.{Reply}
use Rattle.gc_graph.specs.declared.reply.Reply.TheVariants.{Full}
use Rattle.gc_heap.specs.Places.{root_at}
use Rattle.gc_model.specs.State.{State}
use Rattle.gc_model.specs.Steps.{mutate}
use Rattle.gc_collected.specs.Values.{put_value_step}
use Rattle.gc_collected.specs.declared.giving.FieldValue.{FieldValue}
use Rattle.gc_collected.specs.declared.giving.FieldValue.TheVariants.{Nil, Number, Root}

-- a field that takes the value of a root names one of so many
abbrev pub IsGiven : ℕ → FieldValue → Type 0
IsGiven roots (Root p) = p < roots
IsGiven roots value = ⊤

-- field i of the object in root d takes its value: none stays nil, a number goes through no root, and a root's value by a `Put`
abbrev pub give_step : State → ℕ → ℕ → ℕ → FieldValue → State
give_step s m d i Nil = s
give_step s m d i (Number n) = (put_value_step s m d i (Num n)).1
give_step s m d i (Root p) = (mutate s m (ops.Put (root_at d) i (root_at p))).1

-- and so on, from field i on
abbrev pub gives_step : State → ℕ → ℕ → ℕ → List FieldValue → State
gives_step s m d i [] = s
gives_step s m d i (value ∷ rest) = gives_step (give_step s m d i value) m d (suc i) rest

-- the fields are filled, unless there was no room for the object
abbrev pub given : Reply → State → ℕ → ℕ → List FieldValue → State
given Full made m d fields = made
given reply made m d fields = gives_step made m d 0 fields

-- a new object whose fields take these values: the reply to its `New`, and the state after all that
abbrev pub new_given_step : State → ℕ → ℕ → ℕ → List FieldValue → Reply × State
new_given_step old m d kind fields =
    let made = mutate old m (ops.New (root_at d) kind (length fields)) in
    (made.0, given made.0 made.1 m d fields)
