-- A new object whose fields take numbers and the values of slots.
use Rattle.std.specs.Prelude.{ℕ, suc, List, [], ◌∷◌, length}
use Rattle.gc_graph.specs.Slots.{SlotName}
use Rattle.gc_graph.specs.declared.command.Op.TheVariants as ops
use Rattle.gc_graph.specs.declared.reply.Reply.{Reply}
use Rattle.gc_graph.specs.declared.reply.Reply.TheVariants.{Full}
use Rattle.gc_model.specs.State.{State}
use Rattle.gc_model.specs.Steps.{mutate}
use Rattle.gc_collected.specs.declared.mixed.FieldSource.{FieldSource}
use Rattle.gc_collected.specs.declared.mixed.FieldSource.TheVariants as sources

-- field i takes its value: none stays nil, a number goes through slot t by a `Num` and a `Put`, and a slot's value by a `Put`
abbrev pub source_step : State → ℕ → SlotName → SlotName → ℕ → FieldSource → State
source_step s m d t i sources.Nil = s
source_step s m d t i (sources.Number n) = (mutate (mutate s m (ops.Num t n)).1 m (ops.Put d i t)).1
source_step s m d t i (sources.Slot v) = (mutate s m (ops.Put d i v)).1

-- and so on, from field i on
abbrev pub sources_step : State → ℕ → SlotName → SlotName → ℕ → List FieldSource → State
sources_step s m d t i [] = s
sources_step s m d t i (source ∷ rest) = sources_step (source_step s m d t i source) m d t (suc i) rest

-- the fields are filled, unless there was no room for the object
abbrev pub mixed : Reply → State → ℕ → SlotName → SlotName → List FieldSource → State
mixed Full made m d t fields = made
mixed reply made m d t fields = sources_step made m d t 0 fields

-- a new object whose fields take these values: the reply to its `New`, and the state after all commands
abbrev pub new_with_step : State → ℕ → SlotName → ℕ → SlotName → List FieldSource → Reply × State
new_with_step old m d kind t fields =
    let made = mutate old m (ops.New d kind (length fields)) in
    (made.0, mixed made.0 made.1 m d t fields)
