-- Numbers that are written to a raw object in one call.
use Rattle.std.specs.Prelude.{ℕ, suc, List, [], ◌∷◌, map}
use Rattle.gc_graph.specs.Slots.{SlotName}
use Rattle.gc_graph.specs.declared.command.Op.TheVariants.{Num, Put}
use Rattle.gc_graph.specs.declared.reply.Reply.{Reply}
use Rattle.gc_graph.specs.declared.reply.Reply.TheVariants.{Done}
use Rattle.gc_heap.specs.Places.{root_at}
use Rattle.gc_heap.specs.Raws.{numbers_reply, raw_numbers}
use Rattle.gc_model.specs.State.{State}
use Rattle.gc_model.specs.Steps.{mutate}
use Rattle.gc_collected.specs.Giving.{gives_step}
use Rattle.gc_collected.specs.declared.giving.FieldValue.TheVariants.{Number}

-- the fields from i on take these numbers: for each number a `Num` of t and a `Put` of t, in order
abbrev pub numbers_step : State → ℕ → SlotName → SlotName → ℕ → List ℕ → State
numbers_step old m s t i [] = old
numbers_step old m s t i (n ∷ rest) = numbers_step (mutate (mutate old m (Num t n)).1 m (Put s i t)).1 m s t (suc i) rest

-- the state after a call that writes all or nothing: only the reply `Done` changes it
abbrev pub after_reply : Reply → State → State → State
after_reply Done old new = new
after_reply reply old new = old

-- numbers for the fields, from `first` on, of the raw object in slot s
abbrev pub put_numbers_step : State → ℕ → SlotName → ℕ → SlotName → List ℕ → Reply × State
put_numbers_step old m s first t words =
    let reply = numbers_reply first words (raw_numbers old.heap.graph s m) in
    (reply, after_reply reply old (numbers_step old m s t first words))

-- the same by places, where each field takes its number through no root
abbrev pub put_root_numbers_step : State → ℕ → ℕ → ℕ → List ℕ → Reply × State
put_root_numbers_step old m p first words =
    let reply = numbers_reply first words (raw_numbers old.heap.graph (root_at p) 0) in
    (reply, after_reply reply old (gives_step old m p first (map Number words)))
