-- Raw objects whose fields take numbers in one call, through no root.
use Rattle.std.specs.Prelude.{ℕ, List, length, map}
use Rattle.gc_graph.specs.declared.command.Op.TheVariants.{NewRaw}
use Rattle.gc_graph.specs.declared.reply.Reply.{Reply}
use Rattle.gc_heap.specs.Places.{root_at}
use Rattle.gc_model.specs.State.{State}
use Rattle.gc_model.specs.Steps.{mutate}
use Rattle.gc_collected.specs.Giving.{given}
use Rattle.gc_collected.specs.declared.giving.FieldValue.TheVariants.{Number}

-- a new raw object whose fields take these numbers: the reply to its `NewRaw`, and the state after all that
abbrev pub new_numbers_step : State → ℕ → ℕ → ℕ → List ℕ → Reply × State
new_numbers_step old m d kind numbers =
    let made = mutate old m (NewRaw (root_at d) kind (length numbers)) in
    (made.0, given made.0 made.1 m d (map Number numbers))
