-- The empty list is a history, and one more entry with the core's answer makes a history that leads to the event's next state.
use Rattle.gc_model.specs.State.{opening_state}
use Rattle.gc_world.proofs.Growing.{history_opens, history_more, state_more}
use Rattle.gc_world.proofs.laws.histories_grow.Goals as goal

pub returns : goal.returns
returns c = record {
  opening = history_opens;
  event = λ size mutators entries entry. history_more entry size mutators entries;
  state = λ size mutators entries entry. state_more entry (opening_state size mutators) entries;
}
