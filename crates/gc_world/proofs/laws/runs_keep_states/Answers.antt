-- The state of a history is one that a run of the core reaches, so what holds in every run holds of it.
use Rattle.gc_model.proofs.Public.{passes_where_ready, has_room}
use Rattle.gc_world.specs.History.{state_after}
use Rattle.gc_world.proofs.HistoryStates.{reached, sizes_within, none_refused, only_kept}
use Rattle.gc_world.proofs.laws.runs_keep_states.Goals as goal

pub returns : goal.returns
returns c = record {
  states = λ size mutators entries h. (reached size mutators entries h).ok;
  mutators = λ size mutators entries h. (reached size mutators entries h).count;
  flips = λ size mutators entries h. passes_where_ready (state_after size mutators entries) (reached size mutators entries h).ok;
  none_refused = none_refused;
  room = λ size mutators entries h. has_room (state_after size mutators entries) (reached size mutators entries h).ok;
  kept = only_kept;
  small = sizes_within;
}
