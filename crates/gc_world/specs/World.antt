-- A world as contracts see it: its opening size and number of mutators, its history, and the kept pair of a flip.
use Rattle.std.specs.Prelude.{◌≡◌, ◌≢◌, ℕ, List, [], ◌∷◌, ◌++◌, Option}
use Rattle.gc_cert.specs.Grammar.{CertifiedPair}
use Rattle.gc_model.specs.State.{State}
use Rattle.gc_model.specs.Steps.{collect}
use Rattle.gc_model.specs.declared.event.Answer.{Answer}
use Rattle.gc_model.specs.declared.event.Event.{Event}
use Rattle.gc_model.specs.declared.event.Event.TheVariants.{Collect}
use Rattle.gc_model.specs.declared.step.Step.{Step}
use Rattle.gc_model.specs.declared.step.Step.TheVariants.{Flip}
use Rattle.gc_model.specs.declared.step.StepReply.{StepReply}
use Rattle.gc_model.specs.declared.step.StepReply.TheVariants.{Refused}
use Rattle.gc_collected.specs.Flip.{kept_after, PassesIfReady, HasRoomIfLarge}
use Rattle.gc_world.specs.History.{state_after}
use Rattle.gc_world.specs.declared.entry.Entry.{Entry}

-- `kept` is the pair of the last flip, until `take_flip` takes it
pub record Past : Type 0 where
  pub size : ℕ
  pub mutators : ℕ
  pub entries : List Entry
  pub kept : Option CertifiedPair

-- the state that the history leads to
abbrev pub present : Past → State
present past = state_after past.size past.mutators past.entries

abbrev pub entry_of : Event → Answer → Entry
entry_of event answer = record { event = event; answer = answer }

-- What a step of the collector does to a world, where the history has this answer to it.
pub record IsCollected (old new : Past) (step : Step) (reply : StepReply) (answer : Answer) : Type 0 where
  -- one more entry, and a flip keeps its pair
  pub answered : new ≡ record old { entries = old.entries ++ entry_of (Collect step) answer ∷ []; kept = kept_after old.kept (present old) reply }
  -- the core's step
  pub core_step : collect (present old) step ≡ (reply, present new)
  -- a ready collection flips, with the number of its pairs
  pub passes : step ≡ Flip → PassesIfReady (present old) reply
  pub never_refused : reply ≢ Refused
  -- the step has room if the new space is at least as large as the old one
  pub room : HasRoomIfLarge (present old) reply
