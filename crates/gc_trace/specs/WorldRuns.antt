-- What the events of a trace do to a world.
use Rattle.std.specs.Prelude.{◌≡◌, [], ◌∷◌, ◌++◌}
use Rattle.gc_model.specs.Runs.{after}
use Rattle.gc_collected.specs.Performing.{kept_with}
use Rattle.gc_collected.specs.declared.flip.Keep.TheVariants.{Pair}
use Rattle.gc_world.specs.History.{events_of}
use Rattle.gc_world.specs.World.{Past, present}
use Rattle.gc_model.specs.declared.event.Event.{Event}
use Rattle.gc_trace.specs.Grammar.{Recording}

-- this event happened in the world, and nothing else did
pub record Happens (old : Past) (event : Event) (new : Past) : Type 0 where
  pub size : new.size ≡ old.size
  pub mutators : new.mutators ≡ old.mutators
  pub events : events_of new.entries ≡ events_of old.entries ++ event ∷ []
  pub state : present new ≡ after (present old) event
  pub kept : new.kept ≡ kept_with Pair old.kept (present old) event

-- all events of the trace happened, each once and in order, in a world with the trace's size and number of mutators
pub record HasRun (t : Recording) (past : Past) : Type 0 where
  pub size : past.size ≡ t.size
  pub mutators : past.mutators ≡ t.mutators
  pub events : events_of past.entries ≡ t.events
