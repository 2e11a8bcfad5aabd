-- The least version that has the lines of these events.
use Rattle.std.proofs.lemmas.Grind.{common_steps}
use Rattle.std.proofs.Common.{◌≡◌, ℕ, ◌≤◌, max, List, [], ◌∷◌, drop, arith}
use Rattle.gc_graph.specs.declared.command.Op.{Op}
use Rattle.gc_model.specs.declared.step.Step.{Step}
use Rattle.gc_model.specs.declared.event.Event.{Event}
use Rattle.gc_world.specs.declared.entry.Entry.{Entry}
use Rattle.gc_trace.specs.Grammar.{newest, op_version, step_version, version_of, least_version}
use Rattle.gc_world.specs.History.{events_of}

op_range : (op : Op) → (1 ≤ op_version op) × (op_version op ≤ newest)
op_range op = grind (arith, common_steps)

step_range : (step : Step) → (1 ≤ step_version step) × (step_version step ≤ newest)
step_range step = grind (arith, common_steps)

version_range : (event : Event) → (1 ≤ version_of event) × (version_of event ≤ newest)
version_range event = grind (arith, common_steps, op_range, step_range)

pub least_range : (events : List Event) → (1 ≤ least_version events) × (least_version events ≤ newest)
least_range [] = (omega arith, omega arith)
least_range (e ∷ es) = let a = version_range e in let b = least_range es in (omega (arith, a, b), omega (arith, a, b))

-- the version that the entries from i on need
abbrev pub least_from : List Entry → ℕ → ℕ
least_from entries i = least_version (events_of (drop i entries))

-- before the first entry
pub least_all : (entries : List Entry) → max 1 (least_from entries 0) ≡ least_version (events_of entries)
least_all entries = omega (arith, least_range (events_of entries))
