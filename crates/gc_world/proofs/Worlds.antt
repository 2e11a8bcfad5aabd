-- A world after one more event has the history with that event.
use Rattle.std.proofs.lemmas.Grind.{common_steps}
use Rattle.std.proofs.Common.{◌≡◌, ℕ, ◌<◌, Bool, if◌then◌else◌, IsTrue, [], ◌∷◌, ◌++◌, sym, subst, arith}
use Rattle.gc_graph.specs.Limits.{most_words}
use Rattle.gc_graph.specs.declared.command.Op.{Op}
use Rattle.gc_graph.specs.declared.reply.Reply.{Reply}
use Rattle.gc_model.specs.State.{State}
use Rattle.gc_model.specs.Steps.{mutate, collect, useful_step}
use Rattle.gc_model.specs.Runs.{IsEventWithin, IsStepWithin, after, answer}
use Rattle.gc_model.specs.declared.event.Answer.TheVariants.{Mutator, Collector, Useful}
use Rattle.gc_model.specs.declared.step.Step.{Step}
use Rattle.gc_model.specs.declared.step.StepReply.{StepReply}
use Rattle.gc_graph.specs.Range.{IsCommand}
use Rattle.gc_world.specs.History.{IsUseful, unmarked}
use Rattle.gc_world.specs.World.{Past, present, entry_of}
use Rattle.gc_world.specs.Internal.World.{IsKeptPair, IsWorld}
use Rattle.gc_model.specs.declared.event.Event.TheVariants.{Mutate, Collect}
use Rattle.gc_world.specs.declared.entry.Entry.{Entry}
use Rattle.gc_world.proofs.Growing.{history_more, state_more}

grows : (old new : State) (past later : Past) (entry : Entry) → IsWorld old past → IsEventWithin most_words past.mutators entry.event
    → unmarked entry.answer ≡ answer old entry.event → IsUseful old entry.event entry.answer → new ≡ after old entry.event
    → later ≡ record past { entries = past.entries ++ entry ∷ []; kept = later.kept } → IsKeptPair later.kept → IsWorld new later
grows old new past later entry w event told useful next is fine = subst (IsWorld new) (sym is) (grind (arith, common_steps, history_more, state_more))

-- after a command
pub commanded : (old new : State) (past later : Past) (m : ℕ) (op : Op) (reply : Reply) → IsWorld old past → m < past.mutators → IsCommand op → mutate old m op ≡ (reply, new)
    → later ≡ record past { entries = past.entries ++ entry_of (Mutate m op) (Mutator reply) ∷ []; kept = later.kept } → past.kept ≡ later.kept → IsWorld new later
commanded old new past later m op reply w less command made is same =
    grows old new past later (entry_of (Mutate m op) (Mutator reply)) w (less, command) (grind (arith, common_steps)) tt (grind (arith, common_steps)) is (subst IsKeptPair same w.kept)

-- after a step, whether or not its answer is marked as useful
pub collected : (old new : State) (past later : Past) (step : Step) (reply : StepReply) (useful : Bool)
    → IsWorld old past → IsStepWithin most_words past.mutators step → (IsTrue useful → step ≡ useful_step (present past)) → collect old step ≡ (reply, new)
    → later ≡ record past { entries = past.entries ++ entry_of (Collect step) (if useful then Useful reply else Collector reply) ∷ []; kept = later.kept }
    → IsKeptPair later.kept → IsWorld new later
collected old new past later step reply useful w range asked made is fine =
    grows old new past later (entry_of (Collect step) (if useful then Useful reply else Collector reply)) w range (grind (arith, common_steps)) (grind (arith, common_steps)) (grind (arith, common_steps)) is fine
