-- What a collection can copy: objects that were reachable when it began, and objects allocated since.
use Rattle.std.specs.Prelude.{◌⊎◌, ℕ, ◌≤◌, Bool, true, false, if◌then◌else◌, List, [], ◌∷◌, Option, Some, IfSome}
use Rattle.std.specs.List.{All}
use Rattle.gc_graph.specs.Limits.{largest_space}
use Rattle.gc_graph.specs.Graph.{Value, Object, Graph, Reachable}
use Rattle.gc_model.specs.State.{Collection, State, opening_state, heap_end, pairs_of}
use Rattle.gc_model.specs.Steps.{collect}
use Rattle.gc_model.specs.Runs.{AreEvents, AreRootEvents, after, state_after}
use Rattle.gc_model.specs.Members.{In}
use Rattle.gc_model.specs.Belonging.{RefersTo}
use Rattle.gc_model.specs.declared.event.Event.{Event}
use Rattle.gc_model.specs.declared.event.Event.TheVariants.{Mutate, Collect}
use Rattle.gc_model.specs.declared.step.StepReply.{StepReply}
use Rattle.gc_model.specs.declared.step.StepReply.TheVariants.{Begun}

abbrev pub is_begun : StepReply → Bool
is_begun Begun = true
is_begun reply = false

-- the state in which the last collection began; `base` is this state before the event
abbrev pub base_after : State → State → Event → State
base_after base s (Mutate m op) = base
base_after base s (Collect step) = if is_begun (collect s step).0 then s else base

abbrev pub base_of_run : State → State → List Event → State
base_of_run base s [] = base
base_of_run base s (event ∷ events) = base_of_run (base_after base s event) (after s event) events

-- reachable in the base, or allocated since
abbrev pub IsLiveSince : State → ℕ → Type 0
IsLiveSince base name = Reachable base.heap.graph name ⊎ (heap_end base ≤ name)

abbrev pub OnlyLiveIsPaired : State → Option Collection → Type 0
OnlyLiveIsPaired base collection = IfSome collection (λ c. All (λ p. IsLiveSince base p.0) (pairs_of c))

-- in every run, each original of an open collection was reachable when the collection began, or was allocated since
abbrev pub CarriesOnlyLive : Type 0
CarriesOnlyLive = (size mutators : ℕ) (events : List Event) → 1 ≤ size → size ≤ largest_space → AreEvents mutators events
    → (let opening = opening_state size mutators in OnlyLiveIsPaired (base_of_run opening opening events) (state_after opening events).collection)

-- The same of every run from this state, in which no collection is open. Commands may name extra roots.
abbrev pub CarriesOnlyLiveFrom : State → Type 0
CarriesOnlyLiveFrom s = (events : List Event) → AreRootEvents s.mutators events → OnlyLiveIsPaired (base_of_run s s events) (state_after s events).collection

-- P holds of each name in a root, and of each name in a field of an object that satisfies P
pub record LeadsOnlyTo (P : ℕ → Type 0) (g : Graph) : Type 0 where
  pub roots : (v : Value) → In v g.roots → RefersTo P v
  pub fields : (a : ℕ) (o : Object) → In (a, o) g.objects → P a → (v : Value) → In v o.fields → RefersTo P v

abbrev pub OnlyLiveIsNamed : State → Graph → Option Collection → Type 0
OnlyLiveIsNamed base g collection = IfSome collection (λ c. LeadsOnlyTo (IsLiveSince base) g × OnlyLiveIsPaired base (Some c))

-- Call an object live if it was reachable when the open collection began, or was allocated since. In every run, each original
-- is live, and roots and fields of live objects refer only to live objects.
abbrev pub NamesOnlyLive : Type 0
NamesOnlyLive = (size mutators : ℕ) (events : List Event) → 1 ≤ size → size ≤ largest_space → AreEvents mutators events
    → (let opening = opening_state size mutators in
    let s = state_after opening events in OnlyLiveIsNamed (base_of_run opening opening events) s.heap.graph s.collection)
