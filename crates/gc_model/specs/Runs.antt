-- Runs of a heap with its collector: the states and answers that lists of events lead to.
use Rattle.std.specs.Prelude.{ℕ, ◌<◌, ◌≤◌, ◌==◌, ◌^◌, if◌then◌else◌, List, [], ◌∷◌, length, ⊤, IfSome}
use Rattle.std.specs.List.{AllByRecursion, flat_map}
use Rattle.gc_graph.specs.Limits.{largest_space, kinds, lengths}
use Rattle.gc_graph.specs.Slots.{roots_of}
use Rattle.gc_graph.specs.Range.{IsCommand}
use Rattle.gc_graph.specs.declared.command.Op.{Op}
use Rattle.gc_graph.specs.declared.command.Op.TheVariants as ops
use Rattle.gc_model.specs.State.{State, opening_state}
use Rattle.gc_model.specs.Steps.{mutate, collect}
use Rattle.gc_model.specs.declared.event.Event.{Event}
use Rattle.gc_model.specs.declared.event.Event.TheVariants.{Mutate, Collect}
use Rattle.gc_model.specs.declared.event.Answer.{Answer}
use Rattle.gc_model.specs.declared.event.Answer.TheVariants.{Mutator, Collector}
use Rattle.gc_model.specs.declared.step.Step.{Step}
use Rattle.gc_model.specs.declared.step.Step.TheVariants as steps

-- the step's argument is in range: the size of a space of at most `most` words, or the number of a log
abbrev pub IsStepWithin : ℕ → ℕ → Step → Type 0
IsStepWithin most mutators (steps.BeginSized size) = (1 ≤ size) × (size ≤ most)
IsStepWithin most mutators (steps.Apply k) = k < mutators
IsStepWithin most mutators step = ⊤

abbrev pub IsEventWithin : ℕ → ℕ → Event → Type 0
IsEventWithin most mutators (Mutate m op) = (m < mutators) × IsCommand op
IsEventWithin most mutators (Collect step) = IsStepWithin most mutators step

abbrev pub AreEventsWithin : ℕ → ℕ → List Event → Type 0
AreEventsWithin most mutators events = AllByRecursion (IsEventWithin most mutators) events

-- the same of a heap, which takes a space of any size
abbrev pub IsStep : ℕ → Step → Type 0
IsStep mutators step = IsStepWithin largest_space mutators step

abbrev pub IsEvent : ℕ → Event → Type 0
IsEvent mutators event = IsEventWithin largest_space mutators event

abbrev pub AreEvents : ℕ → List Event → Type 0
AreEvents mutators events = AreEventsWithin largest_space mutators events

-- the command's kind, length and number are in range, whichever roots it names
abbrev pub HasRange : Op → Type 0
HasRange (ops.New d kind len) = (kind < kinds) × (len < lengths)
HasRange (ops.NewRaw d kind len) = (kind < kinds) × (len < lengths)
HasRange (ops.Num d n) = n < 2 ^ 63
HasRange op = ⊤

-- an event of a heap with extra roots, which a command may name
abbrev pub IsRootEvent : ℕ → Event → Type 0
IsRootEvent mutators (Mutate m op) = (m < mutators) × HasRange op
IsRootEvent mutators (Collect step) = IsStep mutators step

abbrev pub AreRootEvents : ℕ → List Event → Type 0
AreRootEvents mutators events = AllByRecursion (IsRootEvent mutators) events

abbrev pub after : State → Event → State
after s (Mutate m op) = (mutate s m op).1
after s (Collect step) = (collect s step).1

abbrev pub state_after : State → List Event → State
state_after s [] = s
state_after s (event ∷ events) = state_after (after s event) events

-- P holds in every state that a run from an empty heap leads to
abbrev pub InEveryRun : (State → Type 0) → Type 0
InEveryRun P = (size mutators : ℕ) (events : List Event) → 1 ≤ size → size ≤ largest_space → AreEvents mutators events → P (state_after (opening_state size mutators) events)

-- ---- sizes

-- the heap's space has at most `most` words, and so has the new space of an open collection; there are no extra roots
pub record HasSizesWithin (most : ℕ) (s : State) : Type 0 where
  pub heap : s.size ≤ most
  pub roots : length s.heap.graph.roots ≤ roots_of s.mutators
  pub collection : IfSome s.collection (λ c. c.size ≤ most)

-- ---- answers

abbrev pub answer : State → Event → Answer
answer s (Mutate m op) = Mutator (mutate s m op).0
answer s (Collect step) = Collector (collect s step).0

-- the answers to these events, in order
abbrev pub answers : State → List Event → List Answer
answers s [] = []
answers s (event ∷ events) = answer s event ∷ answers (after s event) events

-- ---- the commands of one mutator

-- the command, if the event is one of mutator m
abbrev pub command_by : ℕ → Event → List Op
command_by m (Mutate other op) = if other == m then op ∷ [] else []
command_by m (Collect step) = []

-- the commands of mutator m, in order
abbrev pub commands_of : ℕ → List Event → List Op
commands_of m events = flat_map (command_by m) events
