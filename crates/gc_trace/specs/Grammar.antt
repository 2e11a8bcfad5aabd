-- Traces and their texts. Each trace has exactly one text: a heading, and then one line for each event.
use Rattle.std.specs.Prelude.{◌≡◌, ℕ, ◌≤◌, max, List, [], ◌∷◌, ◌++◌, codes, if◌then◌else◌}
use Rattle.std.specs.List.{flat_map, AllByRecursion}
use Rattle.std.specs.Fmt.{decimal}
use Rattle.gc_graph.specs.Limits.{most_words, most_mutators}
use Rattle.gc_graph.specs.Slots.{SlotName}
use Rattle.gc_text.specs.Lines.{line}
use Rattle.gc_graph.specs.declared.command.Op.{Op}
use Rattle.gc_graph.specs.declared.command.Op.TheVariants as ops
use Rattle.gc_model.specs.Runs as runs
use Rattle.gc_model.specs.declared.step.Step.{Step}
use Rattle.gc_model.specs.declared.step.Step.TheVariants as steps
use Rattle.gc_model.specs.declared.event.Event.{Event}
use Rattle.gc_model.specs.declared.event.Event.TheVariants.{Mutate, Collect}

-- a trace as contracts see it
pub record Recording : Type 0 where
  pub version : ℕ
  pub size : ℕ
  pub mutators : ℕ
  pub events : List Event

-- ---- the text of a trace

unfoldable pub slot : SlotName → List ℕ
slot s = (if s.shared then 103 else 114) ∷ decimal s.index

unfoldable pub op_tokens : Op → List (List ℕ)
op_tokens (ops.New d kind len) = codes "new" ∷ slot d ∷ decimal kind ∷ decimal len ∷ []
op_tokens (ops.NewRaw d kind len) = codes "raw" ∷ slot d ∷ decimal kind ∷ decimal len ∷ []
op_tokens (ops.Num d n) = codes "num" ∷ slot d ∷ decimal n ∷ []
op_tokens (ops.Nil d) = codes "nil" ∷ slot d ∷ []
op_tokens (ops.Move d s) = codes "move" ∷ slot d ∷ slot s ∷ []
op_tokens (ops.Get d s i) = codes "get" ∷ slot d ∷ slot s ∷ decimal i ∷ []
op_tokens (ops.Put s i t) = codes "put" ∷ slot s ∷ decimal i ∷ slot t ∷ []
op_tokens (ops.Same s t) = codes "same" ∷ slot s ∷ slot t ∷ []
op_tokens (ops.Look s) = codes "look" ∷ slot s ∷ []

unfoldable pub step_tokens : Step → List (List ℕ)
step_tokens steps.Begin = codes "begin" ∷ []
step_tokens (steps.BeginSized size) = codes "begin" ∷ decimal size ∷ []
step_tokens steps.Roots = codes "roots" ∷ []
step_tokens steps.Scan = codes "scan" ∷ []
step_tokens (steps.Apply k) = codes "apply" ∷ decimal k ∷ []
step_tokens steps.Flip = codes "flip" ∷ []
step_tokens steps.Drop = codes "drop" ∷ []

unfoldable pub event_tokens : Event → List (List ℕ)
event_tokens (Mutate m op) = codes "m" ∷ decimal m ∷ op_tokens op
event_tokens (Collect step) = codes "c" ∷ step_tokens step

unfoldable pub event_line : Event → List ℕ
event_line event = line (event_tokens event)

-- lines 1 and 2
unfoldable pub trace_heading : ℕ → ℕ → ℕ → List ℕ
trace_heading version size mutators = line (codes "heaptrace" ∷ decimal version ∷ []) ++ line (codes "space" ∷ decimal size ∷ codes "mutators" ∷ decimal mutators ∷ [])

unfoldable pub trace_text : Recording → List ℕ
trace_text t = trace_heading t.version t.size t.mutators ++ flat_map event_line t.events

-- ---- which traces have a text

-- the newest version that the reader accepts
abbrev pub newest : ℕ
newest = 3

abbrev pub IsHeading : ℕ → ℕ → ℕ → Type 0
IsHeading version size mutators = (1 ≤ version) × (version ≤ newest) × (1 ≤ size) × (size ≤ most_words) × (1 ≤ mutators) × (mutators ≤ most_mutators)

-- the version that introduced the command's line; version 3 introduced raw objects
abbrev pub op_version : Op → ℕ
op_version (ops.NewRaw d kind len) = 3
op_version op = 1

-- the version that introduced the step's line; version 2 introduced `begin` with a size
abbrev pub step_version : Step → ℕ
step_version (steps.BeginSized size) = 2
step_version step = 1

abbrev pub version_of : Event → ℕ
version_of (Mutate m op) = op_version op
version_of (Collect step) = step_version step

-- an event of this version's grammar, whatever the number of mutators
pub record HasLine (version : ℕ) (event : Event) : Type 0 where
  pub range : runs.IsEventWithin most_words most_mutators event
  pub known : version_of event ≤ version

-- the event can happen if there are this many mutators: its mutator, or that of its log, is one of them
abbrev pub IsOf : ℕ → Event → Type 0
IsOf mutators event = runs.IsEventWithin most_words mutators event

pub record IsRecording (t : Recording) : Type 0 where
  pub heading : IsHeading t.version t.size t.mutators
  pub events : AllByRecursion (λ event. HasLine t.version event × IsOf t.mutators event) t.events

-- the trace's numbers are in range, whatever its version
pub record IsInRange (t : Recording) : Type 0 where
  pub heading : IsHeading newest t.size t.mutators
  pub events : AllByRecursion (IsOf t.mutators) t.events

-- the trace has a text, and this is it
pub record IsTraceText (t : Recording) (text : List ℕ) : Type 0 where
  pub recording : IsRecording t
  pub spelled : text ≡ trace_text t

-- ---- the trace that is written for events

-- the least version that has the lines of all these events
abbrev pub least_version : List Event → ℕ
least_version [] = 1
least_version (event ∷ events) = max (version_of event) (least_version events)

abbrev pub least_trace : ℕ → ℕ → List Event → Recording
least_trace size mutators events = record { version = least_version events; size = size; mutators = mutators; events = events }
