-- The first fault of a text that was read to its end.
use Rattle.std.specs.Prelude.{◌≡◌, ◌≢◌, ℕ, ◌+◌, ◌<◌, ◌≤◌, ⊤, List, [], ◌++◌, length}
use Rattle.gc_model.specs.declared.event.Event.{Event}
use Rattle.gc_trace.specs.Grammar.{Recording, IsTraceText, HasLine, IsOf, IsHeading, trace_heading, event_line}
use Rattle.gc_trace.specs.declared.fault.TraceFault.{TraceFault}
use Rattle.gc_trace.specs.declared.fault.TraceFault.TheVariants.{Read, TooLarge, BadHeader, BadLine, NoSuchMutator, NoMemory}

abbrev pub trace_limit : ℕ
trace_limit = 16777216

-- the text does not begin with a valid heading
abbrev pub HasNoHeading : List ℕ → Type 0
HasNoHeading text = (version size mutators : ℕ) (more : List ℕ) → IsHeading version size mutators → text ≢ trace_heading version size mutators ++ more

-- The lines before line n are the text of the trace `front`, and `rest` is the text from line n on.
pub record GoodBefore (text : List ℕ) (n : ℕ) (front : Recording) (rest : List ℕ) : Type 0 where
  pub lines : List ℕ
  pub good : IsTraceText front lines
  pub parts : text ≡ lines ++ rest
  pub number : n ≡ 3 + length front.events

-- the text does not begin with an event line of this version
abbrev pub BeginsWithNoEvent : ℕ → List ℕ → Type 0
BeginsWithNoEvent version text = (event : Event) (more : List ℕ) → HasLine version event → text ≢ event_line event ++ more

-- the lines before line n are correct, and more text follows, but it does not begin with an event line and its line feed
abbrev pub HasBadLine : List ℕ → ℕ → Type 0
HasBadLine text n = (front : Recording) × (rest : List ℕ) × GoodBefore text n front rest × (rest ≢ []) × BeginsWithNoEvent front.version rest

-- the lines before line n are correct, and line n is an event line, but its mutator or its log does not exist
abbrev pub HasStranger : List ℕ → ℕ → Type 0
HasStranger text n =
    (front : Recording) × (event : Event) × (more : List ℕ) × GoodBefore text n front (event_line event ++ more) × HasLine front.version event × ¬ IsOf front.mutators event

-- this is the first fault of the text; `Read` and `NoMemory` are not faults of a text
abbrev pub IsTraceFaultOf : TraceFault → List ℕ → Type 0
IsTraceFaultOf TooLarge text = trace_limit < length text
IsTraceFaultOf BadHeader text = (length text ≤ trace_limit) × HasNoHeading text
IsTraceFaultOf (BadLine n) text = (length text ≤ trace_limit) × HasBadLine text n
IsTraceFaultOf (NoSuchMutator n) text = (length text ≤ trace_limit) × HasStranger text n
IsTraceFaultOf fault text = ⊥

-- the text is read as this trace: it spells the trace, and it is within the size limit
abbrev pub IsReadAsTrace : Recording → List ℕ → Type 0
IsReadAsTrace t text = IsTraceText t text × (length text ≤ trace_limit)

-- the reader may fail with this fault: the text's first fault, or the reader cannot read, or it is out of memory
abbrev pub ReadingMayFail : TraceFault → List ℕ → Type 0
ReadingMayFail Read text = ⊤
ReadingMayFail NoMemory text = ⊤
ReadingMayFail fault text = IsTraceFaultOf fault text
