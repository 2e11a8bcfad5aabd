-- The trace that a player reads, its run and its report.
use Rattle.std.specs.Prelude.{ℕ, List, Option, IfSome}
use Rattle.gc_model.specs.State.{State, opening_state}
use Rattle.gc_model.specs.Runs as runs
use Rattle.gc_model.specs.declared.event.Answer.{Answer}
use Rattle.gc_trace.specs.Grammar.{Recording, IsRecording}
use Rattle.gc_trace.specs.Faults.{IsReadAsTrace}
use Rattle.gc_trace.specs.Report.{report_of}
use Rattle.gc_trace.specs.declared.report.Report.{Report}

-- the state before the first event
abbrev pub trace_opening : Recording → State
trace_opening t = opening_state t.size t.mutators

-- the core's answers to the events, in order
abbrev pub trace_answers : Recording → List Answer
trace_answers t = runs.answers (trace_opening t) t.events

-- the state after the last event
abbrev pub last_state : Recording → State
last_state t = runs.state_after (trace_opening t) t.events

-- the report of the trace's run
abbrev pub report_in : Recording → Report
report_in t = report_of (trace_answers t) (last_state t)

-- ---- the trace that is played, whether or not the reader's text is known

-- a trace that has a text; if the reader's text is known, it spells this trace
pub record IsTraceFrom (text : Option (List ℕ)) (t : Recording) : Type 0 where
  pub recording : IsRecording t
  pub read : IfSome text (IsReadAsTrace t)

-- the reader's trace, of which P holds
abbrev pub IsTraceAnd : Option (List ℕ) → (Recording → Type 0) → Type 0
IsTraceAnd text P = (t : Recording) × IsTraceFrom text t × P t
