-- The texts of faults of traces and of players.
use Rattle.std.specs.Prelude.{ℕ, List, ◌++◌, codes, decimal}
use Rattle.gc_trace.specs.declared.fault.TraceFault.{TraceFault}
use Rattle.gc_trace.specs.declared.fault.TraceFault.TheVariants as trace
use Rattle.gc_trace.specs.declared.fault.PlayFault.{PlayFault}
use Rattle.gc_trace.specs.declared.fault.PlayFault.TheVariants as play

abbrev pub trace_fault_text : TraceFault → List ℕ
trace_fault_text trace.Read = codes "cannot read"
trace_fault_text trace.TooLarge = codes "trace: too large"
trace_fault_text trace.BadHeader = codes "trace: bad header"
trace_fault_text (trace.BadLine n) = codes "trace: bad line " ++ decimal n
trace_fault_text (trace.NoSuchMutator n) = codes "trace: no such mutator at line " ++ decimal n
trace_fault_text trace.NoMemory = codes "no memory"

abbrev pub play_fault_text : PlayFault → List ℕ
play_fault_text (play.Trace fault) = trace_fault_text fault
play_fault_text play.NoSuchFlip = codes "trace: no such flip"
play_fault_text play.NoMemory = codes "no memory"
play_fault_text play.Write = codes "cannot write"
