-- How a reader's fault becomes a trace fault, and a trace fault becomes a player's fault.
use Rattle.gc_text.specs.declared.read_fault.ReadFault.{ReadFault}
use Rattle.gc_text.specs.declared.read_fault.ReadFault.TheVariants as reading
use Rattle.gc_trace.specs.declared.fault.TraceFault.{TraceFault}
use Rattle.gc_trace.specs.declared.fault.TraceFault.TheVariants.{Read, TooLarge, NoMemory}
use Rattle.gc_trace.specs.declared.fault.PlayFault.{PlayFault}
use Rattle.gc_trace.specs.declared.fault.PlayFault.TheVariants as plays
use Rattle.gc_trace.specs.declared.fault.PlayFault.TheVariants.{Trace}

-- the trace fault for a reader's fault
abbrev pub trace_fault_of : ReadFault → TraceFault
trace_fault_of reading.Read = Read
trace_fault_of reading.TooLarge = TooLarge
trace_fault_of reading.NoMemory = NoMemory

-- the player's fault for a trace fault; out of memory is a fault of the player itself
abbrev pub fault_of_trace : TraceFault → PlayFault
fault_of_trace NoMemory = plays.NoMemory
fault_of_trace fault = Trace fault
