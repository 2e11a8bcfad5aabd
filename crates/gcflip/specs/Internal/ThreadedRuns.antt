-- The faults of reading and of threads, as faults of the `threads` command.
use Rattle.gc_shared.specs.declared.fault.ThreadsFault.{ThreadsFault}
use Rattle.gc_shared.specs.declared.fault.ThreadsFault.TheVariants as threads
use Rattle.gc_trace.specs.declared.fault.TraceFault.{TraceFault}
use Rattle.gc_trace.specs.declared.fault.TraceFault.TheVariants as trace
use Rattle.gcflip.specs.declared.commands.threads.ThreadsRunFault.{ThreadsRunFault}
use Rattle.gcflip.specs.declared.commands.threads.ThreadsRunFault.TheVariants.{Trace, Threads, NoMemory}

abbrev pub threads_fault_of : TraceFault → ThreadsRunFault
threads_fault_of trace.NoMemory = NoMemory
threads_fault_of fault = Trace fault

abbrev pub fault_of_threads : ThreadsFault → ThreadsRunFault
fault_of_threads threads.NoMemory = NoMemory
fault_of_threads fault = Threads fault
