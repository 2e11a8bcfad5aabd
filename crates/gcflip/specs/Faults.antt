-- The texts of the faults, which the program writes to standard error.
use Rattle.std.specs.Prelude.{ℕ, List, codes}
use Rattle.gc_check.specs.FaultTexts.{run_fault_text}
use Rattle.gc_shared.specs.FaultTexts.{threads_fault_text}
use Rattle.gc_trace.specs.FaultTexts.{trace_fault_text, play_fault_text}
use Rattle.gcflip.specs.declared.commands.threads.ThreadsRunFault.{ThreadsRunFault}
use Rattle.gcflip.specs.declared.commands.threads.ThreadsRunFault.TheVariants as run
use Rattle.gcflip.specs.declared.faults.fault.Fault.{Fault}
use Rattle.gcflip.specs.declared.faults.fault.Fault.TheVariants.{Open, NoMemory, Play, Check, Threads}

abbrev pub threads_run_fault_text : ThreadsRunFault → List ℕ
threads_run_fault_text (run.Trace fault) = trace_fault_text fault
threads_run_fault_text (run.Threads fault) = threads_fault_text fault
threads_run_fault_text run.NoMemory = codes "no memory"
threads_run_fault_text run.Write = codes "cannot write"

unfoldable pub fault_text : Fault → List ℕ
fault_text Open = codes "cannot read"
fault_text NoMemory = codes "no memory"
fault_text (Play fault) = play_fault_text fault
fault_text (Check fault) = run_fault_text fault
fault_text (Threads fault) = threads_run_fault_text fault
