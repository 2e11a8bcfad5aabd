-- The exit statuses: 0 for success, 1 for a refusal, 2 for an invalid command line, 3 for a bad text or a flip that
-- does not exist, 4 if reading or writing failed, 5 if memory ran out, 6 if threads were not started or closing found
-- a fault.
use Rattle.std.specs.Prelude.{ℕ, List, [], ◌∷◌}
use Rattle.gc_cert.specs.declared.fault.PairFault.TheVariants as pair
use Rattle.gc_check.specs.declared.verdict.RunFault.{RunFault}
use Rattle.gc_check.specs.declared.verdict.RunFault.TheVariants as check
use Rattle.gc_check.specs.declared.verdict.Verdict.{Verdict}
use Rattle.gc_check.specs.declared.verdict.Verdict.TheVariants as verdict
use Rattle.gc_shared.specs.declared.fault.CloseKind.TheVariants as close
use Rattle.gc_shared.specs.declared.fault.ThreadsFault.TheVariants as threads
use Rattle.gc_trace.specs.declared.fault.PlayFault.{PlayFault}
use Rattle.gc_trace.specs.declared.fault.PlayFault.TheVariants as play
use Rattle.gc_trace.specs.declared.fault.TraceFault.{TraceFault}
use Rattle.gc_trace.specs.declared.fault.TraceFault.TheVariants as trace
use Rattle.gcflip.specs.declared.commands.threads.ThreadsRunFault.{ThreadsRunFault}
use Rattle.gcflip.specs.declared.commands.threads.ThreadsRunFault.TheVariants as run
use Rattle.gcflip.specs.declared.faults.fault.Fault.{Fault}
use Rattle.gcflip.specs.declared.faults.fault.Fault.TheVariants.{Open, NoMemory, Play, Check, Threads}

abbrev pub statuses : List ℕ
statuses = 0 ∷ 1 ∷ 2 ∷ 3 ∷ 4 ∷ 5 ∷ 6 ∷ []

abbrev pub verdict_status : Verdict → ℕ
verdict_status (verdict.Yes pairs) = 0
verdict_status (verdict.Refused refusal) = 1

-- ---- faults

abbrev pub trace_fault_status : TraceFault → ℕ
trace_fault_status trace.Read = 4
trace_fault_status trace.NoMemory = 5
trace_fault_status fault = 3

abbrev pub play_fault_status : PlayFault → ℕ
play_fault_status (play.Trace fault) = trace_fault_status fault
play_fault_status play.NoSuchFlip = 3
play_fault_status play.NoMemory = 5
play_fault_status play.Write = 4

abbrev pub run_fault_status : RunFault → ℕ
run_fault_status (check.Pair pair.Read) = 4
run_fault_status (check.Pair pair.NoMemory) = 5
run_fault_status (check.Pair fault) = 3
run_fault_status check.NoMemory = 5
run_fault_status check.Write = 4

abbrev pub threads_run_fault_status : ThreadsRunFault → ℕ
threads_run_fault_status (run.Trace fault) = trace_fault_status fault
threads_run_fault_status (run.Threads threads.NoMemory) = 5
threads_run_fault_status (run.Threads (threads.Close close.NoMemory)) = 5
threads_run_fault_status (run.Threads fault) = 6
threads_run_fault_status run.NoMemory = 5
threads_run_fault_status run.Write = 4

abbrev pub status_of : Fault → ℕ
status_of Open = 4
status_of NoMemory = 5
status_of (Play fault) = play_fault_status fault
status_of (Check fault) = run_fault_status fault
status_of (Threads fault) = threads_run_fault_status fault
