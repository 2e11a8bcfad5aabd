-- The statuses that the program can end with.
use Rattle.std.proofs.Common.{ℕ, ◌≡◌, refl, sym, subst, lit<, inl, inr, Result, Ok, Err, IfOk, IfErr}
use Rattle.std.specs.Prelude.{Contains}
use Rattle.gc_cert.specs.declared.fault.PairFault.TheVariants as pair
use Rattle.gc_check.specs.declared.verdict.RunFault.TheVariants as check
use Rattle.gc_shared.specs.declared.fault.CloseKind.{CloseKind}
use Rattle.gc_shared.specs.declared.fault.CloseKind.TheVariants as close
use Rattle.gc_shared.specs.declared.fault.ThreadsFault.TheVariants as threads
use Rattle.gcflip.specs.Statuses.{threads_run_fault_status}
use Rattle.gcflip.specs.Statuses.{trace_fault_status}
use Rattle.gcflip.specs.declared.commands.threads.ThreadsRunFault.TheVariants as run
use Rattle.gc_trace.specs.declared.fault.TraceFault.{TraceFault}
use Rattle.gc_trace.specs.declared.fault.TraceFault.TheVariants as trace
use Rattle.gc_trace.specs.declared.fault.PlayFault.TheVariants as play
use Rattle.gcflip.specs.declared.faults.fault.Fault.{Fault}
use Rattle.gcflip.specs.declared.faults.fault.Fault.TheVariants as program
use Rattle.gcflip.specs.declared.task.Task.{Task}
use Rattle.gcflip.specs.declared.task.Task.TheVariants as task
use Rattle.gcflip.specs.Statuses.{status_of}
use Rattle.gcflip.specs.Internal.Outcomes.{IsStatusOf}
use Rattle.gcflip.specs.Statuses.{statuses}

pub done_is_status : Contains statuses 0
done_is_status = (0, lit< tt, refl)

refusal_is_status : Contains statuses 1
refusal_is_status = (1, lit< tt, refl)

pub mistake_is_status : Contains statuses 2
mistake_is_status = (2, lit< tt, refl)

text_fault_is_status : Contains statuses 3
text_fault_is_status = (3, lit< tt, refl)

stream_fault_is_status : Contains statuses 4
stream_fault_is_status = (4, lit< tt, refl)

memory_fault_is_status : Contains statuses 5
memory_fault_is_status = (5, lit< tt, refl)

threads_fault_is_status : Contains statuses 6
threads_fault_is_status = (6, lit< tt, refl)

close_has_status : (kind : CloseKind) → Contains statuses (threads_run_fault_status (run.Threads (threads.Close kind)))
close_has_status close.Seats = threads_fault_is_status
close_has_status (close.Torn seat n) = threads_fault_is_status
close_has_status close.Extra = threads_fault_is_status
close_has_status close.NoMemory = memory_fault_is_status

trace_has_status : (fault : TraceFault) → Contains statuses (trace_fault_status fault)
trace_has_status trace.Read = stream_fault_is_status
trace_has_status trace.TooLarge = text_fault_is_status
trace_has_status trace.BadHeader = text_fault_is_status
trace_has_status (trace.BadLine n) = text_fault_is_status
trace_has_status (trace.NoSuchMutator n) = text_fault_is_status
trace_has_status trace.NoMemory = memory_fault_is_status

pub fault_has_status : (fault : Fault) → Contains statuses (status_of fault)
fault_has_status program.Open = stream_fault_is_status
fault_has_status program.NoMemory = memory_fault_is_status
fault_has_status (program.Play (play.Trace fault)) = trace_has_status fault
fault_has_status (program.Play play.NoSuchFlip) = text_fault_is_status
fault_has_status (program.Play play.NoMemory) = memory_fault_is_status
fault_has_status (program.Play play.Write) = stream_fault_is_status
fault_has_status (program.Check (check.Pair pair.Read)) = stream_fault_is_status
fault_has_status (program.Check (check.Pair pair.TooLarge)) = text_fault_is_status
fault_has_status (program.Check (check.Pair (pair.BadLine n))) = text_fault_is_status
fault_has_status (program.Check (check.Pair pair.EndsEarly)) = text_fault_is_status
fault_has_status (program.Check (check.Pair pair.NoMemory)) = memory_fault_is_status
fault_has_status (program.Check check.NoMemory) = memory_fault_is_status
fault_has_status (program.Check check.Write) = stream_fault_is_status
fault_has_status (program.Threads (run.Trace fault)) = trace_has_status fault
fault_has_status (program.Threads (run.Threads threads.NotStarted)) = threads_fault_is_status
fault_has_status (program.Threads (run.Threads (threads.Gate seat n))) = threads_fault_is_status
fault_has_status (program.Threads (run.Threads threads.NoMemory)) = memory_fault_is_status
fault_has_status (program.Threads (run.Threads (threads.Close kind))) = close_has_status kind
fault_has_status (program.Threads run.NoMemory) = memory_fault_is_status
fault_has_status (program.Threads run.Write) = stream_fault_is_status

same_is_status : (n m : ℕ) → n ≡ m → Contains statuses m → Contains statuses n
same_is_status n m same is = let P : ℕ → Type 0 = λ k. Contains statuses k in subst P (sym same) is

done_has_status : (t : Task) (status : ℕ) → IsStatusOf t status → Contains statuses status
done_has_status task.PlayInput status zero = same_is_status status 0 zero done_is_status
done_has_status (task.Play file) status zero = same_is_status status 0 zero done_is_status
done_has_status (task.Check file) status either = elim either [
  | inl zero ↦ same_is_status status 0 zero done_is_status
  | inr one ↦ same_is_status status 1 one refusal_is_status
]
done_has_status (task.Report file) status zero = same_is_status status 0 zero done_is_status
done_has_status (task.Pair file n) status zero = same_is_status status 0 zero done_is_status
done_has_status (task.Threads file turns) status zero = same_is_status status 0 zero done_is_status

pub outcome_has_status : (t : Task) (outcome : Result ℕ Fault) (status : ℕ) → IfOk outcome (IsStatusOf t) → IfOk outcome (λ s. status ≡ s) → IfErr outcome (λ f. status ≡ status_of f) → Contains statuses status
outcome_has_status t (Ok s) status done same none = same_is_status status s same (done_has_status t s done)
outcome_has_status t (Err f) status done none same = same_is_status status (status_of f) same (fault_has_status f)
