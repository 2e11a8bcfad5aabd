-- The sources of a fault: the player, the checker, or a run in threads.
use Rattle.std.specs.Prelude.{◌≡◌}
use Rattle.gc_check.specs.declared.verdict.RunFault.{RunFault}
use Rattle.gc_trace.specs.declared.fault.PlayFault.{PlayFault}
use Rattle.gcflip.specs.declared.commands.threads.ThreadsRunFault.{ThreadsRunFault}
use Rattle.gcflip.specs.declared.faults.fault.Fault.{Fault}
use Rattle.gcflip.specs.declared.faults.fault.Fault.TheVariants.{Play, Check, Threads}

-- the fault is the player's
abbrev pub IsOfPlay : Fault → Type 0
IsOfPlay fault = (play : PlayFault) × (fault ≡ Play play)

-- the fault is the checker's
abbrev pub IsOfCheck : Fault → Type 0
IsOfCheck fault = (check : RunFault) × (fault ≡ Check check)

-- the fault is that of a run in threads
abbrev pub IsOfThreads : Fault → Type 0
IsOfThreads fault = (threads : ThreadsRunFault) × (fault ≡ Threads threads)
