-- The texts of the faults of `check_text`.
use Rattle.std.specs.Prelude.{ℕ, List, codes}
use Rattle.gc_cert.specs.FaultTexts.{pair_fault_text}
use Rattle.gc_check.specs.declared.verdict.RunFault.{RunFault}
use Rattle.gc_check.specs.declared.verdict.RunFault.TheVariants.{Pair, NoMemory, Write}

abbrev pub run_fault_text : RunFault → List ℕ
run_fault_text (Pair fault) = pair_fault_text fault
run_fault_text NoMemory = codes "no memory"
run_fault_text Write = codes "cannot write"
