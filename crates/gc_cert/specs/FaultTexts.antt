-- The texts of a pair text's faults.
use Rattle.std.specs.Prelude.{ℕ, List, ◌++◌, codes, decimal}
use Rattle.gc_cert.specs.declared.fault.PairFault.{PairFault}
use Rattle.gc_cert.specs.declared.fault.PairFault.TheVariants.{Read, TooLarge, BadLine, EndsEarly, NoMemory}

abbrev pub pair_fault_text : PairFault → List ℕ
pair_fault_text Read = codes "cannot read"
pair_fault_text TooLarge = codes "pair: too large"
pair_fault_text (BadLine n) = codes "pair: bad line " ++ decimal n
pair_fault_text EndsEarly = codes "pair: ends early"
pair_fault_text NoMemory = codes "no memory"
