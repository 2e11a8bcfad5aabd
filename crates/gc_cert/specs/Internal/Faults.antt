-- A fault of reading as a fault of the pair text.
use Rattle.gc_text.specs.declared.read_fault.ReadFault.{ReadFault}
use Rattle.gc_text.specs.declared.read_fault.ReadFault.TheVariants as reading
use Rattle.gc_cert.specs.declared.fault.PairFault.{PairFault}
use Rattle.gc_cert.specs.declared.fault.PairFault.TheVariants.{Read, TooLarge, NoMemory}

-- a reader's own fault
abbrev pub fault_of_reading : ReadFault → PairFault
fault_of_reading reading.Read = Read
fault_of_reading reading.TooLarge = TooLarge
fault_of_reading reading.NoMemory = NoMemory
