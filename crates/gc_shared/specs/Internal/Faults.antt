-- The fault with which a thread ends if its call is refused.
use Rattle.gc_shared.specs.declared.fault.CallFault.{CallFault}
use Rattle.gc_shared.specs.declared.fault.CallFault.TheVariants as calls
use Rattle.gc_shared.specs.declared.fault.CloseKind.TheVariants as kinds
use Rattle.gc_shared.specs.declared.fault.ThreadsFault.{ThreadsFault}
use Rattle.gc_shared.specs.declared.fault.ThreadsFault.TheVariants as threads

abbrev pub fault_of_call : CallFault → ThreadsFault
fault_of_call calls.NoMemory = threads.NoMemory
fault_of_call fault = threads.Close kinds.Seats
