-- A trace as contracts see it.
use Rattle.gc_trace.specs.declared.trace.Trace.{Trace}
use Rattle.gc_trace.specs.Grammar.{Recording}

abbrev pub recording : Trace → Recording
recording t = record { version = t.version; size = t.size; mutators = t.mutators; events = t.events.items }
