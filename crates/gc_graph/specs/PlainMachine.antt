-- The meaning of a plain machine: its graph and its free words.
use Rattle.gc_graph.specs.Machine.{Roomy}
use Rattle.gc_graph.specs.Records.{graph_of}
use Rattle.gc_graph.specs.declared.plain.Plain.TheInside.{Inside}

abbrev pub roomy_of : Inside → Roomy
roomy_of a = record { graph = graph_of a.objects; free = a.free }
