-- Writing a root changes the graph's value at this place and no other.
use Rattle.std.proofs.lemmas.List.{map-set}
use Rattle.gc_graph.specs.Records.{plain_value, objects_of}
use Rattle.gc_graph.proofs.objects.Objects.set.Goals as goal

pub returns-clause-graph : goal.returns-clause-graph
returns-clause-graph c = λ i. record { objects = objects_of c.args.self.now.records.entries; roots = map-set plain_value c.args.self.now.roots.items c.args.place c.args.value i }
