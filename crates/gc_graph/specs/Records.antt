-- What the plain machine's records and values mean.
use Rattle.std.specs.Prelude.{ℕ, List, map}
use Rattle.gc_graph.specs.Graph.{Value, Nil, Num, Ref, Object, Graph}
use Rattle.gc_graph.specs.declared.objects.PlainValue.{PlainValue}
use Rattle.gc_graph.specs.declared.objects.PlainValue.TheVariants as held
use Rattle.gc_graph.specs.declared.objects.Record.{Record}
use Rattle.gc_graph.specs.declared.objects.Objects.{Objects}

abbrev pub plain_value : PlainValue → Value
plain_value held.Nil = Nil
plain_value (held.Num n) = Num n
plain_value (held.Ref name) = Ref name

abbrev pub object_of_record : Record → Object
object_of_record r = record { raw = r.raw; kind = r.kind; fields = map plain_value r.fields.items }

abbrev pub named_object : ℕ × Record → ℕ × Object
named_object e = (e.0, object_of_record e.1)

abbrev pub objects_of : List (ℕ × Record) → List (ℕ × Object)
objects_of es = map named_object es

abbrev pub graph_of : Objects → Graph
graph_of o = record { objects = objects_of o.records.entries; roots = map plain_value o.roots.items }
