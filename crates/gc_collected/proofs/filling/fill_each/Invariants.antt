-- The fields so far have their roots' values, and filling the rest fills all.
use Rattle.std.proofs.Common.{◌≡◌, ◌-◌, length, drop}
use Rattle.gc_heap.specs.Filling.{TakesFields}
use Rattle.gc_heap.specs.Heap.{HeapWords}
use Rattle.gc_heap.specs.Places.{root_at}
use Rattle.gc_collected.specs.Internal.Together.{PerformsAll, fields_from, puts}
use Rattle.gc_collected.proofs.filling.fill_each.Given as goal

-- the fields so far are filled, and filling the rest fills all
abbrev pub invariant-loop-i : goal.invariant-loop-i
invariant-loop-i g l = record {
  rest : (new : HeapWords) → PerformsAll l.heap l.m (puts (root_at l.d) l.i (drop l.i (g.R.RootRow.names l.fields))) (fields_from l.object.0 l.i (length (g.R.RootRow.names l.fields) - l.i)) new
      → PerformsAll l.fn.heap l.m (puts (root_at l.d) 0 (g.R.RootRow.names l.fields)) (fields_from l.object.0 0 (length (g.R.RootRow.names l.fields))) new;
  roots : l.heap.roots ≡ l.fn.heap.roots;
  mutators : l.heap.mutators ≡ l.fn.heap.mutators;
  takes : TakesFields l.heap l.d l.object.0 (length (g.R.RootRow.names l.fields));
}
