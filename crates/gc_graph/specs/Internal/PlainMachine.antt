-- The invariant of the plain machine.
use Rattle.std.specs.Prelude.{◌+◌, ◌≤◌}
use Rattle.gc_graph.specs.Limits.{most_words}
use Rattle.gc_graph.specs.Records.{graph_of}
use Rattle.gc_graph.specs.Bounded.{AreBelow, AreShort}
use Rattle.gc_graph.specs.declared.plain.Plain.TheInside.{Inside}

-- Every name is below `next_name`, and every length is below the limit. Each new name takes free words, so `bound` limits
-- `next_name` to `most_words`.
pub record IsPlain (a : Inside) : Type 0 where
  pub below : AreBelow a.next_name (graph_of a.objects)
  pub short : AreShort (graph_of a.objects)
  pub bound : a.next_name + a.free ≤ most_words
