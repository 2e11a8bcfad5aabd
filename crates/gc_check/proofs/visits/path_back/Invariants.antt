-- The fields so far, in reverse, lead from this visit to the address, and their number makes up for its lesser depth.
use Rattle.std.proofs.Common.{◌≡◌, ℕ, ◌<◌, ◌+◌, length, reverse, Some}
use Rattle.gc_graph.specs.Graph.{Ref}
use Rattle.gc_words.specs.Image.{Image, graph_of}
use Rattle.gc_check.specs.Internal.Visits.{AreVisits, RefersAt, along, visit_at}
use Rattle.gc_check.proofs.visits.path_back.Given as goal

-- the fields so far lead from the visit `at` to the address, and are as many as that visit is less deep
abbrev pub invariant-loop-at : goal.invariant-loop-at
invariant-loop-at l = record {
  within : l.at < length l.visits;
  path : (image : Image) (address : ℕ) → AreVisits image l.visits → RefersAt (graph_of image) (visit_at l.visits l.fn.reference.visit).node l.fn.reference.place address
      → (along (graph_of image) (visit_at l.visits l.at).node l.place (reverse l.fields.items) ≡ Some (Ref address)) × (length l.fields.items + (visit_at l.visits l.at).depth ≡ (visit_at l.visits l.fn.reference.visit).depth);
}

abbrev pub decreases-loop-at : goal.decreases-loop-at
decreases-loop-at l = l.at
