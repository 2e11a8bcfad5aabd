-- A graph is matched with itself, so two choices of unused names get the same replies, and the fresh names are one choice.
use Rattle.std.proofs.Common.{refl}
use Rattle.gc_graph.proofs.Replies.{matched_itself, same_replies, same_as_fresh, own_pairs}
use Rattle.gc_graph.proofs.laws.names_do_not_matter.Goals as goal

pub returns : goal.returns
returns c = record {
  any_two = λ s commands names others u u'. same_replies commands names others s s (own_pairs s.graph.objects) (matched_itself s.graph) refl u u';
  fresh = λ s commands names u. same_as_fresh commands names s s (own_pairs s.graph.objects) (matched_itself s.graph) refl u;
}
