-- The links of a collection's new space lead to addresses.
use Rattle.std.proofs.Common.{ℕ, List, subst}
use Rattle.gc_model.specs.Members.{In}
use Rattle.gc_copy.specs.Words.{replicas_in}
use Rattle.gc_copy.proofs.collection.Collection.pairs.Goals as goal

pub linked_pairs-requires-clause-links : goal.linked_pairs-requires-clause-links
linked_pairs-requires-clause-links c r l = c.self.invariant.0.originals r (subst (λ (words : List ℕ). In r (replicas_in words)) c.words.ensures.value l)
