-- The conditions of a certificate on words say of each pair's objects, and of the roots, what a correspondence of graphs asks.
use Rattle.gc_words.proofs.Certified.{corresponding}
use Rattle.gc_words.proofs.laws.certified_graphs_correspond.Goals as goal

pub returns : goal.returns
returns c = corresponding
