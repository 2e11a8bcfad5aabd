-- The references of a node are those of its words: the roots, or the fields of an object.
use Rattle.std.proofs.Common.{subst, sym, refl}
use Rattle.gc_words.specs.Image.{graph_of}
use Rattle.gc_check.specs.Internal.Visits.{HasReferences}
use Rattle.gc_check.specs.declared.visits.Node.TheVariants as node
use Rattle.gc_check.proofs.Breadth.{refers_by_words}
use Rattle.gc_check.proofs.visits.words_of.Goals as goal

pub returns-in-Roots : goal.returns-in-Roots
returns-in-Roots c =
    subst (HasReferences (graph_of c.args.starts.now) c.args.node) (sym c.roots.ensures)
    (subst (λ n. HasReferences (graph_of c.args.starts.now) n c.args.starts.now.roots) (sym c.in-Roots.is) (refers_by_words (graph_of c.args.starts.now) node.Roots c.args.starts.now.roots refl))

pub returns-in-Object : goal.returns-in-Object
returns-in-Object c = subst (λ n. HasReferences (graph_of c.args.starts.now) n c.values_at.result.now) (sym c.in-Object.is) c.values_at.ensures
