-- The object in the root has the header and the field words at its address, as many as the header says.
use Rattle.std.proofs.Common.{◌≡◌, Some, sym, subst}
use Rattle.gc_graph.specs.Graph.{root}
use Rattle.gc_words.specs.Image.{Block, block_at, header_at}
use Rattle.gc_heap.specs.Heap.{graph_in}
use Rattle.gc_heap.specs.Places.{root_at}
use Rattle.gc_heap.proofs.Public.{named}
use Rattle.gc_collected.proofs.Copies.{object_there, fields_there}
use Rattle.gc_collected.proofs.copying.object.Goals as goal
use Rattle.gc_collected.proofs.copying.object.Goals.{After-fields}

met : (c : After-fields) → header_at c.args.heap.now.space.words c.in_ok-object.object.0 ≡ Some c.header.result
met c = subst (λ s. header_at s.words c.in_ok-object.object.0 ≡ Some c.header.result) c.space.ensures.value c.header.ensures

are : (c : After-fields) (b : Block) → block_at c.args.heap.now.space.words c.in_ok-object.object.0 ≡ Some b → c.fields.result.now ≡ b.fields
are c b is = c.fields.ensures.value b (subst (λ s. block_at s.words c.in_ok-object.object.0 ≡ Some b) (sym c.space-2.ensures.value) is)

pub returns-clause-is : goal.returns-clause-is
returns-clause-is c = object_there c.args.heap.now 0 c.in_ok-object.object.0 (root_at c.args.p) c.header.result c.fields.result.now c.in_ok-object.ensures.name (met (goal.at.returns-clause-is c).After-fields) (are (goal.at.returns-clause-is c).After-fields)

pub returns-clause-target : goal.returns-clause-target
returns-clause-target c = named (root (graph_in c.args.heap.now) c.args.p) c.in_ok-object.object.0 c.in_ok-object.ensures.name

pub returns-clause-header : goal.returns-clause-header
returns-clause-header c = met (goal.at.returns-clause-header c).After-fields

pub returns-clause-long : goal.returns-clause-long
returns-clause-long c = fields_there c.args.heap.now c.in_ok-object.object.0 c.header.result c.fields.result.now c.space.ensures.sound (met (goal.at.returns-clause-long c).After-fields) (are (goal.at.returns-clause-long c).After-fields)
