-- The graph has an object exactly where one starts among the words; and where a monitor goes along, its marks tell exactly where they start.
use Rattle.std.proofs.lemmas.Grind.{common_steps}
use Rattle.std.proofs.Common.{◌≡◌, is_some, slice_index_or, subst, arith}
use Rattle.std.specs.Option.{option_map}
use Rattle.gc_graph.specs.Graph.{lookup}
use Rattle.gc_model.specs.State.{State}
use Rattle.gc_monitor.specs.Telling.{IsMark}
use Rattle.gc_copy.specs.Words.{collection_in, state_of}
use Rattle.gc_collected.proofs.Core.{core_is}
use Rattle.gc_collected.proofs.Referred.{start_named}
use Rattle.gc_collected.proofs.Starts.{told_starts}
use Rattle.gc_collected.proofs.collected_heap.CollectedHeap.has_object.Goals as goal

pub returns-then-self : goal.returns-then-self
returns-then-self c =
    let s = state_of c.self.inside.heap (option_map collection_in c.self.inside.collection) in
    let follows = c.self.invariant.1 c.if-self.true in
    let marks = c.marks_tell_starts.ensures s c.self.inside.watch c.args.a.0 follows.knows in
    subst (λ (s : State). c.starts_at.result ≡ is_some (lookup s.heap.graph.objects c.args.a.0)) (core_is c.self.view_is)
    (told_starts s.heap.graph.objects c.args.a.0 (IsMark (slice_index_or c.self.inside.watch.olds c.args.a.0 0)) c.starts_at.result c.starts_at.ensures.0 c.starts_at.ensures.1 marks.0 marks.1)

pub returns : goal.returns
returns = grind (arith, common_steps, is_some, start_named)
