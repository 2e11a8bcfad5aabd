-- If both objects have enough fields, the reply says whether the target takes the values.
use Rattle.std.proofs.Common.{◌≡◌, ◌≤◌, ◌+◌, Bool, length, refl, sym, ◌∙◌, arith, true, false, cond}
use Rattle.gc_graph.specs.declared.reply.Reply.{Reply}
use Rattle.gc_graph.specs.declared.reply.Reply.TheVariants.{Done, NoNumber}
use Rattle.gc_heap.specs.Heap.{graph_in}
use Rattle.gc_heap.specs.Places.{root_at}
use Rattle.gc_collected.specs.Copying.{copy_reply, object_in}
use Rattle.gc_collected.proofs.Copies.{fitting_reply}
use Rattle.gc_collected.proofs.copying.copy_reply.Goals as goal
use Rattle.gc_collected.proofs.copying.copy_reply.Goals.{After-takes}

-- both have enough fields
fitting : (c : After-takes) (taken : Bool) (reply : Reply) → taken ≡ c.takes.result → reply ≡ cond taken Done NoNumber
    → reply ≡ copy_reply c.args.to c.args.from c.args.count (object_in (graph_in c.args.heap.now) (root_at c.args.d) 0) (object_in (graph_in c.args.heap.now) (root_at c.args.s) 0)
fitting c taken reply asked said =
    let both = c.in-Some-Some in
    let low : c.args.to + c.args.count ≤ length both.field-0-2-0.now = omega (arith, c.from.ensures, c.len.ensures, both.ensures.long, c.if-to-count.false) in
    fitting_reply c.args.to c.args.from c.args.count c.args.from (c.args.from + c.args.count) both.target both.source both.field-0-2-0.now both.words.now (graph_in c.args.heap.now) 0 (root_at c.args.d) (root_at c.args.s) taken reply both.ensures.is both.ensures'.is low refl refl c.if-first-count.false (asked ∙ c.takes.ensures) said

pub returns-then-not-takes-clause-reply : goal.returns-then-not-takes-clause-reply
returns-then-not-takes-clause-reply c = fitting (goal.at.returns-then-not-takes-clause-reply c).After-takes false _ (sym c.if-not-takes.true) refl

pub returns-clause-reply : goal.returns-clause-reply
returns-clause-reply c = fitting (goal.at.returns-clause-reply c).After-takes true _ (sym c.if-not-takes.false) refl
