-- A turn sets one more extra root to nil, and no root comes or goes.
use Rattle.std.proofs.Common.{◌≡◌, ◌+◌, ◌-◌, length, sym, ◌∙◌, ap, subst, arith}
use Rattle.gc_graph.specs.declared.command.Op.TheVariants.{Nil}
use Rattle.gc_graph.specs.declared.reply.Reply.{Reply}
use Rattle.gc_heap.specs.ExtraRoots.{extra_root}
use Rattle.gc_heap.specs.Places.{root_at}
use Rattle.gc_model.specs.State.{State}
use Rattle.gc_model.specs.Steps.{mutate}
use Rattle.gc_model.proofs.Public.{roots_counted}
use Rattle.gc_collected.specs.ExtraRoots.{clear_step}
use Rattle.gc_collected.proofs.Marks.{clear_next}
use Rattle.gc_collected.proofs.collected_heap.CollectedHeap.clear.Goals as goal

pub loop-k-preserved : goal.loop-k-preserved
loop-k-preserved c =
    let before : State = c.loop-k.self.core in
    let k = c.loop-k.k in
    let rest = c.args.to - (k + 1) in
    let done = c.nil_into-done in
    let step : mutate before 0 (Nil (extra_root before.mutators k)) ≡ (done.result, done.new.self.core) = subst (λ p. mutate before 0 (Nil (root_at p)) ≡ (done.result, done.new.self.core)) c.extra_place.ensures.place done.ensures.step in
    let count = sym (ap (λ (x : Reply × State). length x.1.heap.graph.roots) step) ∙ roots_counted before 0 (Nil (extra_root before.mutators k)) in
    record {
      rest = ap (λ (x : Reply × State). clear_step x.1 (k + 1) rest) (sym step)
          ∙ sym (clear_next before k (k + 1) rest (c.args.to - k) (omega (arith, c.loop-k-test.true)) (omega arith))
          ∙ c.loop-k.invariant.rest;
      extra = omega (arith, count, done.ensures.mutators, c.loop-k.invariant.extra);
      mutators = done.ensures.mutators ∙ c.loop-k.invariant.mutators;
      beside = done.ensures.beside ∙ c.loop-k.invariant.beside;
      looks = (
        omega (arith, done.ensures.looks.0, c.loop-k.invariant.looks.0),
        omega (arith, done.ensures.looks.1, c.loop-k.invariant.looks.1, c.loop-k-test.true),
      );
      within = omega (arith, c.loop-k-test.true);
    }

pub returns-clause-looks : goal.returns-clause-looks
returns-clause-looks c = (
  c.loop-k.invariant.looks.0,
  omega (arith, c.loop-k.invariant.looks.1, c.loop-k.invariant.within),
)
