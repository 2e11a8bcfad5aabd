-- A turn sets one more root to nil, and no root comes or goes.
use Rattle.std.proofs.Common.{◌≡◌, ℕ, suc, ◌+◌, ◌-◌, length, sym, ◌∙◌, ap, arith}
use Rattle.gc_graph.specs.declared.command.Op.TheVariants.{Nil}
use Rattle.gc_graph.specs.declared.reply.Reply.{Reply}
use Rattle.gc_heap.specs.Places.{root_at}
use Rattle.gc_model.specs.State.{State}
use Rattle.gc_model.specs.Steps.{mutate}
use Rattle.gc_model.proofs.Public.{roots_counted}
use Rattle.gc_collected.specs.Values.{clear_roots_step}
use Rattle.gc_collected.proofs.collected_heap.CollectedHeap.clear_roots.Goals as goal

-- one more root
next : (s : State) (p n count p' : ℕ) → count ≡ suc n → p' ≡ suc p → clear_roots_step s p count ≡ clear_roots_step (mutate s 0 (Nil (root_at p))).1 p' n
next s p n count p' e f = ap (clear_roots_step s p) e ∙ (λ k. clear_roots_step (mutate s 0 (Nil (root_at p))).1 (sym f k) n)

pub loop-p-preserved : goal.loop-p-preserved
loop-p-preserved c =
    let before : State = c.loop-p.self.core in
    let p = c.loop-p.p in
    let rest = c.args.to - (p + 1) in
    let step = c.nil_root-done.ensures.step in
    record {
      rest = ap (λ (x : Reply × State). clear_roots_step x.1 (p + 1) rest) (sym step)
          ∙ sym (next before p rest (c.args.to - p) (p + 1) (omega (arith, c.loop-p-test.true)) (omega arith))
          ∙ c.loop-p.invariant.rest;
      roots = sym (ap (λ (x : Reply × State). length x.1.heap.graph.roots) step) ∙ roots_counted before 0 (Nil (root_at p)) ∙ c.loop-p.invariant.roots;
      mutators = c.nil_root-done.ensures.mutators ∙ c.loop-p.invariant.mutators;
      beside = c.nil_root-done.ensures.beside ∙ c.loop-p.invariant.beside;
      looks = (
        omega (arith, c.nil_root-done.ensures.looks.0, c.loop-p.invariant.looks.0),
        omega (arith, c.nil_root-done.ensures.looks.1, c.loop-p.invariant.looks.1, c.loop-p-test.true),
      );
      within = omega (arith, c.loop-p-test.true);
    }

pub returns-clause-looks : goal.returns-clause-looks
returns-clause-looks c = (
  c.loop-p.invariant.looks.0,
  omega (arith, c.loop-p.invariant.looks.1, c.loop-p.invariant.within),
)
