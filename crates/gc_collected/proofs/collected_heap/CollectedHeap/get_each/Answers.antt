-- A turn sets the next root to the next field, and no root comes or goes.
use Rattle.std.proofs.Common.{◌≡◌, ℕ, suc, ◌+◌, ◌-◌, length, sym, ◌∙◌, ap, arith}
use Rattle.gc_graph.specs.declared.command.Op.TheVariants.{Get}
use Rattle.gc_graph.specs.declared.reply.Reply.{Reply}
use Rattle.gc_heap.specs.Places.{root_at}
use Rattle.gc_model.specs.State.{State}
use Rattle.gc_model.specs.Steps.{mutate}
use Rattle.gc_model.proofs.Public.{roots_counted}
use Rattle.gc_collected.specs.Spreading.{gets_step}
use Rattle.gc_collected.proofs.collected_heap.CollectedHeap.get_each.Goals as goal

-- one more root
next : (s : State) (p q i n count p' i' : ℕ) → count ≡ suc n → p' ≡ suc p → i' ≡ suc i → gets_step s p q i count ≡ gets_step (mutate s 0 (Get (root_at p) (root_at q) i)).1 p' q i' n
next s p q i n count p' i' e f g = ap (gets_step s p q i) e ∙ (λ k. gets_step (mutate s 0 (Get (root_at p) (root_at q) i)).1 (sym f k) q (sym g k) n)

pub loop-k-preserved : goal.loop-k-preserved
loop-k-preserved c =
    let before : State = c.loop-k.self.core in
    let k = c.loop-k.k in
    let p = c.args.first + k in
    let rest = c.args.count - (k + 1) in
    let step = c.fetch_root-got.ensures.fetches.1 in
    record {
      rest = ap (λ (x : Reply × State). gets_step x.1 (c.args.first + (k + 1)) c.args.s (k + 1) rest) (sym step)
          ∙ sym (next before p c.args.s k rest (c.args.count - k) (c.args.first + (k + 1)) (k + 1) (omega (arith, c.loop-k-test.true)) (omega arith) (omega arith))
          ∙ c.loop-k.invariant.rest;
      roots = sym (ap (λ (x : Reply × State). length x.1.heap.graph.roots) step) ∙ roots_counted before 0 (Get (root_at p) (root_at c.args.s) k) ∙ c.loop-k.invariant.roots;
      mutators = c.fetch_root-got.ensures.mutators ∙ c.loop-k.invariant.mutators;
      beside = c.fetch_root-got.ensures.beside ∙ c.loop-k.invariant.beside;
      looks = (
        omega (arith, c.fetch_root-got.ensures.looks.0, c.loop-k.invariant.looks.0),
        omega (arith, c.fetch_root-got.ensures.looks.1, c.loop-k.invariant.looks.1),
      );
      within = omega (arith, c.loop-k-test.true);
    }

pub returns-clause-looks : goal.returns-clause-looks
returns-clause-looks c = (
  c.loop-k.invariant.looks.0,
  omega (arith, c.loop-k.invariant.looks.1, c.loop-k.invariant.within, c.loop-k-test.false),
)
