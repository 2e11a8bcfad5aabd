-- Each turn adds four zeros, and the rest is added behind them.
use Rattle.std.proofs.lemmas.Grind.{common_steps}
use Rattle.std.proofs.Common.{◌≡◌, ℕ, ◌+◌, ◌*◌, ◌%◌, List, ◌++◌, replicate, arith, append_assoc}
use Rattle.std.proofs.lemmas.List.{replicate-append-replicate}
use Rattle.gc_words.proofs.zeros.add_few.Goals as goal

zeros_behind : (xs ys zs : List ℕ) (n m k : ℕ) → ys ≡ xs ++ replicate n 0 → zs ≡ ys ++ replicate m 0 → n + m ≡ k → zs ≡ xs ++ replicate k 0
zeros_behind xs ys zs n m k first second sum = grind (arith, common_steps, append_assoc, replicate-append-replicate)

pub loop-preserved : goal.loop-preserved
loop-preserved c = (
  zeros_behind _ _ _ (4 * c.loop.counter) 4 (4 * (c.loop.counter + 1)) c.loop.invariant.0 c.add_four.ensures.items (omega arith),
  omega (arith, c.loop.invariant.1, c.add_four.ensures.capacity),
)

pub returns-clause-items : goal.returns-clause-items
returns-clause-items c = zeros_behind _ _ _ (4 * c.loop.counter) (c.args.count % 4) c.args.count c.loop.invariant.0 c.add_rest.ensures.items (omega (arith, c.loop-test.false, c.loop.auto.counter-end))
