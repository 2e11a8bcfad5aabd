-- Each word that is loaded lies within the mutator's words, and is the mutator's.
use Rattle.std.proofs.Common.{ap, ◌∙◌, arith}
use Rattle.gc_concurrent.specs.Internal.Rule.{Sat}
use Rattle.gc_concurrent.proofs.Writing.{gets}
use Rattle.gc_concurrent.proofs.checking.loaded.Goals as goal

pub load-word-requires : goal.load-word-requires
load-word-requires c = (
  c.loop-k.invariant.row ∙ c.requires.cells,
  (let less = c.loop-k-test.true in let wide = c.requires.wide in omega arith),
  gets _ _ _ _ _ (ap (λ (m : Sat). m.0.writes) c.loop-k.invariant.same ∙ c.requires.writes),
)
