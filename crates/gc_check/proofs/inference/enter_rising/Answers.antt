-- An entry that is 0 has no pair at either of its two addresses, and behind the last entry no pair is left.
use Rattle.gc_check.proofs.ByAddress.{length_by_address}
use Rattle.std.proofs.lemmas.Grind.{common_steps}
use Rattle.std.proofs.Common.{arith, append-nil}
use Rattle.std.proofs.lemmas.List.{drop_all}
use Rattle.gc_check.proofs.Rising.{both_passed}
use Rattle.gc_check.proofs.inference.enter_rising.Goals as goal

pub loop-half-preserved-then-is_zero : goal.loop-half-preserved-then-is_zero
loop-half-preserved-then-is_zero c = grind (arith, common_steps, both_passed)

pub returns : goal.returns
returns c = grind (arith, common_steps, length_by_address, drop_all, append-nil)
