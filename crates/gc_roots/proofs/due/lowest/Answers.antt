-- The trailing zeros of a word are the place of its lowest bit.
use Rattle.std.proofs.Common.{arith, w64}
use Rattle.std.proofs.lemmas.Nat.Bits.{bit_at-trailing_zeros}
use Rattle.gc_roots.proofs.due.lowest.Goals as goal

pub returns-clause-set : goal.returns-clause-set
returns-clause-set c = (bit_at-trailing_zeros w64 c.args.word c.requires (omega arith)).1

pub returns-clause-before : goal.returns-clause-before
returns-clause-before c = (bit_at-trailing_zeros w64 c.args.word c.requires (omega arith)).2
