-- No bit is lost.
use Rattle.std.proofs.Common.{◌*◌, arith}
use Rattle.std.proofs.lemmas.Nat.{shl_whole}
use Rattle.gc_bytes.proofs.parts.raised.Goals as goal

pub returns : goal.returns
returns c = shl_whole c.args.number (8 * c.args.k) (8 * c.args.n) 64 c.requires.number (omega (arith, c.requires.within))
