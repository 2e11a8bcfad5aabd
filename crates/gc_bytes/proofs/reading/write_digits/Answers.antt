-- A turn writes one digit more.
use Rattle.std.proofs.Common.{◌∙◌, ap, arith}
use Rattle.gc_bytes.specs.Text.{digits}
use Rattle.gc_bytes.proofs.Digits.{digits_done, digits_on}
use Rattle.gc_bytes.proofs.reading.write_digits.Goals as goal

pub loop-k-preserved : goal.loop-k-preserved
loop-k-preserved c = digits_on c.loop-k.out c.args.word c.loop-k.rest c.loop-k.k (omega arith) c.loop-k.invariant

pub returns : goal.returns
returns c = digits_done c.loop-k.out c.args.word c.loop-k.rest c.loop-k.k (omega arith) c.loop-k.invariant ∙ ap (λ n. digits n c.args.word) c.loop-k.auto.out
