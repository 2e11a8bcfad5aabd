-- The shifted 1 does not overflow.
use Rattle.std.proofs.Common.{◌%◌, ◌<◌, ◌*◌, ◌^◌, ap, arith, subst, sym}
use Rattle.std.proofs.lemmas.Nat.{mod_below, one_shl, pow_pos}
use Rattle.gc_bytes.proofs.parts.low.Goals as goal

pub returns : goal.returns
returns c =
    let power = one_shl (8 * c.args.n) 64 (omega (arith, c.requires)) in
    record {
      value = ap (λ p. c.args.word % p) power;
      small = subst (λ p. c.args.word % p < 2 ^ (8 * c.args.n)) (sym power) (mod_below c.args.word (2 ^ (8 * c.args.n)) (pow_pos (8 * c.args.n)));
    }
