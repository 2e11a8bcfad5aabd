-- A turn takes one digit more.
use Rattle.std.proofs.Common.{◌+◌, ◌-◌, ◌*◌, ◌<◌, ◌^◌, drop, length, ap, sym, ◌∙◌, arith}
use Rattle.std.proofs.lemmas.List.{drop_all, length-drop}
use Rattle.gc_bytes.specs.Text.{AreBytes, bytes_number}
use Rattle.gc_bytes.proofs.Digits.{bytes_from_index, number_below, number_more}
use Rattle.gc_bytes.proofs.Spelled.{bytes_parted}
use Rattle.gc_bytes.proofs.spelling.number_of.Goals as goal
use Rattle.gc_bytes.proofs.spelling.number_of.Goals.{In-loop-k}

pub loop-k-init : goal.loop-k-init
unfolding bytes_number
loop-k-init c = record { value = ap bytes_number (sym (drop_all (length c.args.digits.now) c.args.digits.now (omega arith))); within = omega arith }

-- at most six digits so far
so_far : (c : In-loop-k) → c.loop-k.number < 256 ^ 6
so_far c =
    let bytes : AreBytes c.args.digits.now = bytes_from_index c.args.digits.now (λ i. let byte = c.type_inv.digits i in omega arith) in
    let left = length-drop c.loop-k.k c.args.digits.now in
    let below = number_below (drop c.loop-k.k c.args.digits.now) 6 (bytes_parted c.loop-k.k c.args.digits.now bytes).1 (omega (arith, c.requires, c.loop-k-test.true)) in
    omega (arith, c.loop-k.invariant.value)

pub overflow_mul-number : goal.overflow_mul-number
overflow_mul-number c = let small = so_far c in omega arith

pub overflow_add-number : goal.overflow_add-number
overflow_add-number c = let small = so_far (goal.at.overflow_add-number c).In-loop-k in let byte = c.type_inv.digits (c.loop-k.k - 1) in omega (arith, c.from.ensures, byte)

pub loop-k-preserved : goal.loop-k-preserved
loop-k-preserved c = record {
  value = ap (λ n. n * 256 + c.from.result) c.loop-k.invariant.value ∙ ap (λ b. bytes_number (drop c.loop-k.k c.args.digits.now) * 256 + b) c.from.ensures ∙ number_more c.args.digits.now c.loop-k.k c.loop-k-test.true c.loop-k.invariant.within;
  within = omega (arith, c.loop-k.invariant.within);
}

pub returns-clause-small : goal.returns-clause-small
returns-clause-small c =
    let bytes : AreBytes c.args.digits.now = bytes_from_index c.args.digits.now (λ i. let byte = c.type_inv.digits i in omega arith) in
    let left = length-drop c.loop-k.k c.args.digits.now in
    let below = number_below (drop c.loop-k.k c.args.digits.now) 7 (bytes_parted c.loop-k.k c.args.digits.now bytes).1 (omega (arith, c.requires)) in
    omega (arith, c.loop-k.invariant.value)
