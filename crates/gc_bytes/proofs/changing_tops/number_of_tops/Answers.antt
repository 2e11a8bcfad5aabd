-- A turn takes one bit more.
use Rattle.std.proofs.Common.{◌+◌, ◌-◌, ◌*◌, ◌<◌, ◌^◌, length, get_or, map, ap, sym, subst, ◌∙◌, arith}
use Rattle.std.proofs.lemmas.List.{drop_all}
use Rattle.gc_bytes.specs.Vector.{bits_number, top_bit}
use Rattle.gc_bytes.proofs.ChangedVectors.{tops_below, tops_more}
use Rattle.gc_bytes.proofs.changing_tops.number_of_tops.Goals as goal
use Rattle.gc_bytes.proofs.changing_tops.number_of_tops.Goals.{In-loop-k}

pub loop-k-init : goal.loop-k-init
unfolding bits_number
loop-k-init c = record { value = ap (λ ws. bits_number (map top_bit ws)) (sym (drop_all (length c.args.words.now) c.args.words.now (omega arith))); within = omega arith }

-- at most 62 bits so far
so_far : (c : In-loop-k) → c.loop-k.number < 2 ^ 62
so_far c = subst (λ n. n < 2 ^ 62) (sym c.loop-k.invariant.value) (tops_below c.args.words.now c.loop-k.k 62 (λ i. let word = c.type_inv.words i in omega arith) (omega (arith, c.requires, c.loop-k-test.true)))

pub overflow_mul-number : goal.overflow_mul-number
overflow_mul-number c = let small = so_far c in omega arith

pub overflow_add-number : goal.overflow_add-number
overflow_add-number c = let small = so_far (goal.at.overflow_add-number c).In-loop-k in let word = c.type_inv.words (c.loop-k.k - 1) in omega arith

pub loop-k-preserved : goal.loop-k-preserved
loop-k-preserved c = record {
  value = ap (λ n. n * 2 + top_bit (get_or c.args.words.now (c.loop-k.k - 1) 0)) c.loop-k.invariant.value ∙ tops_more c.args.words.now c.loop-k.k c.loop-k-test.true c.loop-k.invariant.within;
  within = omega (arith, c.loop-k.invariant.within);
}

pub returns-clause-small : goal.returns-clause-small
returns-clause-small c = subst (λ n. n < 2 ^ length c.args.words.now) (sym c.loop-k.invariant.value) (tops_below c.args.words.now c.loop-k.k (length c.args.words.now) (λ i. let word = c.type_inv.words i in omega arith) (omega arith))
