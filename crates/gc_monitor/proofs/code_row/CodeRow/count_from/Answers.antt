-- A turn counts the places of one word.
use Rattle.std.proofs.lemmas.Grind.{common_steps}
use Rattle.std.proofs.Common.{◌≡◌, ◌≤◌, ◌+◌, ◌-◌, ap, arith}
use Rattle.gc_monitor.specs.Internal.Rows.{dues_from}
use Rattle.gc_monitor.proofs.RowsDue.{dues_few, dues_on}
use Rattle.gc_monitor.proofs.code_row.CodeRow.count_from.Goals as goal

pub overflow_add-dues : goal.overflow_add-dues
overflow_add-dues c =
    let codes = c.args.self.now.codes in
    let some = c.min-some.result in
    let few : dues_from codes c.loop-from.from some ≤ some = dues_few some c.loop-from.from codes in
    grind (arith, common_steps, few, c.count_in_word-dues.ensures, c.loop-from.invariant.few, c.loop-from.invariant.low, c.loop-from.invariant.high, c.min-some.ensures, c.requires.few)

pub loop-from-preserved : goal.loop-from-preserved
loop-from-preserved c =
    let codes = c.args.self.now.codes in
    let first = c.args.first in
    let from = c.loop-from.from in
    let some = c.min-some.result in
    let few : dues_from codes from some ≤ some = dues_few some from codes in
    let at : first + (from - first) ≡ from = omega (arith, c.loop-from.invariant.low) in
    let on : dues_from codes first ((from - first) + some) ≡ dues_from codes first (from - first) + dues_from codes (first + (from - first)) some = dues_on (from - first) some first codes in
    let next : from + some - first ≡ (from - first) + some = omega (arith, c.loop-from.invariant.low) in
    let here : dues_from codes (first + (from - first)) some ≡ dues_from codes from some = ap (λ q. dues_from codes q some) at in
    let all : dues_from codes first (from + some - first) ≡ dues_from codes first ((from - first) + some) = ap (dues_from codes first) next in
    record {
      low = omega (arith, c.loop-from.invariant.low);
      high = grind (arith, common_steps, c.min-some.ensures, c.loop-from.invariant.high);
      counted = omega (arith, all, on, here, c.count_in_word-dues.ensures, c.loop-from.invariant.counted);
      few = omega (arith, few, c.count_in_word-dues.ensures, c.loop-from.invariant.few, c.loop-from.invariant.low);
    }
