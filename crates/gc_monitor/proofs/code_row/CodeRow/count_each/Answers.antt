-- A turn counts one more place.
use Rattle.std.proofs.lemmas.Grind.{common_steps}
use Rattle.std.proofs.Common.{◌≡◌, ◌≤◌, ◌+◌, ◌-◌, ◌==◌, Bool, ap, subst, sym, ◌∙◌, arith}
use Rattle.std.specs.Prelude.{slice_index}
use Rattle.gc_monitor.specs.Internal.Watch.{bit}
use Rattle.gc_monitor.specs.Internal.Rows.{dues_from}
use Rattle.gc_monitor.proofs.RowsDue.{count_step}
use Rattle.gc_monitor.proofs.code_row.CodeRow.count_each.Goals as goal

at_most : (due : Bool) → bit due ≤ 1
at_most due = grind (arith, common_steps)

pub loop-k-preserved : goal.loop-k-preserved
loop-k-preserved c =
    let is : c.counted-dues.result ≡ bit (slice_index c.args.self.now.codes (c.args.first + c.loop-k.k) == 3) = c.counted-dues.ensures ∙ ap (λ code. bit (code == 3)) c.get.ensures in
    let one : bit (slice_index c.args.self.now.codes (c.args.first + c.loop-k.k) == 3) ≤ 1 = at_most (slice_index c.args.self.now.codes (c.args.first + c.loop-k.k) == 3) in (
      subst (λ n. c.loop-k.dues + n + dues_from c.args.self.now.codes (c.args.first + (c.loop-k.k + 1)) (c.args.count - (c.loop-k.k + 1)) ≡ dues_from c.args.self.now.codes c.args.first c.args.count) (sym is)
          (count_step c.args.self.now.codes c.args.first c.loop-k.k c.args.count c.loop-k.dues _ c.loop-k-test.true c.loop-k.invariant.0),
      (let few : c.loop-k.dues ≤ c.loop-k.k = c.loop-k.invariant.1 in omega arith),
    )
