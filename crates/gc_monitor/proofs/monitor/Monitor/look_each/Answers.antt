-- A turn compares one field more, or loses the checker.
use Rattle.std.proofs.Common.{◌≡◌, suc, ◌+◌, ◌-◌, IsFalse, ap, sym, subst, ◌∙◌, arith}
use Rattle.gc_monitor.specs.Events.{Looked}
use Rattle.gc_monitor.specs.Internal.Runs.{LooksTo}
use Rattle.gc_monitor.specs.Tables.{Tables}
use Rattle.gc_monitor.proofs.monitor.Monitor.look_each.Goals as goal

pub loop-i-preserved : goal.loop-i-preserved
loop-i-preserved c =
    let found : IsFalse c.look.new.self.lost = sym (ap (λ (t : Tables). t.lost) c.self.view_is) ∙ c.if-self.false in
    let at : suc (c.loop-i.i - c.args.first) ≡ c.loop-i.i + 1 - c.args.first = omega arith in
    let here : c.loop-i.i ≡ c.args.first + (c.loop-i.i - c.args.first) = omega arith in (
      found,
      subst (λ n. LooksTo c.args.old.now c.args.new.now c.args.at c.args.first n c.args.self.now c.look.new.self) at
          (c.loop-i.self, c.loop-i.invariant.1, subst (λ n. Looked c.args.old.now c.args.new.now c.args.at n c.loop-i.self c.look.new.self) here (c.look.ensures.looked found)),
    )
