-- All fields are compared, from the first on.
use Rattle.std.proofs.Common.{◌≡◌, ◌+◌, sym, subst, arith}
use Rattle.gc_monitor.specs.Claims.{CanLook}
use Rattle.gc_monitor.specs.Internal.Runs.{LooksTo}
use Rattle.gc_monitor.proofs.monitor.Monitor.look_rest.Goals as goal

pub returns-clause-stays : goal.returns-clause-stays
returns-clause-stays c = λ plain few can.
    let none : c.args.first ≡ 0 = omega (arith, c.if-first-gt0.false) in
    c.look_fields.ensures.stays (λ k mid small looks.
    subst (λ n. CanLook c.args.old.now c.args.new.now c.args.at (n + k) mid) none
    (can k mid (omega (arith, small, none)) (subst (λ n. LooksTo c.args.old.now c.args.new.now c.args.at n k c.args.self.now mid) (sym none) looks)))
