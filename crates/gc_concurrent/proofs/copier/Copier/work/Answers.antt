-- Where nothing is due, the scan pointer at the end means that all is scanned.
use Rattle.std.proofs.Common.{[], ◌∷◌, ap, ◌∙◌, arith}
use Rattle.std.specs.Prelude.{if◌then◌else◌}
use Rattle.gc_concurrent.proofs.Memory.{scan_end}
use Rattle.gc_concurrent.proofs.InHand.{mem}
use Rattle.gc_concurrent.proofs.copier.Copier.work.Goals as goal

pub returns-then-self-end-clause-done : goal.returns-then-self-end-clause-done
returns-then-self-end-clause-done c =
    let a = c.args.self.now in (
      c.has_nothing_due.ensures.none c.if-not-has_nothing_due.false,
      scan_end a.seat.me.0.theirs a.space (mem a) a.loose (let e = a.scans.0 in omega (arith, c.if-self-end.true, c.end.ensures.value)),
      a.wants ∙ ap (λ b. if b then a.wanted ∷ [] else []) c.if-self.false,
    )
