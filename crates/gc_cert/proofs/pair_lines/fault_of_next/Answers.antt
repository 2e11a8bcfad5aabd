-- The first line feed that waits ends the next line.
use Rattle.std.proofs.Common.{arith, ◌+◌}
use Rattle.gc_cert.proofs.pair_lines.fault_of_next.Goals as goal

pub returns-in-Some : goal.returns-in-Some
returns-in-Some c =
    let cut = rw c.waiting.ensures at c.in-Some.ensures in (
      c.in-Some.field-0.0.now,
      record { rest = c.in-Some.field-0.1.now; taken = c.args.lines.now.taken + 1 },
      record { parts = cut.0; whole = cut.1; number = omega arith },
      omega (arith, c.taken.ensures.value),
    )
