-- The digits so far are the same.
use Rattle.std.proofs.Common.{◌≡◌, ◌-◌}
use Rattle.std.specs.Cmp.Lexicographic.{slice_cmp}
use Rattle.std.specs.Ordering.{nat_cmp}
use Rattle.gc_bytes.specs.Text.{digits}
use Rattle.gc_bytes.proofs.comparing.first_difference.Given as goal

abbrev pub invariant-loop-i : goal.invariant-loop-i
invariant-loop-i l = slice_cmp nat_cmp (digits (l.k - l.i) l.x) (digits (l.k - l.i) l.y) ≡ slice_cmp nat_cmp (digits l.k l.a) (digits l.k l.b)
