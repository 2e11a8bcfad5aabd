-- The bytes so far are the same.
use Rattle.std.proofs.Common.{◌≡◌, ◌*◌, drop, take}
use Rattle.std.specs.Cmp.Lexicographic.{slice_cmp}
use Rattle.std.specs.Ordering.{nat_cmp}
use Rattle.gc_bytes.specs.Text.{bytes_of}
use Rattle.gc_bytes.proofs.comparing.compare_bytes.Given as goal

abbrev pub invariant-loop-w : goal.invariant-loop-w
invariant-loop-w l = slice_cmp nat_cmp (drop (7 * l.w) (take l.n (bytes_of l.one))) (drop (7 * l.w) (take l.m (bytes_of l.other))) ≡ slice_cmp nat_cmp (take l.n (bytes_of l.one)) (take l.m (bytes_of l.other))
