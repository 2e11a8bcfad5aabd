-- Parts of the view of a collected heap.
use Rattle.std.proofs.Common.{◌≡◌, ap}
use Rattle.gc_collected.specs.Collected.{Collected}

-- heaps that are the same have the same state
pub core_is : {x y : Collected} → x ≡ y → x.core ≡ y.core
core_is e = ap (λ (h : Collected). h.core) e

-- and as many looks that are left
pub left_is : {x y : Collected} → x ≡ y → x.roots_left ≡ y.roots_left
left_is e = ap (λ (h : Collected). h.roots_left) e
