-- The checker goes along with the words that it has seen so far, and no other knowledge of the seat changes.
use Rattle.std.proofs.Common.{◌≡◌, false, ◌-◌, ℕ, List, length}
use Rattle.gc_concurrent.specs.Internal.Rule.{seeing}
use Rattle.gc_concurrent.specs.Ends.{Theirs}
use Rattle.gc_concurrent.specs.Internal.Following.{Follows}
use Rattle.gc_concurrent.specs.Internal.Knowing.{Knows}
use Rattle.gc_concurrent.proofs.watching.walk.Given as goal

abbrev pub invariant-loop-words : goal.invariant-loop-words
invariant-loop-words l =
    (l.seat.table_id ≡ l.fn.seat.table_id) × (l.seat.me ≡ seeing l.seat.me.0.seen l.fn.seat.me)
    × ((new : List ℕ) → ∥ Follows l.fn.standing l.fn.seat.me.0.seen new ∥₁ → ∥ Follows l.standing l.seat.me.0.seen new ∥₁)
    × (record l.standing { olds = l.fn.standing.olds } ≡ l.fn.standing)
    × (l.standing.lost ≡ false)
    × ((new : List ℕ) (t : Theirs) → ∥ Follows l.fn.standing l.fn.seat.me.0.seen new ∥₁ → ∥ Knows l.fn.standing l.fn.seat.me.0.seen new t ∥₁ → ∥ Knows l.standing l.seat.me.0.seen new t ∥₁)

abbrev pub decreases-loop-words : goal.decreases-loop-words
decreases-loop-words l = l.end - length l.standing.olds
