-- Without bits and originals there are no places.
use Rattle.std.proofs.Common.{inr, arith}
use Rattle.gc_monitor.specs.Internal.InWords.{room_for}
use Rattle.gc_monitor.proofs.Halves.{has_none_of, no_origins_of}
use Rattle.gc_monitor.proofs.origin_row.OriginRow.absent.Goals as goal

pub invariant_of-result : goal.invariant_of-result
invariant_of-result c = (has_none_of _ _ c.new.ensures.items c.new-2.ensures.items, omega arith, inr (omega arith))

pub returns : goal.returns
returns c = (λ i. record { origins = no_origins_of _ _ c.new.ensures.items c.new-2.ensures.items i; room = room_for (c.new.ensures.capacity i) (c.new-2.ensures.capacity i) })
