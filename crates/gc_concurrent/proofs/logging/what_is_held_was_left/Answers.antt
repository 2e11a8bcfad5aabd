-- The rule of the handshake says so.
use Rattle.gc_concurrent.proofs.Handshaking.{held_as_left}
use Rattle.gc_concurrent.proofs.logging.what_is_held_was_left.Goals as goal

pub returns : goal.returns
returns c s waiting holding rule left held = held_as_left s waiting.seat.me.0 holding.seat.me.0 rule left held waiting.goes holding.keeps.0 holding.keeps.1
