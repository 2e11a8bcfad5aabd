-- The pair that an event's flip keeps.
use Rattle.std.specs.Prelude.{Option, None}
use Rattle.gc_cert.specs.Grammar.{CertifiedPair}
use Rattle.gc_model.specs.State.{State}
use Rattle.gc_model.specs.Steps.{collect}
use Rattle.gc_model.specs.declared.event.Event.{Event}
use Rattle.gc_model.specs.declared.event.Event.TheVariants.{Mutate, Collect}
use Rattle.gc_collected.specs.Flip.{pair_after}
use Rattle.gc_collected.specs.declared.flip.Keep.{Keep}
use Rattle.gc_collected.specs.declared.flip.Keep.TheVariants.{Pair}

-- the pair kept after this event happens in this state; `kept` is the one kept before
abbrev pub kept_with : Keep → Option CertifiedPair → State → Event → Option CertifiedPair
kept_with keep kept s (Mutate m op) = kept
kept_with keep kept s (Collect step) = pair_after keep kept s (collect s step).0

-- the pair of the event's flip, if the event flips in this state
abbrev pub flip_at : State → Event → Option CertifiedPair
flip_at s event = kept_with Pair None s event
