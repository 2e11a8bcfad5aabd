-- The flips of a trace's run, and the pairs that they keep.
use Rattle.std.specs.Prelude.{ℕ, ◌-◌, List, [], ◌∷◌, ◌++◌, Option, option_to_list, slice_get}
use Rattle.gc_cert.specs.Grammar.{CertifiedPair}
use Rattle.gc_model.specs.State.{State}
use Rattle.gc_model.specs.Runs.{after}
use Rattle.gc_collected.specs.Performing.{flip_at}
use Rattle.gc_model.specs.declared.event.Event.{Event}
use Rattle.gc_trace.specs.Grammar.{Recording}
use Rattle.gc_trace.specs.Plays.{trace_opening}

-- the pairs of all flips from this state on, in order
abbrev pub flips : State → List Event → List CertifiedPair
flips s [] = []
flips s (event ∷ events) = option_to_list (flip_at s event) ++ flips (after s event) events

-- the pair of the trace's n-th flip, counted from 1
abbrev pub nth_flip : ℕ → Recording → Option CertifiedPair
nth_flip n t = slice_get (flips (trace_opening t) t.events) (n - 1)
