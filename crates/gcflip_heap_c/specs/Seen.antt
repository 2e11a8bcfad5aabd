-- What a call returns that tells a value: it is what another call writes to C's view, which showed nothing before.
use Rattle.std.specs.Prelude.{ℕ}
use Rattle.gc_in_c.specs.declared.reply.GcflipView.{GcflipView}
use Rattle.gcflip_heap_c.specs.declared.seen.GcflipSeen.{GcflipSeen}

-- a view with this number, and no object
abbrev pub number_view : ℕ → GcflipView
number_view n = record { kind = 0; count = 0; number = n }

-- a view that shows nothing
abbrev pub no_view : GcflipView
no_view = number_view 0

-- the view that C gets
abbrev pub shown : GcflipSeen → GcflipView
shown seen = record { kind = seen.kind; count = seen.count; number = seen.number }
