-- What becomes of a handle whose end is lent.
use Rattle.std.specs.Prelude.{Some}
use Rattle.std.specs.Borrow.{Lends, MutBor, Fml}
use Rattle.gcflip_beside_c.specs.declared.handle.GcflipEnd.{GcflipEnd}
use Rattle.gcflip_beside_c.specs.contracts.handle.GcflipEnd.{the_row}
use Rattle.gcflip_beside_c.specs.contracts.end.End as End

-- the handle after its end became this one
abbrev pub with_end : GcflipEnd → End.the_row.Denot → GcflipEnd
with_end handle end = record handle { end = Some end }

-- once the borrow of the end ends, the handle has its last value
abbrev pub LendsEnd : MutBor GcflipEnd → MutBor End.the_row.Denot → Fml
LendsEnd handle end = Lends the_row End.the_row handle end (with_end handle.now)
