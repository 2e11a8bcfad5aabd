-- The invariant of a standing checker.
use Rattle.std.specs.Prelude.{◌⊎◌, IsTrue}
use Rattle.gc_monitor.specs.Tables.{Tables, RowsAgree}

-- it is lost, or its rows agree
abbrev pub IsLostOrAgrees : Tables → Type 0
IsLostOrAgrees t = IsTrue t.lost ⊎ RowsAgree t
