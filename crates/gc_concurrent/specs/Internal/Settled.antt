-- A collector between two objects.
use Rattle.std.specs.Prelude.{◌≡◌, false}
use Rattle.gc_concurrent.specs.declared.copier.Copier.{Copier}

-- no object is wanted, and no raw replica is still to be filled
abbrev pub IsSettled : Copier → Type 0
IsSettled a = (a.has_wanted ≡ false) × (a.fill_left ≡ 0)
