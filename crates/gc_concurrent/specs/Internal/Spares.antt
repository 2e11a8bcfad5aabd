-- Memory for the collection after the next flip.
use Rattle.std.specs.Prelude.{ℕ, length, Option}
use Rattle.std.specs.Option.{option_map_or}
use Rattle.gc_concurrent.specs.declared.spare.Spare.{Spare}

-- the number of claims that are spare, or this number if nothing was prepared
abbrev pub claims_spared : Option Spare → ℕ → ℕ
claims_spared spare size = option_map_or (λ (s : Spare). length s.claims.items) spare size
