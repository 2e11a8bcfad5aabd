-- Whether the log of a mutator that runs has room for more entries.
use Rattle.std.specs.Prelude.{◌≡◌, ◌+◌, ◌≤◌, ℕ, true}
use Rattle.std.specs.Vec.{vec_len, vec_capacity}
use Rattle.gc_concurrent.specs.declared.commands.Commander.{Commander}

-- There is room for so many, if writes are logged.
abbrev pub HasLogRoom : ℕ → Commander → Type 0
HasLogRoom more c = c.mutator.logs ≡ true → vec_len c.mutator.log + more ≤ vec_capacity c.mutator.log
