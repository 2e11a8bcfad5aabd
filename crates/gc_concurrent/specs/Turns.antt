-- Which flips ask the whole checker, and how many did.
use Rattle.std.specs.Prelude.{◌≡◌, ℕ, ◌+◌, ◌-◌, ◌^◌, ◌&&◌, min, nat_le, nat_lt, Bool, true, false, if◌then◌else◌}
use Rattle.gc_concurrent.specs.declared.turns.Turns.{Turns}

-- Each flip with the number `each` asks it, counted from the last one that did; if it is 0, none does for its number. `since`: the flips since then.
-- `along` and `whole`: the flips for which only the standing checker was asked, and those for which the whole one said yes.
abbrev pub turns_at_open : ℕ → Turns
turns_at_open each = record { each = each; since = 0; along = 0; whole = 0 }

-- the next flip asks the whole checker for its number
abbrev pub whole_is_due : Turns → Bool
whole_is_due t = nat_lt 0 t.each && nat_le t.each (t.since + 1)

-- One flip more, which asked the whole checker or not. A count stays at the largest number that it can hold.
abbrev pub after_flip : Bool → Turns → Turns
after_flip whole t =
    if whole then record t { since = 0; whole = min (t.whole + 1) (2 ^ 64 - 1) }
    else record t { since = min (t.since + 1) (2 ^ 32 - 1); along = min (t.along + 1) (2 ^ 64 - 1) }

-- if the whole checker was asked, the one, and otherwise the other
abbrev pub IfAsked : Bool → Type 0 → Type 0 → Type 0
IfAsked true said vouched = said
IfAsked false said vouched = vouched

-- A flip was made between these turns. The whole checker was asked and said this, if that was due; otherwise the standing checker vouched.
pub record TurnsBy (said vouched : Type 0) (old new : Turns) : Type 0 where
  pub asked : Bool
  pub turned : new ≡ after_flip asked old
  pub due : asked ≡ whole_is_due old
  pub by : IfAsked asked said vouched
