-- Digits that spell a number in decimal, without leading zeros.
use Rattle.std.specs.Prelude.{◌≡◌, ℕ, ◌<◌, ◌^◌, List}
use Rattle.std.specs.Fmt.{decimal}
use Rattle.std.specs.Str.Parse.{digits_value}

-- the digits spell a number below 2 ^ 64
pub record IsDecimal (digits : List ℕ) : Type 0 where
  pub small : digits_value 10 digits < 2 ^ 64
  pub spelled : digits ≡ decimal (digits_value 10 digits)
