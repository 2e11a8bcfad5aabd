-- What stands at the front of a text.
use Rattle.std.specs.Prelude.{◌≡◌, ℕ, ◌<◌, ◌≤◌, ◌^◌, List, [], ◌∷◌, ◌++◌, Option, Some}
use Rattle.std.specs.Fmt.{decimal}
use Rattle.std.specs.Float.Numeral.{digits_len}

-- the text is `n` in decimal, where `n` is below 2 ^ 64, and then `rest`, which does not begin with a digit
pub record BeginsWithNumber (text : List ℕ) (n : ℕ) (rest : List ℕ) : Type 0 where
  pub small : n < 2 ^ 64
  pub parts : text ≡ decimal n ++ rest
  pub whole : digits_len rest ≡ 0

-- a token ends before this text: its first byte, like a space or a line feed, is below the digits and letters
abbrev pub EndsToken : List ℕ → Type 0
EndsToken [] = ⊥
EndsToken (b ∷ rest) = b < 48

-- a number up to `most` is found at the front of the text, if it is there
abbrev pub FindsNumber : ℕ → List ℕ → Option ℕ → List ℕ → Type 0
FindsNumber most text found rest = (n : ℕ) (more : List ℕ) → n ≤ most → EndsToken more → text ≡ decimal n ++ more → (found ≡ Some n) × (rest ≡ more)
