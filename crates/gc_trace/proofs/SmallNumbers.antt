-- One or two digits spell a number of one or two digits.
use mir.Val.{bool_byte}
use Rattle.std.proofs.Common.{Bool, true, false, ltb, ◌≡◌, ℕ, ◌+◌, ◌-◌, ◌*◌, ◌%◌, ◌<◌, ◌≤◌, [], ◌∷◌, take, refl, sym, ap, ◌∙◌, arith}
use Rattle.std.specs.Fmt.{decimal}
use Rattle.std.specs.Str.Parse.{digits_value}
use Rattle.std.proofs.lemmas.Bool.{ltb-true}
use Rattle.std.proofs.lemmas.Fmt.{decimal-digits_value, decimal_digit}
use Rattle.std.proofs.lemmas.Str.{digit_value_digit}
use Rattle.gc_text.proofs.Public.{decimals}

pub one_digit : (a n : ℕ) → 48 ≤ a → a ≤ 57 → n ≡ a - 48 → decimal n ≡ a ∷ []
one_digit a n low high is = decimal_digit n (omega arith) ∙ ap (λ (d : ℕ). d ∷ []) (omega (arith, is))

pub two_digits : (a b n : ℕ) → 49 ≤ a → a ≤ 57 → 48 ≤ b → b ≤ 57 → n ≡ (a - 48) * 10 + (b - 48) → decimal n ≡ a ∷ b ∷ []
two_digits a b n low high low-b high-b is =
    let u = digit_value_digit a (omega arith, high) in
    let v = digit_value_digit b (low-b, high-b) in
    let value : digits_value 10 (a ∷ b ∷ []) ≡ n = omega (arith, u, v, is) in
    ap decimal (sym value) ∙ decimal-digits_value decimals (a ∷ b ∷ []) (omega (arith, u), (omega (arith, v), tt)) (omega arith) (λ e. absurd (omega (arith, low, e))) (omega (arith, value, is))

-- the number that one or two digits spell
pub record IsSmallNumber (a b two n : ℕ) : Type 0 where
  pub small : n < 16
  pub few : 1 + two ≤ 2
  pub spelled : take (1 + two) (a ∷ b ∷ []) ≡ decimal n

-- `two` says whether the second byte is a digit
pub small_digits : (a b tens units two : ℕ) → 48 ≤ a → a ≤ 57 → tens ≡ a - 48 → units ≡ (b + 208) % 256 → b < 256 → two ≡ bool_byte (ltb units 10) → tens + two * (9 * tens + units) ≤ 15 → two ≤ tens → IsSmallNumber a b two (tens + two * (9 * tens + units))
small_digits a b tens units two low high t u byte e small leads = at (ltb units 10) refl e
  where
    at : (digit : Bool) → ltb units 10 ≡ digit → two ≡ bool_byte digit → IsSmallNumber a b two (tens + two * (9 * tens + units))
    at true is e =
        let one : two ≡ 1 = e in
        let below = ltb-true units 10 is in
        rw one (record { small = omega (arith, rw one at small); few = omega arith; spelled = sym (two_digits a b (tens + 1 * (9 * tens + units)) (omega (arith, leads, one, t)) high (omega (arith, u, below, byte)) (omega (arith, u, below, byte)) (omega (arith, t, u, below, byte, low))) })
    at false is e =
        let none : two ≡ 0 = e in
        rw none (record { small = omega (arith, rw none at small); few = omega arith; spelled = sym (one_digit a (tens + 0 * (9 * tens + units)) low high (omega (arith, t))) })
