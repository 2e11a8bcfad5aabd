-- Numbers that are found at the front of a text.
use Rattle.std.proofs.lemmas.Grind.{common_steps}
use Rattle.std.proofs.Common.{◌≡◌, ℕ, ◌<◌, ◌≤◌, ◌^◌, List, ◌++◌, refl, Option, Some, None, subst, arith, sym, ap}
use Rattle.std.specs.Prelude.{MatchOption}
use Rattle.std.specs.Fmt.{decimal}
use Rattle.std.specs.Float.Numeral.{digits_len}
use Rattle.gc_text.specs.Fronts.{BeginsWithNumber, EndsToken}
use Rattle.gc_text.proofs.DecimalNumbers.{one_front}

token_ends : (more : List ℕ) → EndsToken more → digits_len more ≡ 0
token_ends more ends = grind (arith, common_steps)

-- the text begins with this number, and no digit follows
pub begins : (n : ℕ) (more : List ℕ) → n < 2 ^ 64 → EndsToken more → BeginsWithNumber (decimal n ++ more) n more
begins n more small ends = record { small = small; parts = refl; whole = token_ends more ends }

-- a number at the front of a text is the one that is taken, since the text begins with one number at most
pub number_found : (most n : ℕ) (text rest more : List ℕ) (found : Option ℕ) → most < 2 ^ 64 → MatchOption found ((rest ≡ text) × ((n : ℕ) (rest : List ℕ) → n ≤ most → ¬ BeginsWithNumber text n rest)) (λ m. (m ≤ most) × BeginsWithNumber text m rest) → n ≤ most → EndsToken more → text ≡ decimal n ++ more
    → (found ≡ Some n) × (rest ≡ more)
number_found most n text rest more None small out le ends is = absurd (out.1 n more le (subst (λ (t : List ℕ). BeginsWithNumber t n more) (sym is) (begins n more (omega (arith, le, small)) ends)))
number_found most n text rest more (Some m) small out le ends is =
    let same = one_front text m n rest more out.1 (subst (λ (t : List ℕ). BeginsWithNumber t n more) (sym is) (begins n more (omega (arith, le, small)) ends)) in
    (ap Some same.0, same.1)
