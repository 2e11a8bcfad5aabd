-- The number that digits spell, and the one that a text begins with.
use Rattle.std.proofs.lemmas.Grind.{common_steps}
use Rattle.std.proofs.Common.{◌≡◌, ℕ, ◌^◌, ◌<◌, ◌≤◌, ◌+◌, ◌-◌, ◌*◌, ◌%◌, eqb, ltb, leb, List, [], ◌∷◌, ◌++◌, length, get_or, take, drop, sym, ap, ◌∙◌, arith, inl, inr, IsTrue, ◌↔◌}
use Rattle.std.specs.Prelude.{decimal}
use Rattle.std.proofs.lemmas.Fmt.{decimal_is_IsNumeral, decimal-digits_value, length-decimal-le, first_decimal, decimal_nonempty, decimal_digit}
use Rattle.std.proofs.lemmas.Str.Parse.{IsNumeralModel, numerals_by_value, tells_digits, digit_at, digit_from_value, digits_value_short}
use Rattle.std.proofs.lemmas.Int.Digits.{digits_value-lt}
use Rattle.std.proofs.lemmas.Bool.{le-leb, leb-true, lt-ltb, ltb-true, eqb-true, eq-eqb, cases_lt}
use Rattle.std.proofs.lemmas.List.{get_or-take, length-take-le, take-append-drop, take_all, length-drop}
use Rattle.std.proofs.Math.Seq.{take-append_seam, drop-append_seam}
use Rattle.std.proofs.lemmas.List.Sums.{prefix_len-le-length}
use Rattle.core.proofs.dec2flt.DigitsLemmas.{digits_value_after_is, is_digit, ends_digits}
use Rattle.core.proofs.dec2flt.Rows.{AllDigits-digits_len}
use Rattle.std.specs.Float.Numeral.{digits_len}
use Rattle.std.specs.Str.Parse.{digits_value, AllDigits}
use Rattle.gc_text.specs.Fronts.{BeginsWithNumber}
use Rattle.gc_text.specs.Internal.Decimals.{IsDecimal}

pub decimals : IsNumeralModel (AllDigits 10) (digits_value 10)
decimals = numerals_by_value (AllDigits 10) tells_digits

value-decimal : (n : ℕ) → n < 2 ^ 64 → digits_value 10 (decimal n) ≡ n
value-decimal n small = (decimal_is_IsNumeral n small).1

pub decimal_are_digits : (n : ℕ) → n < 2 ^ 64 → AllDigits 10 (decimal n)
decimal_are_digits n small = (decimal_is_IsNumeral n small).0.1

-- ---- digits that are a decimal

long_decimal : (ds : List ℕ) → IsDecimal ds → length ds ≤ 20
long_decimal ds is = omega (arith, ap length is.spelled, length-decimal-le 20 (digits_value 10 ds) (omega arith) (omega (arith, is.small)) (omega arith))

no_zero_leads : (ds : List ℕ) → IsDecimal ds → get_or ds 0 0 ≡ 48 → length ds ≤ 1
no_zero_leads ds is leads = grind (arith, common_steps, decimal_digit, first_decimal)

spelled_by : (ds : List ℕ) → AllDigits 10 ds → 0 < length ds → (get_or ds 0 0 ≡ 48 → length ds ≡ 1) → digits_value 10 ds < 2 ^ 64 → IsDecimal ds
spelled_by ds digits some first small = record { small = small; spelled = sym (decimal-digits_value decimals ds digits some first small) }

-- the first digit of twenty
pub record IsFirstOfTwenty (ds : List ℕ) (tail : ℕ) : Type 0 where
  pub value_is : digits_value 10 ds ≡ (get_or ds 0 0 - 48) * 10000000000000000000 + tail
  pub below : tail < 10000000000000000000

first_of_twenty : (ds : List ℕ) → AllDigits 10 ds → length ds ≡ 20 → IsFirstOfTwenty ds (digits_value 10 (drop 1 ds))
first_of_twenty ds digits long = grind (arith, common_steps, digit_from_value, is_digit, digits_value_after_is, digits_value-lt)

-- the digits that a text begins with
pub record AreFirst (text : List ℕ) (count : ℕ) : Type 0 where
  pub digits : AllDigits 10 (take count text)
  pub long : length (take count text) ≡ count
  pub first : get_or (take count text) 0 0 ≡ get_or text 0 0
  pub range : (48 ≤ get_or text 0 0) × (get_or text 0 0 ≤ 57)

pub are_first : (text : List ℕ) (count : ℕ) → 0 < count → count ≡ digits_len text → AreFirst text count
are_first text count some is = grind (arith, common_steps, length-take-le, prefix_len-le-length, AllDigits-digits_len, get_or-take, digit_at)

short_is : (text : List ℕ) (count : ℕ) → 0 < count → count < 20 → (get_or text 0 0 ≡ 48 → count ≡ 1) → AreFirst text count → IsDecimal (take count text)
short_is text count some short leads are =
    spelled_by (take count text) are.digits (omega (arith, are.long, some)) (λ e. omega (arith, are.long, leads (sym are.first ∙ e)))
    (omega (arith, digits_value_short decimals (take count text) 19 are.digits (omega (arith, are.long, short))))

pub after_zero : (text : List ℕ) (count : ℕ) → 0 < count → get_or text 0 0 ≡ 48 → AreFirst text count → IsTrue (eqb count 1) ↔ IsDecimal (take count text)
after_zero text count some leads are = grind (arith, common_steps, eqb-true, short_is, eq-eqb, no_zero_leads)

-- twenty digits whose first is two or more spell too large a number
pub after_others : (text : List ℕ) (count : ℕ) → 0 < count → 50 ≤ get_or text 0 0 → AreFirst text count → IsTrue (ltb count 20) ↔ IsDecimal (take count text)
after_others text count some great are = (
  λ yes. short_is text count some (ltb-true count 20 yes) (λ leads. absurd (omega (arith, leads, great))) are,
  λ is. lt-ltb count 20 (elim (cases_lt count 20) [
    | inl lt ↦ lt
    | inr le ↦
        let ds = take count text in
        let value = first_of_twenty ds are.digits (omega (arith, le, are.long, long_decimal ds is)) in
        absurd (omega (arith, value.value_is, value.below, is.small, are.first, great))
  ]),
)

pub short_after_one : (text : List ℕ) (count : ℕ) → 0 < count → get_or text 0 0 ≡ 49 → count < 20 → AreFirst text count → IsTrue (ltb count 20) ↔ IsDecimal (take count text)
short_after_one text count some one lt are = (λ _. short_is text count some lt (λ leads. absurd (omega (arith, leads, one))) are, λ _. lt-ltb count 20 lt)

-- if twenty digits that begin with one spell too large a number, it wraps round to a small one
pub twenty_after_one : (text : List ℕ) (count wrapped : ℕ) → get_or text 0 0 ≡ 49 → count ≡ 20 → wrapped ≡ digits_value 10 (take count text) % 2 ^ 64 → AreFirst text count
    → IsTrue (leb 10000000000000000000 wrapped) ↔ IsDecimal (take count text)
twenty_after_one text count wrapped one twenty is are = grind (arith, common_steps, first_of_twenty, spelled_by, leb-true, le-leb)

pub long_after_one : (text : List ℕ) (count : ℕ) → ¬ (count < 20) → ¬ (count ≡ 20) → AreFirst text count → IsTrue (eqb count 20) ↔ IsDecimal (take count text)
long_after_one text count more other are = grind (arith, common_steps, eqb-true, long_decimal)

-- ---- the number that a text begins with

digits_len-front : (ds rest : List ℕ) → AllDigits 10 ds → digits_len rest ≡ 0 → digits_len (ds ++ rest) ≡ length ds
digits_len-front [] rest digits none = none
digits_len-front (d ∷ ds) rest digits none = grind (arith, common_steps, digit_from_value, is_digit, digits_len-front ds rest digits.1 none)

pub front_is : (text : List ℕ) (end value : ℕ) → end ≡ 0 + digits_len text → value ≡ (0 * 10 ^ (end - 0) + digits_value 10 (take (end - 0) text)) % 2 ^ 64 → IsDecimal (take end text) → BeginsWithNumber text value (take (length text - end) (drop end text))
front_is text end value len is fits =
    let all : end - 0 ≡ end = omega arith in
    let same : value ≡ digits_value 10 (take end text) = omega (arith, rw all at is, fits.small) in
    rw (take_all (length text - end) (drop end text) (omega (arith, length-drop end text))) (record {
      small = omega (arith, same, fits.small);
      parts = sym (take-append-drop end text) ∙ ap (λ (ds : List ℕ). ds ++ drop end text) (fits.spelled ∙ ap decimal (sym same));
      whole = ap (λ (n : ℕ). digits_len (drop n text)) (omega (arith, len)) ∙ ends_digits text;
    })

pub front_none : (text : List ℕ) (end : ℕ) → end ≡ 0 + digits_len text → (0 < end → ¬ IsDecimal (take end text)) → (n : ℕ) (rest : List ℕ) → ¬ BeginsWithNumber text n rest
front_none text end len never n rest begins = grind (arith, common_steps, digits_len-front, decimal_are_digits, take-append_seam, value-decimal, decimal_nonempty)

pub one_front : (text : List ℕ) (m n : ℕ) (rest more : List ℕ) → BeginsWithNumber text m rest → BeginsWithNumber text n more → (m ≡ n) × (rest ≡ more)
one_front text m n rest more p q =
    let len-m : digits_len text ≡ length (decimal m) = ap digits_len p.parts ∙ digits_len-front (decimal m) rest (decimal_are_digits m p.small) p.whole in
    let len-n : digits_len text ≡ length (decimal n) = ap digits_len q.parts ∙ digits_len-front (decimal n) more (decimal_are_digits n q.small) q.whole in
    let take-m : take (digits_len text) text ≡ decimal m = rw len-m (ap (λ (t : List ℕ). take (length (decimal m)) t) p.parts ∙ take-append_seam (decimal m) rest) in
    let take-n : take (digits_len text) text ≡ decimal n = rw len-n (ap (λ (t : List ℕ). take (length (decimal n)) t) q.parts ∙ take-append_seam (decimal n) more) in
    let drop-m : drop (digits_len text) text ≡ rest = rw len-m (ap (λ (t : List ℕ). drop (length (decimal m)) t) p.parts ∙ drop-append_seam (decimal m) rest) in
    let drop-n : drop (digits_len text) text ≡ more = rw len-n (ap (λ (t : List ℕ). drop (length (decimal n)) t) q.parts ∙ drop-append_seam (decimal n) more) in
    (sym (value-decimal m p.small) ∙ ap (digits_value 10) (sym take-m ∙ take-n) ∙ value-decimal n q.small, sym drop-m ∙ drop-n)
