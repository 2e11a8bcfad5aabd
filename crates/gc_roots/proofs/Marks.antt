-- Marks as bits: one more, one less, and the words that have them.
use Rattle.std.proofs.Common.{◌≡◌, ◌≢◌, ℕ, ◌+◌, ◌*◌, ◌/◌, ◌%◌, ◌^◌, ◌<◌, ◌≤◌, true, false, ◌==◌, List, length, set, ◌∙◌, ap, subst, sym, inl, inr, arith, w64, bit_and, bit_or, get_or-set_same, get_or-set_other}
use Rattle.std.specs.Prelude.{slice_index}
use Rattle.std.specs.Int.{bit_at, bit_not}
use Rattle.std.proofs.lemmas.Bool.{eq-eqb, eqb-true, cases_eq}
use Rattle.std.proofs.lemmas.Nat.Bits.{bit_at-zero, bit_at_set_same, bit_at_set_other, bit_at_clear_same, bit_at_clear_other}
use Rattle.gc_words.specs.Marks.{is_marked}

-- ---- one more

-- the bits with the mark of a place
abbrev pub with_mark : List ℕ → ℕ → List ℕ
with_mark bits place = set bits (place / 64) (bit_or (slice_index bits (place / 64)) (1 * 2 ^ (place % 64) % 18446744073709551616))

pub mark_is_set : (bits : List ℕ) (place : ℕ) → place / 64 < length bits → is_marked (with_mark bits place) place ≡ true
unfolding is_marked
mark_is_set bits place inside =
    ap (λ word. bit_at word (place % 64) == 1) (get_or-set_same bits (place / 64) _ 0 inside)
    ∙ eq-eqb _ 1 (bit_at_set_same w64 (slice_index bits (place / 64)) (place % 64) (omega arith))

pub marks_stay_beside : (bits : List ℕ) (place other : ℕ) → place / 64 < length bits → other ≢ place → is_marked (with_mark bits place) other ≡ is_marked bits other
unfolding is_marked
marks_stay_beside bits place other inside differs =
    elim (cases_eq (place / 64) (other / 64)) [
      | inl same ↦ (let bit : other % 64 ≢ place % 64 = λ e. differs (omega arith) in
          subst (λ k. (bit_at (slice_index (with_mark bits place) k) (other % 64) == 1) ≡ (bit_at (slice_index bits k) (other % 64) == 1)) same
          (ap (λ word. bit_at word (other % 64) == 1) (get_or-set_same bits (place / 64) _ 0 inside)
          ∙ ap (λ b. b == 1) (bit_at_set_other w64 (slice_index bits (place / 64)) (place % 64) (omega arith) (other % 64) bit)))
      | inr beside ↦ ap (λ word. bit_at word (other % 64) == 1) (get_or-set_other bits (place / 64) (other / 64) _ 0 (λ e. beside (sym e)))
    ]

-- ---- one less

-- the bits without the mark of a place
abbrev pub without_mark : List ℕ → ℕ → List ℕ
without_mark bits place = set bits (place / 64) (bit_and (slice_index bits (place / 64)) (bit_not w64 (1 * 2 ^ (place % 64) % 18446744073709551616)))

pub mark_is_gone : (bits : List ℕ) (place : ℕ) → place / 64 < length bits → is_marked (without_mark bits place) place ≡ false
unfolding is_marked
mark_is_gone bits place inside =
    ap (λ word. bit_at word (place % 64) == 1) (get_or-set_same bits (place / 64) _ 0 inside)
    ∙ ap (λ b. b == 1) (bit_at_clear_same w64 (slice_index bits (place / 64)) (place % 64) (omega arith))

pub other_marks_stay : (bits : List ℕ) (place other : ℕ) → place / 64 < length bits → other ≢ place → is_marked (without_mark bits place) other ≡ is_marked bits other
unfolding is_marked
other_marks_stay bits place other inside differs =
    elim (cases_eq (place / 64) (other / 64)) [
      | inl same ↦ (let bit : other % 64 ≢ place % 64 = λ e. differs (omega arith) in
          subst (λ k. (bit_at (slice_index (without_mark bits place) k) (other % 64) == 1) ≡ (bit_at (slice_index bits k) (other % 64) == 1)) same
          (ap (λ word. bit_at word (other % 64) == 1) (get_or-set_same bits (place / 64) _ 0 inside)
          ∙ ap (λ b. b == 1) (bit_at_clear_other w64 (slice_index bits (place / 64)) (place % 64) (omega arith) (other % 64) (omega arith) bit)))
      | inr beside ↦ ap (λ word. bit_at word (other % 64) == 1) (get_or-set_other bits (place / 64) (other / 64) _ 0 (λ e. beside (sym e)))
    ]

-- ---- words

-- a word with a mark is not 0
pub word_of_mark : (bits : List ℕ) (place : ℕ) → is_marked bits place ≡ true → 1 ≤ slice_index bits (place / 64)
unfolding is_marked
word_of_mark bits place m =
    elim (cases_eq (slice_index bits (place / 64)) 0) [
      | inl zero ↦ (let one : bit_at (slice_index bits (place / 64)) (place % 64) ≡ 1 = eqb-true _ 1 m in
          let none : bit_at (slice_index bits (place / 64)) (place % 64) ≡ 0 = ap (λ w. bit_at w (place % 64)) zero ∙ bit_at-zero (place % 64) in
          absurd (omega (arith, one, none)))
      | inr some ↦ omega (arith, some)
    ]

-- a word of zeros has no mark
pub none_in_zero : (bits : List ℕ) (place : ℕ) → slice_index bits (place / 64) ≡ 0 → is_marked bits place ≡ false
unfolding is_marked
none_in_zero bits place zero = ap (λ word. bit_at word (place % 64) == 1) zero ∙ ap (λ b. b == 1) (bit_at-zero (place % 64))

-- the mark of a place is a bit
pub mark_of_bit : (bits : List ℕ) (word bit place : ℕ) → place ≡ 64 * word + bit → bit < 64 → bit_at (slice_index bits word) bit ≡ 1 → is_marked bits place ≡ true
unfolding is_marked
mark_of_bit bits word bit place is less one =
    let at : place / 64 ≡ word = omega arith in
    let low : place % 64 ≡ bit = omega arith in
    eq-eqb _ 1 (ap (λ k. bit_at (slice_index bits k) (place % 64)) at ∙ ap (bit_at (slice_index bits word)) low ∙ one)

no_mark_of_bit : (bits : List ℕ) (word bit place : ℕ) → place ≡ 64 * word + bit → bit < 64 → bit_at (slice_index bits word) bit ≡ 0 → is_marked bits place ≡ false
unfolding is_marked
no_mark_of_bit bits word bit place is less zero =
    let at : place / 64 ≡ word = omega arith in
    let low : place % 64 ≡ bit = omega arith in
    ap (λ b. b == 1) (ap (λ k. bit_at (slice_index bits k) (place % 64)) at ∙ ap (bit_at (slice_index bits word)) low ∙ zero)

pub no_mark_in : (bits : List ℕ) (word low place : ℕ) → place / 64 ≡ word → place < 64 * word + low → ((i : ℕ) → i < low → bit_at (slice_index bits word) i ≡ 0) → is_marked bits place ≡ false
no_mark_in bits word low place at less zeros = no_mark_of_bit bits word (place % 64) place (omega (arith, at)) (omega arith) (zeros (place % 64) (omega (arith, at, less)))
