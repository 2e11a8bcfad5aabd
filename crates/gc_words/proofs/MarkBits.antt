-- Marks as bits: none among zeros, and one more.
use Rattle.std.proofs.Common.{◌≡◌, ◌≢◌, ℕ, ◌*◌, ◌/◌, ◌%◌, ◌^◌, ◌<◌, true, false, ◌==◌, List, length, set, get_or, ◌∙◌, ap, subst, sym, inl, inr, arith, w64, bit_and, bit_or, get_or-set_same, get_or-set_other}
use Rattle.std.specs.Prelude.{slice_index}
use Rattle.std.specs.Int.{bit_at}
use Rattle.std.proofs.lemmas.Bool.{eq-eqb, cases_eq}
use Rattle.std.proofs.lemmas.Nat.Bits.{shr_and_one, bit_at-zero, bit_at_set_same, bit_at_set_other}
use Rattle.gc_words.specs.Marks.{is_marked}

pub marked_is : (bits : List ℕ) (place : ℕ) → (bit_and (slice_index bits (place / 64) / 2 ^ (place % 64)) 1 == 1) ≡ is_marked bits place
unfolding is_marked
marked_is bits place = ap (λ b. b == 1) (shr_and_one (slice_index bits (place / 64)) (place % 64))

-- the bits with the mark of a place
abbrev with_mark : List ℕ → ℕ → List ℕ
with_mark bits place = set bits (place / 64) (bit_or (slice_index bits (place / 64)) (1 * 2 ^ (place % 64) % 18446744073709551616))

pub mark_is_set : (bits : List ℕ) (place : ℕ) → place / 64 < length bits → is_marked (with_mark bits place) place ≡ true
unfolding is_marked
mark_is_set bits place inside =
    ap (λ word. bit_at word (place % 64) == 1) (get_or-set_same bits (place / 64) _ 0 inside)
    ∙ eq-eqb _ 1 (bit_at_set_same w64 (slice_index bits (place / 64)) (place % 64) (omega arith))

pub other_marks_stay : (bits : List ℕ) (place other : ℕ) → place / 64 < length bits → other ≢ place → is_marked (with_mark bits place) other ≡ is_marked bits other
unfolding is_marked
other_marks_stay bits place other inside differs =
    elim (cases_eq (place / 64) (other / 64)) [
      | inl same ↦ (let bit : other % 64 ≢ place % 64 = λ e. differs (omega arith) in
          subst (λ k. (bit_at (slice_index (with_mark bits place) k) (other % 64) == 1) ≡ (bit_at (slice_index bits k) (other % 64) == 1)) same
          (ap (λ word. bit_at word (other % 64) == 1) (get_or-set_same bits (place / 64) _ 0 inside)
          ∙ ap (λ b. b == 1) (bit_at_set_other w64 (slice_index bits (place / 64)) (place % 64) (omega arith) (other % 64) bit)))
      | inr beside ↦ ap (λ word. bit_at word (other % 64) == 1) (get_or-set_other bits (place / 64) (other / 64) _ 0 (λ e. beside (sym e)))
    ]

pub no_mark : (bits : List ℕ) (place : ℕ) → ((i : ℕ) → get_or bits i 0 ≡ 0) → is_marked bits place ≡ false
unfolding is_marked
no_mark bits place none = ap (λ word. bit_at word (place % 64) == 1) (none (place / 64)) ∙ ap (λ b. b == 1) (bit_at-zero (place % 64))
