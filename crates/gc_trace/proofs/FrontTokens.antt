-- Tokens that are found at the front of a text.
use Rattle.std.proofs.lemmas.Grind.{common_steps}
use Rattle.std.proofs.Common.{Bool, cond, ◌≢◌, true, false, ltb, ◌≡◌, ◌⊎◌, inl, inr, ℕ, ◌+◌, ◌<◌, ◌≤◌, List, [], ◌∷◌, ◌++◌, refl, Option, Some, get_or, drop, ◌-◌, arith, ap}
use Rattle.std.proofs.lemmas.Bool.{ltb-true, ltb-false}
use Rattle.std.proofs.lemmas.Option.{same_Some}
use Rattle.std.specs.Prelude.{SomeIff}
use Rattle.std.specs.Fmt.{decimal}
use Rattle.gc_graph.specs.Limits.{slots_each}
use Rattle.gc_graph.specs.Range.{IsSlot}
use Rattle.gc_graph.specs.Slots.{SlotName, own_slot, shared_slot}
use Rattle.gc_text.specs.Fronts.{EndsToken}
use Rattle.gc_trace.proofs.SmallNumbers.{one_digit, two_digits}

-- a number below 16 has one digit or two
pub small_decimal : (n : ℕ) → n < 16 → ((n < 10) × (decimal n ≡ (48 + n) ∷ [])) ⊎ ((10 ≤ n) × (decimal n ≡ 49 ∷ (38 + n) ∷ []))
small_decimal n small = ten (ltb n 10) refl
  where
    ten : (b : Bool) → ltb n 10 ≡ b → ((n < 10) × (decimal n ≡ (48 + n) ∷ [])) ⊎ ((10 ≤ n) × (decimal n ≡ 49 ∷ (38 + n) ∷ []))
    ten true e = let below = ltb-true n 10 e in inl (below, one_digit (48 + n) n (omega arith) (omega arith) (omega arith))
    ten false e = let above = ltb-false n 10 e in inr (above, two_digits 49 (38 + n) n (omega arith) (omega arith) (omega arith) (omega arith) (omega arith))

abbrev both : ℕ → ℕ → Option (ℕ × ℕ)
both n k = Some (n, k)

same_both : (a c d e : ℕ) → both a c ≡ both d e → (a ≡ d) × (c ≡ e)
same_both a c d e same = let parts : ◌≡◌ {A = ℕ × ℕ} (a, c) (d, e) = same_Some (a, c) (d, e) same in (ap (λ (p : ℕ × ℕ). p.0) parts, ap (λ (p : ℕ × ℕ). p.1) parts)

-- a small number is found, and what follows it
pub record SmallFound (n m k : ℕ) (rest more : List ℕ) : Type 0 where
  pub value : m ≡ n
  pub after_one : (p : ℕ) → drop (1 + k) (p ∷ rest) ≡ more
  pub after_two : (p q : ℕ) → drop (2 + k) (p ∷ q ∷ rest) ≡ more

small_at : (rest more : List ℕ) (n m k l : ℕ) → m ≡ n → k ≡ l → drop l rest ≡ more → (l ≡ 1) ⊎ (l ≡ 2) → SmallFound n m k rest more
small_at rest more n m k l value is cut (inl one) = record { value = value; after_one = λ p. rw (is, one) (rw one at cut); after_two = λ p q. rw (is, one) (rw one at cut) }
small_at rest more n m k l value is cut (inr two) = record { value = value; after_one = λ p. rw (is, two) (rw two at cut); after_two = λ p q. rw (is, two) (rw two at cut) }

-- what was taken for a small number is that number, if its digits come first and then no other
pub small_found : (more : List ℕ) (n m k : ℕ) → (48 ≤ get_or (decimal n ++ more) 0 0 → get_or (decimal n ++ more) 0 0 ≤ 57 → get_or (decimal n ++ more) 1 0 < 48 → both m k ≡ both (get_or (decimal n ++ more) 0 0 - 48) 1)
    → (get_or (decimal n ++ more) 0 0 ≡ 49 → 48 ≤ get_or (decimal n ++ more) 1 0 → get_or (decimal n ++ more) 1 0 ≤ 53 → both m k ≡ both (get_or (decimal n ++ more) 1 0 - 38) 2) → n < 16 → EndsToken more → SmallFound n m k (decimal n ++ more) more
small_found [] n m k one two small apart = absurd apart
small_found (b ∷ more) n m k one two small apart =
    elim (small_decimal n small) [
      | inl w ↦ let f = same_both m k (48 + n - 48) 1 ((rw w.1 at one) (omega arith) (omega arith) apart) in rw w.1 (small_at ((48 + n) ∷ b ∷ more) (b ∷ more) n m k 1 (omega (arith, f.0)) (f.1) refl (inl refl))
      | inr w ↦ let f = same_both m k (38 + n - 38) 2 ((rw w.1 at two) refl (omega arith) (omega (arith, small))) in rw w.1 (small_at (49 ∷ (38 + n) ∷ b ∷ more) (b ∷ more) n m k 2 (omega (arith, f.0)) (f.1) refl (inr refl))
    ]

abbrev letter_of : SlotName → ℕ
letter_of s = cond s.shared 103 114

-- the slot of this letter and this number is found
pub shared_found : (s : SlotName) (m : ℕ) (found : Option SlotName) → IsSlot s → m ≡ s.index → letter_of s ≡ 103 → SomeIff found (m < slots_each) (shared_slot m) → found ≡ Some s
shared_found s m found fits is letter found_if = grind (arith, common_steps)

pub own_found : (s : SlotName) (m : ℕ) (found : Option SlotName) → IsSlot s → m ≡ s.index → letter_of s ≢ 103 → SomeIff found (m < slots_each) (own_slot m) → found ≡ Some s
own_found s m found fits is letter found_if = grind (arith, common_steps)
