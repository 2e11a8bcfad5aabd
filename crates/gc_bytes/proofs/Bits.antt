-- Bits of numbers, rows of bits in fields, and lists that are written over others.
use Rattle.std.proofs.Common.{◌≡◌, inl, inr, ℕ, zero, suc, ◌+◌, ◌-◌, ◌*◌, ◌/◌, ◌%◌, ◌^◌, ◌<◌, ◌≤◌, List, [], ◌∷◌, ◌++◌, length, get_or, take, drop, refl, ap, sym, ◌∙◌, subst, arith, lit<}
use Rattle.std.specs.Int.{bit_at}
use Rattle.std.specs.List.{flat_map}
use Rattle.std.proofs.Math.Nat.{pow-suc}
use Rattle.std.proofs.lemmas.Bool.{cases_lt}
use Rattle.std.proofs.lemmas.List.{get_or-append_right, get_or-drop, get_or-take, get_or_append_left, get_or_past, length-append, length-drop, length-take, length-take-le}
use Rattle.std.proofs.lemmas.List.FromFn.{get_or-map-range_with_len, length-map-range_with_len}
use Rattle.std.proofs.lemmas.Nat.{mod_below, mul-add-lt, pow-add, pow_pos, shr_below, shr_split}
use Rattle.std.proofs.lemmas.Nat.Bits.{bit_at-lt, bit_at-suc, bit_at-zero, bit_at_cat_high, bit_at_cat_low, bit_at_lowest, same_from_bits_below}
use Rattle.gc_bytes.specs.Text.{overwritten}
use Rattle.gc_bytes.specs.Vector.{bits_number, bits_of, fields_of_bits, tops_for}

-- ---- lists that are written over others

pub length-over : (xs es : List ℕ) (at : ℕ) → at + length es ≤ length xs → length (overwritten xs at es) ≡ length xs
length-over xs es at within =
    let front = length-take-le at xs (omega arith) in
    let a = length-append (take at xs) es in
    let b = length-append (take at xs ++ es) (drop (at + length es) xs) in
    let d = length-drop (at + length es) xs in
    omega arith

pub over_inside : (xs es : List ℕ) (at i : ℕ) → at + length es ≤ length xs → at ≤ i → i < at + length es → get_or (overwritten xs at es) i 0 ≡ get_or es (i - at) 0
over_inside xs es at i within past less =
    let front = length-take-le at xs (omega arith) in
    let a = length-append (take at xs) es in
    get_or_append_left (take at xs ++ es) (drop (at + length es) xs) 0 i (omega arith) ∙ get_or-append_right (take at xs) es at i 0 front past

pub over_before : (xs es : List ℕ) (at i : ℕ) → at + length es ≤ length xs → i < at → get_or (overwritten xs at es) i 0 ≡ get_or xs i 0
over_before xs es at i within less =
    let front = length-take-le at xs (omega arith) in
    let a = length-append (take at xs) es in
    get_or_append_left (take at xs ++ es) (drop (at + length es) xs) 0 i (omega arith) ∙ get_or_append_left (take at xs) es 0 i (omega arith) ∙ get_or-take at xs i 0 less

pub over_behind : (xs es : List ℕ) (at i : ℕ) → at + length es ≤ length xs → at + length es ≤ i → get_or (overwritten xs at es) i 0 ≡ get_or xs i 0
over_behind xs es at i within past =
    let front = length-take-le at xs (omega arith) in
    let a = length-append (take at xs) es in
    get_or-append_right (take at xs ++ es) (drop (at + length es) xs) (at + length es) i 0 (omega arith) past
    ∙ get_or-drop (at + length es) xs (i - (at + length es)) 0
    ∙ ap (λ k. get_or xs k 0) (let e : at + length es + (i - (at + length es)) ≡ i = omega arith in e)

-- ---- lists of bits

-- each of these is 0 or 1
abbrev pub AreBits : List ℕ → Type 0
AreBits bits = (k : ℕ) → get_or bits k 0 < 2

part_bits : (bits : List ℕ) (m n : ℕ) → AreBits bits → AreBits (take m (drop n bits))
part_bits bits m n all = λ k. elim (cases_lt k m) [
  | inl less ↦ subst (λ b. b < 2) (sym (get_or-take m (drop n bits) k 0 less ∙ get_or-drop n bits k 0)) (all (n + k))
  | inr past ↦ let few = length-take m (drop n bits) in subst (λ b. b < 2) (sym (get_or_past (take m (drop n bits)) k 0 (omega arith))) (lit< tt)
]

pub over_bits : (xs es : List ℕ) (at : ℕ) → at + length es ≤ length xs → AreBits xs → AreBits es → AreBits (overwritten xs at es)
over_bits xs es at within all others = λ k. elim (cases_lt k at) [
  | inl less ↦ subst (λ b. b < 2) (sym (over_before xs es at k within less)) (all k)
  | inr past ↦ elim (cases_lt k (at + length es)) [
    | inl less ↦ subst (λ b. b < 2) (sym (over_inside xs es at k within past less)) (others (k - at))
    | inr behind ↦ subst (λ b. b < 2) (sym (over_behind xs es at k within behind)) (all k)
  ]
]

bit_of_number : (bits : List ℕ) (i : ℕ) → AreBits bits → bit_at (bits_number bits) i ≡ get_or bits i 0
unfolding bits_number
bit_of_number [] i all = bit_at-zero i
bit_of_number (b ∷ rest) zero all = let small = all 0 in bit_at_lowest (b + 2 * bits_number rest) ∙ (let e : (b + 2 * bits_number rest) % 2 ≡ b = omega arith in e)
bit_of_number (b ∷ rest) (suc i) all =
    let small = all 0 in
    bit_at-suc (b + 2 * bits_number rest) i
    ∙ ap (λ x. bit_at x i) (let e : (b + 2 * bits_number rest) / 2 ≡ bits_number rest = omega arith in e)
    ∙ bit_of_number rest i (λ k. all (suc k))

pub bits_small : (bits : List ℕ) → AreBits bits → bits_number bits < 2 ^ length bits
unfolding bits_number
bits_small [] all = lit< tt
bits_small (b ∷ rest) all =
    let small = all 0 in
    let rec : bits_number rest < 2 ^ length rest = bits_small rest (λ k. all (suc k)) in
    let e : 2 ^ suc (length rest) ≡ 2 ^ length rest * 2 = pow-suc 2 (length rest) in
    omega arith

-- ---- the bits of fields

pub length-bits : (field : ℕ) → length (bits_of field) ≡ 63
unfolding bits_of
length-bits field = length-map-range_with_len (bit_at field) 0 63

pub bit_of : (field i : ℕ) → i < 63 → get_or (bits_of field) i 0 ≡ bit_at field i
unfolding bits_of
bit_of field i less = get_or-map-range_with_len (bit_at field) 0 63 i i 0 less (omega arith)

field_bits : (field : ℕ) → AreBits (bits_of field)
field_bits field = λ k. elim (cases_lt k 63) [
  | inl less ↦ subst (λ b. b < 2) (sym (bit_of field k less)) (bit_at-lt field k)
  | inr past ↦ let n = length-bits field in subst (λ b. b < 2) (sym (get_or_past (bits_of field) k 0 (omega arith))) (lit< tt)
]

pub bit_in : (fields : List ℕ) (i : ℕ) → get_or (flat_map bits_of fields) i 0 ≡ bit_at (get_or fields (i / 63) 0) (i % 63)
bit_in [] i = sym (bit_at-zero (i % 63))
bit_in (f ∷ rest) i = elim (cases_lt i 63) [
  | inl less ↦
      let n = length-bits f in
      get_or_append_left (bits_of f) (flat_map bits_of rest) 0 i (omega arith)
      ∙ bit_of f i less
      ∙ ap (λ k. bit_at (get_or (f ∷ rest) k 0) i) (let e : 0 ≡ i / 63 = omega arith in e)
      ∙ ap (bit_at (get_or (f ∷ rest) (i / 63) 0)) (let e : i ≡ i % 63 = omega arith in e)
  | inr more ↦
      get_or-append_right (bits_of f) (flat_map bits_of rest) 63 i 0 (length-bits f) more
      ∙ bit_in rest (i - 63)
      ∙ ap (λ k. bit_at (get_or (f ∷ rest) k 0) ((i - 63) % 63)) (let e : suc ((i - 63) / 63) ≡ i / 63 = omega arith in e)
      ∙ ap (bit_at (get_or (f ∷ rest) (i / 63) 0)) (let e : (i - 63) % 63 ≡ i % 63 = omega arith in e)
]

pub length-bits_in : (fields : List ℕ) → length (flat_map bits_of fields) ≡ 63 * length fields
length-bits_in [] = refl
length-bits_in (f ∷ rest) = let a = length-append (bits_of f) (flat_map bits_of rest) in let n = length-bits f in let rec = length-bits_in rest in omega arith

-- ---- the fields of bits

pub length-fields_of_bits : (bits : List ℕ) → length (fields_of_bits bits) ≡ tops_for (length bits)
unfolding fields_of_bits
length-fields_of_bits bits = length-map-range_with_len (λ j. bits_number (take 63 (drop (63 * j) bits))) 0 (tops_for (length bits))

pub field_at : (bits : List ℕ) (j : ℕ) → j < tops_for (length bits) → get_or (fields_of_bits bits) j 0 ≡ bits_number (take 63 (drop (63 * j) bits))
unfolding fields_of_bits
field_at bits j less = get_or-map-range_with_len (λ j. bits_number (take 63 (drop (63 * j) bits))) 0 (tops_for (length bits)) j j 0 less (omega arith)

pub bit_again : (bits : List ℕ) (i : ℕ) → i < length bits → AreBits bits → bit_at (get_or (fields_of_bits bits) (i / 63) 0) (i % 63) ≡ get_or bits i 0
bit_again bits i less all =
    let part = drop (63 * (i / 63)) bits in
    ap (λ x. bit_at x (i % 63)) (field_at bits (i / 63) (omega arith))
    ∙ bit_of_number (take 63 part) (i % 63) (part_bits bits 63 (63 * (i / 63)) all)
    ∙ get_or-take 63 part (i % 63) 0 (omega arith)
    ∙ get_or-drop (63 * (i / 63)) bits (i % 63) 0
    ∙ ap (λ k. get_or bits k 0) (let e : 63 * (i / 63) + i % 63 ≡ i = omega arith in e)

-- ---- a field with some other bits

pub bit_low : (x k i : ℕ) → i < k → bit_at (x % 2 ^ k) i ≡ bit_at x i
bit_low x k i less =
    sym (bit_at_cat_low (x / 2 ^ k) k (x % 2 ^ k) i less)
    ∙ ap (λ y. bit_at y i) (let parts = shr_split x k in let e : x / 2 ^ k * 2 ^ k + x % 2 ^ k ≡ x = omega arith in e)

bit_high : (x k i : ℕ) → k ≤ i → bit_at x i ≡ bit_at (x / 2 ^ k) (i - k)
bit_high x k i past =
    ap (λ y. bit_at y i) (let parts = shr_split x k in let e : x ≡ x / 2 ^ k * 2 ^ k + x % 2 ^ k = omega arith in e)
    ∙ bit_at_cat_high (x / 2 ^ k) k (x % 2 ^ k) i (mod_below x (2 ^ k) (pow_pos k)) past

module _ (x at : ℕ) (bits : List ℕ) (within : at + length bits ≤ 63) (few : x < 2 ^ 63) (all : AreBits bits) where
  abbrev pub m : ℕ
  m = length bits

  abbrev pub number : ℕ
  number = bits_number bits

  -- the bits above, and those that are written
  abbrev pub high : ℕ
  high = x / 2 ^ (at + m) * 2 ^ m + number

  abbrev pub patched : ℕ
  patched = high * 2 ^ at + x % 2 ^ at

  low_less : x % 2 ^ at < 2 ^ at
  low_less = mod_below x (2 ^ at) (pow_pos at)

  pub patched_small : patched < 2 ^ 63
  patched_small =
      let k = 63 - (at + m) in
      let above : x / 2 ^ (at + m) < 2 ^ k = shr_below x k (at + m) (subst (λ n. x < 2 ^ n) (let e : 63 ≡ k + (at + m) = omega arith in e) few) in
      let one : high < 2 ^ m * 2 ^ k = mul-add-lt (x / 2 ^ (at + m)) (2 ^ m) number (2 ^ k) above (bits_small bits all) in
      let two : patched < 2 ^ at * (2 ^ m * 2 ^ k) = mul-add-lt high (2 ^ at) (x % 2 ^ at) (2 ^ m * 2 ^ k) one low_less in
      let power : 2 ^ 63 ≡ 2 ^ at * (2 ^ m * 2 ^ k) = ap (λ n. 2 ^ n) (let e : 63 ≡ at + (m + k) = omega arith in e) ∙ pow-add 2 at (m + k) ∙ ap (λ p. 2 ^ at * p) (pow-add 2 m k) in
      subst (λ n. patched < n) (sym power) two

  abbrev pub new : List ℕ
  new = overwritten (bits_of x) at bits

  inside : at + m ≤ length (bits_of x)
  inside = let n = length-bits x in omega arith

  bit_is : (i : ℕ) → i < 63 → bit_at patched i ≡ get_or new i 0
  bit_is i less = elim (cases_lt i at) [
    | inl low ↦ bit_at_cat_low high at (x % 2 ^ at) i low ∙ bit_low x at i low ∙ sym (bit_of x i less) ∙ sym (over_before (bits_of x) bits at i inside low)
    | inr past ↦ bit_at_cat_high high at (x % 2 ^ at) i low_less past ∙ elim (cases_lt i (at + m)) [
      | inl in_it ↦
          bit_at_cat_low (x / 2 ^ (at + m)) m number (i - at) (omega arith)
          ∙ bit_of_number bits (i - at) all
          ∙ sym (over_inside (bits_of x) bits at i inside past in_it)
      | inr behind ↦
          bit_at_cat_high (x / 2 ^ (at + m)) m number (i - at) (bits_small bits all) (omega arith)
          ∙ ap (bit_at (x / 2 ^ (at + m))) (let e : i - at - m ≡ i - (at + m) = omega arith in e)
          ∙ sym (bit_high x (at + m) i behind)
          ∙ sym (bit_of x i less)
          ∙ sym (over_behind (bits_of x) bits at i inside behind)
    ]
  ]

  pub patched_is : patched ≡ bits_number new
  patched_is =
      let bits : AreBits new = over_bits (bits_of x) bits at inside (field_bits x) all in
      let n : length new ≡ 63 = length-over (bits_of x) _ at inside ∙ length-bits x in
      same_from_bits_below 63 patched (bits_number new) patched_small (subst (λ k. bits_number new < 2 ^ k) n (bits_small new bits)) (λ i less. bit_is i less ∙ sym (bit_of_number new i bits))
