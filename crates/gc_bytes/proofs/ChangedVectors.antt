-- Fields with top bits that change where words are written over some of a vector's own.
use Rattle.std.proofs.Common.{◌≡◌, ◌⊎◌, inl, inr, ℕ, zero, suc, ◌+◌, ◌-◌, ◌*◌, ◌/◌, ◌%◌, ◌^◌, ◌<◌, ◌≤◌, List, ◌∷◌, length, min, get_or, map, take, drop, refl, ap, sym, ◌∙◌, subst, arith, lit<}
use Rattle.std.specs.Int.{bit_at}
use Rattle.std.specs.Prelude.{Bool, if◌then◌else◌}
use Rattle.std.proofs.Math.Nat.{pow-le-pow_right}
use Rattle.std.proofs.lemmas.Nat.{pow-add, shr_split}
use Rattle.std.proofs.lemmas.Bool.{cases_lt, eq-eqb, ne_eqb}
use Rattle.std.proofs.lemmas.List.{drop_more, ext_get_or, get_or-drop, get_or-take, length-drop, length-map, length-take, take_min}
use Rattle.std.proofs.lemmas.List.FromFn.{get_or-map-range_with_len, length-map-range_with_len}
use Rattle.gc_bytes.specs.Text.{overwritten}
use Rattle.gc_bytes.specs.ChangedTops.{changed_top, changed_tops_in, patched_top}
use Rattle.gc_bytes.specs.Vector.{bits_number, bits_of, changed_tops, top_bit, tops_for, tops_of, words_in}
use Rattle.gc_bytes.proofs.Bits.{AreBits, bits_small, patched, patched_small, bit_low, bit_of, length-bits, length-over, over_before, over_behind, over_inside}
use Rattle.gc_bytes.proofs.Vectors.{bits_within, length-new_bits, length-slice, slice_at, some_tops, top_at, top_in, tops_from_index}

-- ---- one field

-- a word more
pub tops_more : (words : List ℕ) (k : ℕ) → 0 < k → k ≤ length words → bits_number (map top_bit (drop k words)) * 2 + top_bit (get_or words (k - 1) 0) ≡ bits_number (map top_bit (drop (k - 1) words))
unfolding bits_number
tops_more words k some within =
    let w = get_or words (k - 1) 0 in
    let n = bits_number (map top_bit (drop k words)) in
    let is : drop (k - 1) words ≡ w ∷ drop k words = drop_more words (k - 1) 0 (omega arith) ∙ ap (λ j. w ∷ drop j words) (let next : k - 1 + 1 ≡ k = omega arith in next) in
    (let e : n * 2 + top_bit w ≡ top_bit w + 2 * n = omega arith in e) ∙ ap (λ ws. bits_number (map top_bit ws)) (sym is)

power_grows : (m n : ℕ) → m ≤ n → 2 ^ m ≤ 2 ^ n
power_grows m n grows = pow-le-pow_right (lit< tt) grows

pub tops_below : (words : List ℕ) (k n : ℕ) → ((i : ℕ) → get_or words i 0 < 2 ^ 64) → length words ≤ n + k → bits_number (map top_bit (drop k words)) < 2 ^ n
tops_below words k n small few =
    let bits = map top_bit (drop k words) in
    let count = length-map (drop k words) top_bit in
    let left = length-drop k words in
    let all : AreBits bits = tops_from_index (drop k words) (λ i. subst (λ w. w < 2 ^ 64) (sym (get_or-drop k words i 0)) (small (k + i))) in
    let less = bits_small bits all in
    let below : 2 ^ length bits ≤ 2 ^ n = power_grows (length bits) n (omega arith) in
    omega arith

-- what the shifts compute
pub shifted_is : (x at : ℕ) (bits : List ℕ) (within : at + length bits ≤ 63) (few : x < 2 ^ 63) (all : AreBits bits) (number : ℕ) → number ≡ bits_number bits
    → x % (1 * 2 ^ at % 2 ^ 64) + x / 2 ^ (at + length bits) * 2 ^ (at + length bits) % 2 ^ 64 + number * 2 ^ at % 2 ^ 64 ≡ patched x at bits within few all
shifted_is x at bits within few all number is =
    let m = length bits in
    let e = at + m in
    let high = x / 2 ^ e in
    let p : 2 ^ at ≤ 2 ^ 63 = power_grows at 63 (omega arith) in
    let mask : 1 * 2 ^ at % 2 ^ 64 ≡ 2 ^ at = omega arith in
    let split = shr_split x e in
    let spread : high * 2 ^ e ≡ high * 2 ^ m * 2 ^ at = ap (λ q. high * q) (pow-add 2 at m) ∙ (let a : high * (2 ^ at * 2 ^ m) ≡ high * 2 ^ m * 2 ^ at = omega arith in a) in
    let small = patched_small x at bits within few all in
    let raised : number * 2 ^ at ≡ bits_number bits * 2 ^ at = ap (λ k. k * 2 ^ at) is in
    ap (λ k. x % k + high * 2 ^ e % 2 ^ 64 + number * 2 ^ at % 2 ^ 64) mask
    ∙ (let sum : x % 2 ^ at + high * 2 ^ e % 2 ^ 64 + number * 2 ^ at % 2 ^ 64 ≡ (high * 2 ^ m + bits_number bits) * 2 ^ at + x % 2 ^ at = omega arith in sum)

pub front_is : (xs ys : List ℕ) (k n : ℕ) → k ≡ min n (length xs) → xs ≡ ys → take k xs ≡ take n ys
front_is xs ys k n few same = ap (λ j. take j xs) few ∙ take_min n xs ∙ ap (take n) same

-- ---- all fields that change

pub length-changed_tops_in : (first last skip : ℕ) (words : List ℕ) → length (changed_tops_in first last skip words) ≡ tops_for (skip + length words)
unfolding changed_tops_in
length-changed_tops_in first last skip words = length-map-range_with_len (changed_top first last skip words) 0 (tops_for (skip + length words))

pub changed_top_at : (first last skip : ℕ) (words : List ℕ) (i : ℕ) → i < tops_for (skip + length words) → get_or (changed_tops_in first last skip words) i 0 ≡ changed_top first last skip words i
unfolding changed_tops_in
changed_top_at first last skip words i less = get_or-map-range_with_len (changed_top first last skip words) 0 (tops_for (skip + length words)) i i 0 less (omega arith)

-- ---- the first one, and another

module _ (first last skip : ℕ) (words : List ℕ) (i : ℕ) where
  abbrev part : List ℕ
  part = take (63 - (skip - 63 * i)) (drop (63 * i - skip) words)

  pub first_of_all : i ≡ 0 → changed_top first last skip words i ≡ patched_top first skip (take (63 - skip) words)
  first_of_all is =
      ap (λ (b : Bool). patched_top (if b then first else last) (skip - 63 * i) part) (eq-eqb i 0 is)
      ∙ ap (λ k. patched_top first k (take (63 - k) (drop (63 * i - skip) words))) (let e : skip - 63 * i ≡ skip = omega arith in e)
      ∙ ap (λ k. patched_top first skip (take (63 - skip) (drop k words))) (let e : 63 * i - skip ≡ 0 = omega arith in e)

  pub later_of_all : (i ≡ 0 → ⊥) → skip < 63 → changed_top first last skip words i ≡ patched_top last 0 (take 63 (drop (63 * i - skip) words))
  later_of_all later few =
      ap (λ (b : Bool). patched_top (if b then first else last) (skip - 63 * i) part) (ne_eqb i 0 later)
      ∙ ap (λ k. patched_top last k (take (63 - k) (drop (63 * i - skip) words))) (let e : skip - 63 * i ≡ 0 = omega arith in e)

-- ---- they are those of the vector

module _ (fields words : List ℕ) (at : ℕ) (some : 0 < length words) (within : at + length words ≤ words_in (length fields)) where
  abbrev n : ℕ
  n = words_in (length fields)

  abbrev over : List ℕ
  over = overwritten (tops_of fields) at (map top_bit words)

  -- bit b of the field with top bits that is at j
  old_bit : (j b : ℕ) → b < 63 → get_or (tops_of fields) (63 * j + b) 0 ≡ bit_at (get_or fields (n + j) 0) b
  old_bit j b less =
      top_in fields (63 * j + b)
      ∙ ap (λ k. bit_at (get_or fields (n + k) 0) ((63 * j + b) % 63)) (let e : (63 * j + b) / 63 ≡ j = omega arith in e)
      ∙ ap (bit_at (get_or fields (n + j) 0)) (let e : (63 * j + b) % 63 ≡ b = omega arith in e)

  -- a field that keeps `lo` bits, and then has those of the words from `from` on
  patch : (old j lo from : ℕ) → j < length fields - n → lo ≤ 63 → at + from ≡ 63 * j + lo → from < length words → (lo ≡ 0) ⊎ (from ≡ 0)
      → ((b : ℕ) → b < 63 → (b < lo) ⊎ (lo + (length words - from) ≤ b) → bit_at old b ≡ bit_at (get_or fields (n + j) 0) b)
      → patched_top old lo (take (63 - lo) (drop from words)) ≡ bits_number (take 63 (drop (63 * j) over))
  patch old j lo from less few place inside one kept =
      let part = take (63 - lo) (drop from words) in
      let bits = map top_bit part in
      let count = length-map part top_bit in
      let size = length-take (63 - lo) (drop from words) in
      let rest = length-drop from words in
      let all = length-new_bits fields words at within in
      let fits : lo + length bits ≤ length (bits_of old) = (let k = length-bits old in omega arith) in
      let left : length (overwritten (bits_of old) lo bits) ≡ 63 = length-over (bits_of old) bits lo fits ∙ length-bits old in
      let back = length-drop (63 * j) over in
      let right : length (take 63 (drop (63 * j) over)) ≡ 63 = (let k = length-take 63 (drop (63 * j) over) in omega arith) in
      let inside_all = bits_within fields words at within in
      let tops = length-map words top_bit in
      ap bits_number (ext_get_or 0 (overwritten (bits_of old) lo bits) (take 63 (drop (63 * j) over)) (left ∙ sym right) (λ b b_less.
      let small : b < 63 = omega arith in
      let there : get_or (take 63 (drop (63 * j) over)) b 0 ≡ get_or over (63 * j + b) 0 = get_or-take 63 (drop (63 * j) over) b 0 small ∙ get_or-drop (63 * j) over b 0 in
      elim (cases_lt b lo) [
        | inl before ↦
            over_before (bits_of old) bits lo b fits before ∙ bit_of old b small ∙ kept b small (inl before) ∙ sym (old_bit j b small)
            ∙ sym (over_before (tops_of fields) (map top_bit words) at (63 * j + b) inside_all (elim one [ inl zero_low ↦ absurd (omega arith) | inr start ↦ omega arith ]))
            ∙ sym there
        | inr past ↦ elim (cases_lt b (lo + length bits)) [
          | inl in_it ↦
              over_inside (bits_of old) bits lo b fits past in_it
              ∙ top_at part (b - lo) (omega arith)
              ∙ ap top_bit (get_or-take (63 - lo) (drop from words) (b - lo) 0 (omega arith) ∙ get_or-drop from words (b - lo) 0)
              ∙ ap (λ k. top_bit (get_or words k 0)) (let e : from + (b - lo) ≡ 63 * j + b - at = omega arith in e)
              ∙ sym (top_at words (63 * j + b - at) (omega arith))
              ∙ sym (over_inside (tops_of fields) (map top_bit words) at (63 * j + b) inside_all (omega arith) (omega arith))
              ∙ sym there
          | inr behind ↦
              over_behind (bits_of old) bits lo b fits behind ∙ bit_of old b small ∙ kept b small (inr (omega arith)) ∙ sym (old_bit j b small)
              ∙ sym (over_behind (tops_of fields) (map top_bit words) at (63 * j + b) inside_all (omega arith))
              ∙ sym there
        ]
      ]))

  abbrev first : ℕ
  first = get_or fields (n + at / 63) 0 % 2 ^ 63

  abbrev last : ℕ
  last = get_or fields (n + (at + length words - 1) / 63) 0 % 2 ^ 63

  first_is : patched_top first (at % 63) (take (63 - at % 63) words) ≡ bits_number (take 63 (drop (63 * (at / 63)) over))
  first_is =
      patch first (at / 63) (at % 63) 0 (omega arith) (omega arith) (omega arith) (omega arith) (inr refl)
      (λ b less out. bit_low (get_or fields (n + at / 63) 0) 63 b less)

  later_is : (i : ℕ) → 0 < i → i < tops_for (at % 63 + length words) → patched_top last 0 (take 63 (drop (63 * i - at % 63) words)) ≡ bits_number (take 63 (drop (63 * (at / 63 + i)) over))
  later_is i later less =
      patch last (at / 63 + i) 0 (63 * i - at % 63) (omega arith) (omega arith) (omega arith) (omega arith) (inl refl)
      (λ b small out.
      let same : (at + length words - 1) / 63 ≡ at / 63 + i = elim out [ inl below ↦ absurd (omega arith) | inr past ↦ omega arith ] in
      bit_low (get_or fields (n + (at + length words - 1) / 63) 0) 63 b small ∙ ap (λ j. bit_at (get_or fields (n + j) 0) b) same)

  each : (i : ℕ) → i < tops_for (at % 63 + length words) → changed_top first last (at % 63) words i ≡ bits_number (take 63 (drop (63 * (at / 63 + i)) over))
  each zero less =
      first_of_all first last (at % 63) words 0 refl ∙ first_is ∙ ap (λ j. bits_number (take 63 (drop (63 * j) over))) (let e : at / 63 ≡ at / 63 + 0 = omega arith in e)
  each (suc i) less =
      later_of_all first last (at % 63) words (suc i) (λ is. omega arith) (omega arith) ∙ later_is (suc i) (omega arith) less

  pub tops_are : changed_tops_in first last (at % 63) words ≡ changed_tops fields at words
  tops_are =
      let one = length-changed_tops_in first last (at % 63) words in
      let other = length-slice fields words at within in
      let count : tops_for (at % 63 + length words) ≡ tops_for (at + length words) - at / 63 = omega arith in
      ext_get_or 0 (changed_tops_in first last (at % 63) words) _ (one ∙ count ∙ sym other) (λ i less.
      changed_top_at first last (at % 63) words i (omega arith) ∙ each i (omega arith) ∙ sym (slice_at fields words at within i (omega arith)))
      ∙ sym (some_tops fields words at some)
