-- What a vector's fields say again.
use Rattle.std.proofs.Common.{◌≡◌, inl, inr, ℕ, zero, suc, ◌+◌, ◌-◌, ◌*◌, ◌/◌, ◌%◌, ◌^◌, ◌<◌, ◌≤◌, List, [], ◌∷◌, length, get_or, map, take, drop, refl, ap, sym, ◌∙◌, subst, arith, lit<}
use Rattle.std.specs.Int.{bit_at}
use Rattle.std.specs.Prelude.{slice_range}
use Rattle.std.proofs.lemmas.Bool.{cases_lt}
use Rattle.std.proofs.lemmas.List.{ext_get_or, get_or-append-add, get_or-drop, get_or-map, get_or-take, get_or_append_left, get_or_past, length-append, length-drop, length-map, length-take}
use Rattle.std.proofs.lemmas.List.FromFn.{get_or-map-range_with_len, length-map-range_with_len}
use Rattle.std.proofs.lemmas.Nat.Bits.{bit_at-lt}
use Rattle.gc_bytes.specs.Text.{overwritten}
use Rattle.gc_bytes.specs.Vector.{AreWords, bits_number, changed_tops, fields_of_bits, first_top, low_bits, rewritten, top_bit, tops_for, tops_of, vector_fields, word_at, words_in, words_of}
use Rattle.gc_bytes.proofs.Bits.{AreBits, bit_again, bit_in, field_at, length-bits_in, length-fields_of_bits, length-over, over_before, over_behind, over_bits, over_inside}

-- ---- words

word_small : (words : List ℕ) → AreWords words → (i : ℕ) → get_or words i 0 < 2 ^ 64
word_small [] all i = lit< tt
word_small (w ∷ rest) (less, all) zero = less
word_small (w ∷ rest) (less, all) (suc i) = word_small rest all i

pub top_at : (words : List ℕ) (i : ℕ) → i < length words → get_or (map top_bit words) i 0 ≡ top_bit (get_or words i 0)
top_at words i less = get_or-map top_bit words i 0 0 less

low_at : (words : List ℕ) (i : ℕ) → i < length words → get_or (map low_bits words) i 0 ≡ low_bits (get_or words i 0)
low_at words i less = get_or-map low_bits words i 0 0 less

pub tops_from_index : (words : List ℕ) → ((i : ℕ) → get_or words i 0 < 2 ^ 64) → AreBits (map top_bit words)
tops_from_index words small = λ k. elim (cases_lt k (length words)) [
  | inl less ↦ subst (λ b. b < 2) (sym (top_at words k less)) (let w = small k in omega arith)
  | inr past ↦ let n = length-map words top_bit in subst (λ b. b < 2) (sym (get_or_past (map top_bit words) k 0 (omega arith))) (lit< tt)
]

tops_are_bits : (words : List ℕ) → AreWords words → AreBits (map top_bit words)
tops_are_bits words all = tops_from_index words (word_small words all)

parts_of : (w : ℕ) → low_bits (low_bits w) + 2 ^ 63 * top_bit w ≡ w
parts_of w = omega arith

-- ---- top bits

pub top_in : (fields : List ℕ) (i : ℕ) → get_or (tops_of fields) i 0 ≡ bit_at (get_or fields (words_in (length fields) + i / 63) 0) (i % 63)
unfolding tops_of
top_in fields i =
    let n = words_in (length fields) in
    bit_in (drop n fields) i ∙ ap (λ x. bit_at x (i % 63)) (get_or-drop n fields (i / 63) 0)

length-tops : (fields : List ℕ) → length (tops_of fields) ≡ 63 * (length fields - words_in (length fields))
unfolding tops_of
length-tops fields =
    let n = words_in (length fields) in
    length-bits_in (drop n fields) ∙ ap (λ k. 63 * k) (length-drop n fields)

tops_bits : (fields : List ℕ) → AreBits (tops_of fields)
tops_bits fields = λ k. subst (λ b. b < 2) (sym (top_in fields k)) (bit_at-lt (get_or fields (words_in (length fields) + k / 63) 0) (k % 63))

-- ---- the words of fields

pub words_per_fields : (fields : List ℕ) → length (words_of fields) ≡ words_in (length fields)
unfolding words_of
words_per_fields fields = length-map-range_with_len (word_at fields) 0 (words_in (length fields))

pub word_is : (fields : List ℕ) (i : ℕ) → i < words_in (length fields) → get_or (words_of fields) i 0 ≡ word_at fields i
unfolding words_of
word_is fields i less = get_or-map-range_with_len (word_at fields) 0 (words_in (length fields)) i i 0 less (omega arith)

-- ---- what is spelled is read again

pub fields_counted : (words : List ℕ) → length (vector_fields words) ≡ length words + tops_for (length words)
fields_counted words =
    let a = length-append (map low_bits words) (fields_of_bits (map top_bit words)) in
    let b = length-map words low_bits in
    let c = length-map words top_bit in
    let d = length-fields_of_bits (map top_bit words) in
    let e : tops_for (length (map top_bit words)) ≡ tops_for (length words) = ap tops_for c in
    omega arith

words_counted : (words : List ℕ) → words_in (length (vector_fields words)) ≡ length words
words_counted words = let n = fields_counted words in omega arith

pub vector_again : (words : List ℕ) → AreWords words → words_of (vector_fields words) ≡ words
vector_again words all =
    let fields = vector_fields words in
    let lows = map low_bits words in
    let tops = fields_of_bits (map top_bit words) in
    let n = words_counted words in
    let count : length lows ≡ length words = length-map words low_bits in
    let bits : length (map top_bit words) ≡ length words = length-map words top_bit in
    ext_get_or 0 (words_of fields) words (words_per_fields fields ∙ n) (λ i less.
    let inside : i < length words = (let k = words_per_fields fields in omega arith) in
    let low : get_or fields i 0 ≡ low_bits (get_or words i 0) = get_or_append_left lows tops 0 i (omega arith) ∙ low_at words i inside in
    let top : get_or (tops_of fields) i 0 ≡ top_bit (get_or words i 0) =
    top_in fields i
    ∙ ap (λ k. bit_at (get_or fields (k + i / 63) 0) (i % 63)) (n ∙ sym count)
    ∙ ap (λ x. bit_at x (i % 63)) (get_or-append-add lows tops (i / 63) 0)
    ∙ bit_again (map top_bit words) i (omega arith) (tops_are_bits words all)
    ∙ top_at words i inside in
    word_is fields i (omega arith)
    ∙ ap (λ x. low_bits x + 2 ^ 63 * get_or (tops_of fields) i 0) low
    ∙ ap (λ x. low_bits (low_bits (get_or words i 0)) + 2 ^ 63 * x) top
    ∙ parts_of (get_or words i 0))

-- ---- words that are written over others

module _ (fields words : List ℕ) (at : ℕ) (within : at + length words ≤ words_in (length fields)) where
  abbrev n : ℕ
  n = words_in (length fields)

  abbrev bits : List ℕ
  bits = overwritten (tops_of fields) at (map top_bit words)

  pub bits_within : at + length (map top_bit words) ≤ length (tops_of fields)
  bits_within = let t = length-tops fields in let k = length-map words top_bit in omega arith

  pub length-new_bits : length bits ≡ 63 * (length fields - n)
  length-new_bits = length-over (tops_of fields) (map top_bit words) at bits_within ∙ length-tops fields

  -- ---- the fields that change

  -- where there is a word
  abbrev slice : List ℕ
  slice = slice_range (fields_of_bits bits) (at / 63) (tops_for (at + length words))

  pub length-slice : length slice ≡ tops_for (at + length words) - at / 63
  length-slice =
      let all = length-fields_of_bits bits in
      let b = length-new_bits in
      let back = length-drop (at / 63) (fields_of_bits bits) in
      let part = length-take (tops_for (at + length words) - at / 63) (drop (at / 63) (fields_of_bits bits)) in
      let t : tops_for (length bits) ≡ length fields - n = (let e : tops_for (63 * (length fields - n)) ≡ length fields - n = omega arith in ap tops_for b ∙ e) in
      omega arith

  pub slice_at : (i : ℕ) → i < tops_for (at + length words) - at / 63 → get_or slice i 0 ≡ bits_number (take 63 (drop (63 * (at / 63 + i)) bits))
  slice_at i less =
      let count = tops_for (at + length words) - at / 63 in
      let b = length-new_bits in
      get_or-take count (drop (at / 63) (fields_of_bits bits)) i 0 less
      ∙ get_or-drop (at / 63) (fields_of_bits bits) i 0
      ∙ field_at bits (at / 63 + i) (let e : at / 63 + i < tops_for (63 * (length fields - n)) = omega arith in subst (λ k. at / 63 + i < tops_for k) (sym b) e)

pub some_tops : (fields words : List ℕ) (at : ℕ) → 0 < length words → changed_tops fields at words ≡ slice_range (fields_of_bits (overwritten (tops_of fields) at (map top_bit words))) (at / 63) (tops_for (at + length words))
some_tops fields [] at some = absurd (omega arith)
some_tops fields (w ∷ rest) at some = refl

pub tops_within : (fields words : List ℕ) (at : ℕ) → at + length words ≤ words_in (length fields) → first_top fields at + length (changed_tops fields at words) ≤ length fields
tops_within fields [] at within = omega arith
tops_within fields (w ∷ rest) at within = let k = length-slice fields (w ∷ rest) at within in omega arith

-- ---- all words afterwards

nothing_over : (xs : List ℕ) (at i : ℕ) → at ≤ length xs → get_or (overwritten xs at []) i 0 ≡ get_or xs i 0
nothing_over xs at i within = elim (cases_lt i at) [
  | inl less ↦ over_before xs [] at i (omega arith) less
  | inr past ↦ over_behind xs [] at i (omega arith) (omega arith)
]

module _ (fields words : List ℕ) (at : ℕ) (all : AreWords words) (within : at + length words ≤ words_in (length fields)) where
  abbrev count : ℕ
  count = words_in (length fields)

  abbrev lows : List ℕ
  lows = overwritten fields at (map low_bits words)

  abbrev tops : List ℕ
  tops = changed_tops fields at words

  abbrev new : List ℕ
  new = rewritten fields at words

  abbrev over : List ℕ
  over = overwritten (tops_of fields) at (map top_bit words)

  lows_within : at + length (map low_bits words) ≤ length fields
  lows_within = let k = length-map words low_bits in omega arith

  same_lows : length lows ≡ length fields
  same_lows = length-over fields (map low_bits words) at lows_within

  fits : first_top fields at + length tops ≤ length lows
  fits = let k = tops_within fields words at within in let s = same_lows in omega arith

  same : length new ≡ length fields
  same = length-over lows tops (first_top fields at) fits ∙ same_lows

  are_bits : AreBits over
  are_bits = over_bits (tops_of fields) (map top_bit words) at (bits_within fields words at within) (tops_bits fields) (tops_are_bits words all)

  -- a field with top bits that changes
  changed_top : (i : ℕ) → 0 < length words → at / 63 ≤ i / 63 → i / 63 < tops_for (at + length words) → get_or new (count + i / 63) 0 ≡ get_or (fields_of_bits over) (i / 63) 0
  changed_top i some past less =
      let k : length tops ≡ tops_for (at + length words) - at / 63 = ap length (some_tops fields words at some) ∙ length-slice fields words at within in
      over_inside lows tops (first_top fields at) (count + i / 63) fits (omega arith) (omega arith)
      ∙ ap (λ xs. get_or xs (count + i / 63 - first_top fields at) 0) (some_tops fields words at some)
      ∙ get_or-take (tops_for (at + length words) - at / 63) (drop (at / 63) (fields_of_bits over)) (count + i / 63 - first_top fields at) 0 (omega arith)
      ∙ get_or-drop (at / 63) (fields_of_bits over) (count + i / 63 - first_top fields at) 0
      ∙ ap (λ j. get_or (fields_of_bits over) j 0) (let e : at / 63 + (count + i / 63 - first_top fields at) ≡ i / 63 = omega arith in e)

  -- one that does not
  kept_low : (j : ℕ) → at + length words ≤ j → get_or lows j 0 ≡ get_or fields j 0
  kept_low j past = let k = length-map words low_bits in over_behind fields (map low_bits words) at j lows_within (omega arith)

  top_kept : (i : ℕ) → get_or new (count + i / 63) 0 ≡ get_or lows (count + i / 63) 0 → get_or over i 0 ≡ get_or (tops_of fields) i 0 → bit_at (get_or new (count + i / 63) 0) (i % 63) ≡ get_or over i 0
  top_kept i is out = ap (λ x. bit_at x (i % 63)) (is ∙ kept_low (count + i / 63) (omega arith)) ∙ sym (top_in fields i) ∙ sym out

  top_changed : (i : ℕ) → i < count → 0 < length words → at / 63 ≤ i / 63 → i / 63 < tops_for (at + length words) → bit_at (get_or new (count + i / 63) 0) (i % 63) ≡ get_or over i 0
  top_changed i less some past before =
      ap (λ x. bit_at x (i % 63)) (changed_top i some past before) ∙ bit_again over i (let l = length-new_bits fields words at within in omega arith) are_bits

  -- where nothing is written
  top_with : (i : ℕ) → i < count → (length words ≡ 0 → bit_at (get_or new (count + i / 63) 0) (i % 63) ≡ get_or over i 0)
  top_with i less none = top_kept i (no_tops words none) (no_bits words none)
    where
      no_tops : (ws : List ℕ) → length ws ≡ 0 → get_or (overwritten lows (first_top fields at) (changed_tops fields at ws)) (count + i / 63) 0 ≡ get_or lows (count + i / 63) 0
      no_tops [] none = nothing_over lows (first_top fields at) (count + i / 63) (let f = fits in omega arith)
      no_tops (w ∷ ws) none = absurd (omega arith)

      no_bits : (ws : List ℕ) → length ws ≡ 0 → get_or (overwritten (tops_of fields) at (map top_bit ws)) i 0 ≡ get_or (tops_of fields) i 0
      no_bits [] none = nothing_over (tops_of fields) at i (let b = bits_within fields words at within in omega arith)
      no_bits (w ∷ ws) none = absurd (omega arith)

  top_is : (i : ℕ) → i < count → get_or (tops_of new) i 0 ≡ get_or over i 0
  top_is i less =
      let bits = length-map words top_bit in
      top_in new i
      ∙ ap (λ k. bit_at (get_or new (words_in k + i / 63) 0) (i % 63)) same
      ∙ elim (cases_lt 0 (length words)) [
        | inr none ↦ top_with i less (omega arith)
        | inl some ↦ elim (cases_lt (i / 63) (at / 63)) [
          | inl before ↦ top_kept i (over_before lows tops (first_top fields at) (count + i / 63) fits (omega arith)) (over_before (tops_of fields) (map top_bit words) at i (bits_within fields words at within) (omega arith))
          | inr past ↦ elim (cases_lt (i / 63) (tops_for (at + length words))) [
            | inl inside ↦ top_changed i less some past inside
            | inr behind ↦
                let k : length tops ≡ tops_for (at + length words) - at / 63 = ap length (some_tops fields words at some) ∙ length-slice fields words at within in
                top_kept i (over_behind lows tops (first_top fields at) (count + i / 63) fits (omega arith)) (over_behind (tops_of fields) (map top_bit words) at i (bits_within fields words at within) (omega arith))
          ]
        ]
      ]

  low_is : (i : ℕ) → i < count → get_or new i 0 ≡ get_or lows i 0
  low_is i less = over_before lows tops (first_top fields at) i fits (omega arith)

  word_now : (i : ℕ) → i < count → get_or (words_of new) i 0 ≡ low_bits (get_or lows i 0) + 2 ^ 63 * get_or over i 0
  word_now i less =
      word_is new i (let s = same in omega (arith, ap words_in s))
      ∙ ap (λ x. low_bits x + 2 ^ 63 * get_or (tops_of new) i 0) (low_is i less)
      ∙ ap (λ x. low_bits (get_or lows i 0) + 2 ^ 63 * x) (top_is i less)

  -- a word that is not written
  kept_word : (i : ℕ) → i < count → get_or lows i 0 ≡ get_or fields i 0 → get_or over i 0 ≡ get_or (tops_of fields) i 0 → get_or (words_of new) i 0 ≡ get_or (words_of fields) i 0
  kept_word i less low top =
      word_now i less
      ∙ ap (λ x. low_bits x + 2 ^ 63 * get_or over i 0) low
      ∙ ap (λ x. low_bits (get_or fields i 0) + 2 ^ 63 * x) top
      ∙ sym (word_is fields i less)

  here : (i : ℕ) → i < count → get_or (words_of new) i 0 ≡ get_or (overwritten (words_of fields) at words) i 0
  here i less =
      let low = length-map words low_bits in
      let top = length-map words top_bit in
      let fit : at + length words ≤ length (words_of fields) = (let k = words_per_fields fields in omega arith) in
      let bits = bits_within fields words at within in
      let rows = lows_within in
      elim (cases_lt i at) [
        | inl before ↦
            kept_word i less (over_before fields (map low_bits words) at i lows_within before) (over_before (tops_of fields) (map top_bit words) at i bits before)
            ∙ sym (over_before (words_of fields) words at i fit before)
        | inr past ↦ elim (cases_lt i (at + length words)) [
          | inl inside ↦
              word_now i less
              ∙ ap (λ x. low_bits x + 2 ^ 63 * get_or over i 0) (over_inside fields (map low_bits words) at i lows_within past (omega arith) ∙ low_at words (i - at) (omega arith))
              ∙ ap (λ x. low_bits (low_bits (get_or words (i - at) 0)) + 2 ^ 63 * x) (over_inside (tops_of fields) (map top_bit words) at i bits past (omega arith) ∙ top_at words (i - at) (omega arith))
              ∙ parts_of (get_or words (i - at) 0)
              ∙ sym (over_inside (words_of fields) words at i fit past inside)
          | inr behind ↦
              kept_word i less (over_behind fields (map low_bits words) at i lows_within (omega arith)) (over_behind (tops_of fields) (map top_bit words) at i bits (omega arith))
              ∙ sym (over_behind (words_of fields) words at i fit behind)
        ]
      ]

  pub words_rewritten : words_of new ≡ overwritten (words_of fields) at words
  words_rewritten =
      let k = words_per_fields fields in
      let s : length (words_of new) ≡ count = words_per_fields new ∙ ap words_in same in
      let o : length (overwritten (words_of fields) at words) ≡ length (words_of fields) = length-over (words_of fields) words at (omega arith) in
      ext_get_or 0 (words_of new) (overwritten (words_of fields) at words) (s ∙ sym k ∙ sym o) (λ i less. here i (omega arith))
