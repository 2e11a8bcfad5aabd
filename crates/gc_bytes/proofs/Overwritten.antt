-- A text whose words change has other bytes there, and is the same elsewhere.
use Rattle.std.proofs.lemmas.Bool.{cases_lt}
use Rattle.std.proofs.lemmas.List.{ext_get_or, get_or-append_right, get_or-drop, get_or-take, get_or_append_left, length-append, length-take-le, append-nil, take-append-drop}
use Rattle.std.proofs.Common.{◌≡◌, inl, inr, ℕ, zero, suc, ◌+◌, ◌-◌, ◌*◌, ◌/◌, ◌%◌, ◌^◌, ◌<◌, ◌≤◌, List, [], ◌∷◌, ◌++◌, length, get_or, take, drop, Some, None, refl, ap, sym, ◌∙◌, subst, arith}
use Rattle.std.specs.Option.{option_map}
use Rattle.gc_bytes.specs.Text.{AreBytes, bytes_of, changed_words, digits, fields_for, length_told, overwritten, spelled, text_length, text_of}
use Rattle.gc_bytes.specs.Changed.{changed_count}
use Rattle.gc_bytes.proofs.Changed.{same_length, some_change, slice_length}
use Rattle.gc_bytes.proofs.Digits.{length-bytes_of, length-digits}
use Rattle.gc_bytes.proofs.Joined.{bytes_are, joined_are}
use Rattle.gc_bytes.proofs.Spelled.{bytes_parted, counted_in, counted_none, counted_nothing, counted_some, fields_counted, text_again, told_length}

-- ---- single bytes

-- those of an empty word
zero_digits : (n i : ℕ) → get_or (digits n 0) i 0 ≡ 0
unfolding digits
zero_digits zero i = refl
zero_digits (suc n) zero = refl
zero_digits (suc n) (suc i) = zero_digits n i

-- byte k of these words
byte_at : (words : List ℕ) (k : ℕ) → get_or (bytes_of words) k 0 ≡ get_or (digits 7 (get_or words (k / 7) 0)) (k % 7) 0
unfolding digits
byte_at [] k = sym (zero_digits 7 (k % 7))
byte_at (w ∷ rest) k =
    let seven = length-digits 7 w in
    elim (cases_lt k 7) [
      | inl less ↦ get_or_append_left (digits 7 w) (bytes_of rest) 0 k (omega arith) ∙ ap (λ j. get_or (digits 7 w) j 0) (let e : k ≡ k % 7 = omega arith in e) ∙ ap (λ j. get_or (digits 7 (get_or (w ∷ rest) j 0)) (k % 7) 0) (let e : 0 ≡ k / 7 = omega arith in e)
      | inr past ↦ get_or-append_right (digits 7 w) (bytes_of rest) 7 k 0 seven past ∙ byte_at rest (k - 7) ∙ ap (λ j. get_or (digits 7 (get_or rest ((k - 7) / 7) 0)) j 0) (let e : (k - 7) % 7 ≡ k % 7 = omega arith in e) ∙ ap (λ j. get_or (digits 7 (get_or (w ∷ rest) j 0)) (k % 7) 0) (let e : suc ((k - 7) / 7) ≡ k / 7 = omega arith in e)
    ]

-- ---- lists with other elements

module _ (list elements : List ℕ) (at : ℕ) (within : at + length elements ≤ length list) where
  written_length : length (overwritten list at elements) ≡ length list
  written_length = same_length list elements at within

  written_before : (k : ℕ) → k < at → get_or (overwritten list at elements) k 0 ≡ get_or list k 0
  written_before k less =
      let f = length-take-le at list (omega arith) in
      let a = length-append (take at list) elements in
      get_or_append_left (take at list ++ elements) (drop (at + length elements) list) 0 k (omega arith)
      ∙ get_or_append_left (take at list) elements 0 k (omega arith)
      ∙ get_or-take at list k 0 less

  written_there : (k : ℕ) → at ≤ k → k < at + length elements → get_or (overwritten list at elements) k 0 ≡ get_or elements (k - at) 0
  written_there k past less =
      let f = length-take-le at list (omega arith) in
      let a = length-append (take at list) elements in
      get_or_append_left (take at list ++ elements) (drop (at + length elements) list) 0 k (omega arith)
      ∙ get_or-append_right (take at list) elements at k 0 f past

  written_behind : (k : ℕ) → at + length elements ≤ k → get_or (overwritten list at elements) k 0 ≡ get_or list k 0
  written_behind k past =
      let f = length-take-le at list (omega arith) in
      let a = length-append (take at list) elements in
      get_or-append_right (take at list ++ elements) (drop (at + length elements) list) (at + length elements) k 0 (omega arith) past
      ∙ get_or-drop (at + length elements) list (k - (at + length elements)) 0
      ∙ ap (λ j. get_or list j 0) (let e : at + length elements + (k - (at + length elements)) ≡ k = omega arith in e)

-- ---- what a text tells of its words

told_some : (m k n : ℕ) → length_told m k ≡ Some n → (0 < k) × (k ≤ 7)
told_some m k n is = elim (cases_lt 0 k) [
  | inl some ↦
      elim (cases_lt 7 k) [
        | inr few ↦ (some, few)
        | inl more ↦ absurd (let no : None ≡ Some n = sym (counted_none m k (inr more)) ∙ is in cc)
      ]
  | inr none ↦ absurd (let no : None ≡ Some n = sym (counted_none m k (inl (omega arith))) ∙ is in cc)
]

told_all : (m k n : ℕ) → length_told m k ≡ Some n → n ≡ 7 * m + k
told_all m k n is = let some = told_some m k n is in let one : length_told m k ≡ Some (7 * m + k) = counted_some m k (7 * m + k) some.0 some.1 refl in let same : Some n ≡ Some (7 * m + k) = sym is ∙ one in cc

text_told : (words text : List ℕ) → text_of words ≡ Some text → text_length words ≡ Some (length text)
text_told words text is = told_length words (length text) (ap (option_map length) is)

text_taken : (words text : List ℕ) → text_of words ≡ Some text → take (length text) (bytes_of words) ≡ text
text_taken words text is = let same : Some (take (length text) (bytes_of words)) ≡ Some text = sym (ap (option_map (λ n. take n (bytes_of words))) (text_told words text is)) ∙ is in cc

pub words_counted : (words text : List ℕ) → text_of words ≡ Some text → length words ≡ fields_for (length text)
words_counted [] text is = let told : Some 0 ≡ Some (length text) = sym (counted_nothing [] refl) ∙ text_told [] text is in let e : 0 ≡ length text = cc in omega arith
words_counted (w ∷ rest) text is =
    let m = length rest in
    let k = get_or (w ∷ rest) m 0 / 2 ^ 56 in
    let told : length_told m k ≡ Some (length text) = sym (counted_in (w ∷ rest) m refl) ∙ text_told (w ∷ rest) text is in
    let some = told_some m k (length text) told in
    let all = told_all m k (length text) told in
    omega arith

-- byte k of a text
text_byte : (words text : List ℕ) (k : ℕ) → text_of words ≡ Some text → k < length text → get_or (digits 7 (get_or words (k / 7) 0)) (k % 7) 0 ≡ get_or text k 0
text_byte words text k is less =
    sym (byte_at words k)
    ∙ sym (get_or-take (length text) (bytes_of words) k 0 less)
    ∙ ap (λ bs. get_or bs k 0) (text_taken words text is)

-- ---- a text with other bytes

module _ (words text bytes : List ℕ) (at : ℕ) (all : AreBytes bytes) (is : text_of words ≡ Some text) (within : at + length bytes ≤ length text) (some : 0 < length bytes) where
  abbrev next : List ℕ
  next = overwritten text at bytes

  abbrev changed : List ℕ
  changed = changed_words text at bytes

  abbrev after : List ℕ
  after = overwritten words (at / 7) changed

  next_bytes : AreBytes next
  next_bytes =
      let old : AreBytes text = subst AreBytes (text_taken words text is) (bytes_parted (length text) (bytes_of words) (bytes_are words)).0 in
      joined_are (take at text ++ bytes) (drop (at + length bytes) text) (joined_are (take at text) bytes (bytes_parted at text old).0 all) (bytes_parted (at + length bytes) text old).1

  again : text_of (spelled next) ≡ Some next
  again = text_again next next_bytes

  size : length next ≡ length text
  size = written_length text bytes at within

  count : length changed ≡ changed_count (at % 7) bytes
  count = ap length (some_change text at bytes some) ∙ slice_length text at bytes some within

  fits : at / 7 + length changed ≤ length words
  fits = let c = count in let w = words_counted words text is in omega arith

  -- a word that changes is that of the new text
  there : (w : ℕ) → at / 7 ≤ w → w < at / 7 + length changed → get_or after w 0 ≡ get_or (spelled next) w 0
  there w past less =
      let c = count in
      written_there words changed (at / 7) fits w past less
      ∙ ap (λ ws. get_or ws (w - at / 7) 0) (some_change text at bytes some)
      ∙ get_or-take (fields_for (at + length bytes) - at / 7) (drop (at / 7) (spelled next)) (w - at / 7) 0 (omega arith)
      ∙ get_or-drop (at / 7) (spelled next) (w - at / 7) 0
      ∙ ap (λ j. get_or (spelled next) j 0) (let e : at / 7 + (w - at / 7) ≡ w = omega arith in e)

  after_length : text_length after ≡ Some (length text)
  after_length =
      let m = length words - 1 in
      let c = count in
      let w = words_counted words text is in
      let f = fields_counted next in
      let s = size in
      let l = written_length words changed (at / 7) fits in
      let told : text_length after ≡ length_told m (get_or after m 0 / 2 ^ 56) = counted_in after m (omega arith) in
      elim (cases_lt m (at / 7 + length changed)) [
        | inl less ↦
            told ∙ ap (λ x. length_told m (x / 2 ^ 56)) (there m (omega arith) less) ∙ sym (counted_in (spelled next) m (omega arith)) ∙ text_told (spelled next) next again ∙ ap Some s
        | inr past ↦
            told ∙ ap (λ x. length_told m (x / 2 ^ 56)) (written_behind words changed (at / 7) fits m past) ∙ sym (counted_in words m (omega arith)) ∙ text_told words text is
      ]

  after_byte : (k : ℕ) → k < length text → get_or (bytes_of after) k 0 ≡ get_or next k 0
  after_byte k less =
      let c = count in
      let s = size in
      elim (cases_lt (k / 7) (at / 7)) [
        | inl before ↦
            byte_at after k ∙ ap (λ x. get_or (digits 7 x) (k % 7) 0) (written_before words changed (at / 7) fits (k / 7) before) ∙ text_byte words text k is less ∙ sym (written_before text bytes at within k (omega arith))
        | inr past ↦
            elim (cases_lt (k / 7) (at / 7 + length changed)) [
              | inl inside ↦
                  byte_at after k ∙ ap (λ x. get_or (digits 7 x) (k % 7) 0) (there (k / 7) past inside) ∙ text_byte (spelled next) next k again (omega arith)
              | inr behind ↦
                  byte_at after k ∙ ap (λ x. get_or (digits 7 x) (k % 7) 0) (written_behind words changed (at / 7) fits (k / 7) behind) ∙ text_byte words text k is less ∙ sym (written_behind text bytes at within k (omega arith))
            ]
      ]

  after_text : text_of after ≡ Some next
  after_text =
      let n = length text in
      let s = size in
      let w = words_counted words text is in
      let l = written_length words changed (at / 7) fits in
      let b = length-bytes_of after in
      let taken = length-take-le n (bytes_of after) (omega arith) in
      ap (option_map (λ n. take n (bytes_of after))) after_length
      ∙ ap Some (ext_get_or 0 (take n (bytes_of after)) next (omega arith) (λ k less. get_or-take n (bytes_of after) k 0 (omega arith) ∙ after_byte k (omega arith)))

-- nothing is written
nothing_written : (list : List ℕ) (at : ℕ) → overwritten list at [] ≡ list
nothing_written list at = ap (λ xs. xs ++ drop (at + 0) list) (append-nil (take at list)) ∙ ap (λ k. take at list ++ drop k list) (let e : at + 0 ≡ at = omega arith in e) ∙ take-append-drop at list

pub text_changed : (words text bytes : List ℕ) (at : ℕ) → AreBytes bytes → text_of words ≡ Some text → at + length bytes ≤ length text → text_of (overwritten words (at / 7) (changed_words text at bytes)) ≡ Some (overwritten text at bytes)
text_changed words text [] at all is within = ap text_of (nothing_written words (at / 7)) ∙ is ∙ ap Some (sym (nothing_written text at))
text_changed words text (b ∷ rest) at all is within = after_text words text (b ∷ rest) at all is within (omega arith)

pub changed_within : (text bytes : List ℕ) (at : ℕ) → at + length bytes ≤ length text → at / 7 + length (changed_words text at bytes) ≤ fields_for (length text)
changed_within text [] at within = omega arith
changed_within text (b ∷ rest) at within = let c : length (changed_words text at (b ∷ rest)) ≡ changed_count (at % 7) (b ∷ rest) = slice_length text at (b ∷ rest) (omega arith) within in omega arith
