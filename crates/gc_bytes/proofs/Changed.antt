-- Words of a text that change where bytes are written over some of its own.
use Rattle.std.proofs.lemmas.Bool.{cases_lt, eq-eqb, le-leb, lt-leb, ne_eqb}
use Rattle.std.proofs.Common.{◌≡◌, inl, inr, ℕ, zero, suc, ◌+◌, ◌-◌, ◌*◌, ◌/◌, ◌%◌, ◌^◌, ◌<◌, ◌≤◌, List, [], ◌∷◌, ◌++◌, length, min, get_or, take, drop, refl, ap, sym, ◌∙◌, subst, arith}
use Rattle.std.proofs.lemmas.List.{append_assoc, drop-append-le, drop-drop, drop-take, append-nil, ext_get_or, get_or-drop, get_or-take, length-append, length-drop, length-take, length-take-le, take-append-drop, take-take, take_all}
use Rattle.std.proofs.lemmas.Nat.{mod_below, mod_low, mul-add-lt, pow-add, pow_pos, shr_below, shr_high, shr_split}
use Rattle.gc_bytes.specs.Text.{AreBytes, bytes_number, changed_words, fields_for, overwritten, spelled}
use Rattle.std.proofs.lemmas.List.FromFn.{get_or-map-range_with_len, length-map-range_with_len}
use Rattle.std.specs.Prelude.{Bool, false, nat_le, if◌then◌else◌, slice_range}
use Rattle.gc_bytes.specs.Changed.{changed_count, changed_in, changed_word, patched_word}
use Rattle.gc_bytes.proofs.Digits.{drop_on, number-append, take_on}
use Rattle.gc_bytes.proofs.Joined.{number_bound}
use Rattle.gc_bytes.proofs.Spelled.{bytes_parted, fields_counted, final_word, inner_word}

-- ---- one word

power_split : (j m : ℕ) → 2 ^ (8 * j) * 2 ^ (8 * m) ≡ 2 ^ (8 * (j + m))
power_split j m = sym (pow-add 2 (8 * j) (8 * m)) ∙ ap (λ k. 2 ^ k) (let e : 8 * j + 8 * m ≡ 8 * (j + m) = omega arith in e)

-- the number of all bytes is below what they have room for
pub bytes_small : (bs : List ℕ) → AreBytes bs → bytes_number bs < 2 ^ (8 * length bs)
bytes_small bs all = subst (λ xs. bytes_number xs < 2 ^ (8 * length bs)) (take_all (length bs) bs (omega arith)) (number_bound (length bs) 0 bs all)

pub patched_is : (w j m n r : ℕ) → r ≡ n * 2 ^ (8 * j) → w - w % 2 ^ (8 * (j + m)) + w % 2 ^ (8 * j) + r ≡ w % 2 ^ (8 * j) + n * 2 ^ (8 * j) + w / 2 ^ (8 * (j + m)) * 2 ^ (8 * (j + m))
patched_is w j m n r is = let parts = shr_split w (8 * (j + m)) in omega arith

pub patched_small : (w j m n : ℕ) → j + m ≤ 7 → w < 2 ^ 63 → n < 2 ^ (8 * m) → w % 2 ^ (8 * j) + n * 2 ^ (8 * j) + w / 2 ^ (8 * (j + m)) * 2 ^ (8 * (j + m)) < 2 ^ 63
patched_small w j m n within small less =
    let e = 8 * (j + m) in
    let k = 63 - e in
    let sum : k + e ≡ 63 = omega arith in
    let low = w % 2 ^ (8 * j) + n * 2 ^ (8 * j) in
    let below : n * 2 ^ (8 * j) + w % 2 ^ (8 * j) < 2 ^ (8 * j) * 2 ^ (8 * m) = mul-add-lt n (2 ^ (8 * j)) (w % 2 ^ (8 * j)) (2 ^ (8 * m)) less (mod_below w (2 ^ (8 * j)) (pow_pos (8 * j))) in
    let few : low < 2 ^ e = (let p = power_split j m in omega arith) in
    let high : w / 2 ^ e < 2 ^ k = shr_below w k e (subst (λ x. w < 2 ^ x) (sym sum) small) in
    let whole : w / 2 ^ e * 2 ^ e + low < 2 ^ e * 2 ^ k = mul-add-lt (w / 2 ^ e) (2 ^ e) low (2 ^ k) high few in
    let all : 2 ^ e * 2 ^ k ≡ 2 ^ 63 = sym (pow-add 2 e k) ∙ ap (λ x. 2 ^ x) (let f : e + k ≡ 63 = omega arith in f) in
    let less : w / 2 ^ e * 2 ^ e + low < 2 ^ 63 = subst (λ x. w / 2 ^ e * 2 ^ e + low < x) all whole in
    omega arith

-- bytes that a word has in front, and what comes behind them
parts_of : (j : ℕ) (c : List ℕ) (t : ℕ) → AreBytes c → length c ≤ 7 → j ≤ length c
    → (bytes_number (take j c) < 2 ^ (8 * j)) × (bytes_number c + 2 ^ 56 * t ≡ (bytes_number (drop j c) + 2 ^ (8 * (7 - j)) * t) * 2 ^ (8 * j) + bytes_number (take j c))
parts_of j c t all few within =
    let taken : length (take j c) ≡ j = length-take-le j c within in
    let low = bytes_number (take j c) in
    let high = bytes_number (drop j c) in
    let p = 2 ^ (8 * j) in
    let q = 2 ^ (8 * (7 - j)) in
    let small : low < p = subst (λ n. low < 2 ^ (8 * n)) taken (bytes_small (take j c) (bytes_parted j c all).0) in
    let split : bytes_number c ≡ low + p * high = ap bytes_number (sym (take-append-drop j c)) ∙ number-append (take j c) (drop j c) ∙ ap (λ n. low + 2 ^ (8 * n) * high) taken in
    let power : 2 ^ 56 ≡ p * q = ap (λ n. 2 ^ (8 * n)) (let e : 7 ≡ j + (7 - j) = omega arith in e) ∙ sym (power_split j (7 - j)) in
    let top : 2 ^ 56 * t ≡ p * q * t = ap (λ x. x * t) power in
    (small, (let e : bytes_number c + 2 ^ 56 * t ≡ (high + q * t) * p + low = omega arith in e))

-- a word with these bytes among its own
patched_bytes : (j : ℕ) (c p : List ℕ) (t : ℕ) → AreBytes c → length c ≤ 7 → j + length p ≤ length c
    → patched_word (bytes_number c + 2 ^ 56 * t) j p ≡ bytes_number (take j c ++ (p ++ drop (j + length p) c)) + 2 ^ 56 * t
patched_bytes j c p t all few within =
    let m = length p in
    let w = bytes_number c + 2 ^ 56 * t in
    let one = parts_of j c t all few (omega arith) in
    let two = parts_of (j + m) c t all few within in
    let high = bytes_number (drop j c) + 2 ^ (8 * (7 - j)) * t in
    let rest = bytes_number (drop (j + m) c) in
    let top = rest + 2 ^ (8 * (7 - (j + m))) * t in
    let front = bytes_number (take j c) in
    let low : w % 2 ^ (8 * j) ≡ front = ap (λ x. x % 2 ^ (8 * j)) one.1 ∙ mod_low high (8 * j) front one.0 in
    let behind : w / 2 ^ (8 * (j + m)) ≡ top = ap (λ x. x / 2 ^ (8 * (j + m))) two.1 ∙ shr_high top (8 * (j + m)) (bytes_number (take (j + m) c)) two.0 in
    let taken : length (take j c) ≡ j = length-take-le j c (omega arith) in
    let a = 2 ^ (8 * j) in
    let b = 2 ^ (8 * m) in
    let ab : a * b ≡ 2 ^ (8 * (j + m)) = power_split j m in
    let q = 2 ^ (8 * (7 - (j + m))) in
    let power : 2 ^ 56 ≡ 2 ^ (8 * (j + m)) * q = ap (λ n. 2 ^ (8 * n)) (let e : 7 ≡ j + m + (7 - (j + m)) = omega arith in e) ∙ sym (power_split (j + m) (7 - (j + m))) in
    let high_part : 2 ^ 56 * t ≡ 2 ^ (8 * (j + m)) * q * t = ap (λ x. x * t) power in
    let whole : bytes_number (take j c ++ (p ++ drop (j + m) c)) ≡ front + a * (bytes_number p + b * rest) =
    number-append (take j c) (p ++ drop (j + m) c) ∙ ap (λ n. front + 2 ^ (8 * n) * bytes_number (p ++ drop (j + m) c)) taken ∙ ap (λ x. front + a * x) (number-append p (drop (j + m) c)) in
    let spread : a * (b * rest) ≡ 2 ^ (8 * (j + m)) * rest = (let e : a * (b * rest) ≡ a * b * rest = omega arith in e) ∙ ap (λ x. x * rest) ab in
    ap (λ x. x + bytes_number p * a + w / 2 ^ (8 * (j + m)) * 2 ^ (8 * (j + m))) low
    ∙ ap (λ x. front + bytes_number p * a + x * 2 ^ (8 * (j + m))) behind
    ∙ (let z = 2 ^ (8 * (j + m)) in let e : front + bytes_number p * a + (rest + q * t) * z ≡ front + a * (bytes_number p + b * rest) + 2 ^ 56 * t = omega (arith, spread, high_part) in e)
    ∙ ap (λ x. x + 2 ^ 56 * t) (sym whole)

-- ---- word i of a text

-- the number of bytes that a word of a text says that it has: none, unless it is the last one
abbrev said : ℕ → ℕ → ℕ
said n i = if nat_le (n - 7 * i) 7 then n - 7 * i else 0

word_is : (bs : List ℕ) (i : ℕ) → i < fields_for (length bs) → get_or (spelled bs) i 0 ≡ bytes_number (take 7 (drop (7 * i) bs)) + 2 ^ 56 * said (length bs) i
word_is bs i less =
    let left = length-drop (7 * i) bs in
    elim (cases_lt 7 (length bs - 7 * i)) [
      | inl more ↦
          inner_word bs i (omega arith)
          ∙ (let n = bytes_number (take 7 (drop (7 * i) bs)) in let e : n ≡ n + 2 ^ 56 * 0 = omega arith in e)
          ∙ ap (λ (b : Bool). bytes_number (take 7 (drop (7 * i) bs)) + 2 ^ 56 * (if b then length bs - 7 * i else 0)) (sym (lt-leb (length bs - 7 * i) 7 more))
      | inr few ↦
          final_word bs i less (omega arith)
          ∙ ap (λ xs. bytes_number xs + 2 ^ 56 * length (drop (7 * i) bs)) (sym (take_all 7 (drop (7 * i) bs) (omega arith)))
          ∙ ap (λ n. bytes_number (take 7 (drop (7 * i) bs)) + 2 ^ 56 * n) left
          ∙ ap (λ (b : Bool). bytes_number (take 7 (drop (7 * i) bs)) + 2 ^ 56 * (if b then length bs - 7 * i else 0)) (sym (le-leb (length bs - 7 * i) 7 few))
    ]

-- ---- the bytes of word i afterwards

front_of : (k : ℕ) (xs ys : List ℕ) → take k (xs ++ ys) ≡ take k xs ++ take (k - length xs) ys
front_of k [] ys = ap (λ n. take n ys) (let e : k ≡ k - 0 = omega arith in e) ∙ nothing k
  where
    nothing : (k : ℕ) → take (k - 0) ys ≡ take {A = ℕ} k [] ++ take (k - 0) ys
    nothing zero = refl
    nothing (suc k) = refl
front_of zero (x ∷ xs) ys = ap (λ n. take n ys) (let e : 0 ≡ 0 - suc (length xs) = omega arith in e)
front_of (suc k) (x ∷ xs) ys = ap (λ zs. x ∷ zs) (front_of k xs ys) ∙ ap (λ n. x ∷ (take k xs ++ take n ys)) (let e : k - length xs ≡ suc k - suc (length xs) = omega arith in e)

module _ (text bytes : List ℕ) (at : ℕ) (within : at + length bytes ≤ length text) where
  abbrev new : List ℕ
  new = overwritten text at bytes

  abbrev n : ℕ
  n = length bytes

  abbrev back : List ℕ
  back = drop (at + n) text

  grouped : new ≡ take at text ++ (bytes ++ back)
  grouped = append_assoc (take at text) bytes back

  front : length (take at text) ≡ at
  front = length-take-le at text (omega arith)

  pub same_length : length new ≡ length text
  same_length = let f = front in let a = length-append (take at text) bytes in let b = length-append (take at text ++ bytes) back in let d = length-drop (at + n) text in omega arith

  -- what is left behind the bytes that are written
  back_of : (a j m : ℕ) → m ≡ min (7 - j) n → at ≡ a + j → j ≤ 7 → take (7 - j - n) back ≡ take (7 - (j + m)) (drop (a + (j + m)) text)
  back_of a j m is place few = elim (cases_lt (7 - j) n) [
    | inl more ↦
        ap (λ k. take k back) (let e : 7 - j - n ≡ 0 = omega arith in e) ∙ ap (λ k. take k (drop (a + (j + m)) text)) (let e : 0 ≡ 7 - (j + m) = omega arith in e)
    | inr less ↦
        ap (λ k. take k back) (let e : 7 - j - n ≡ 7 - (j + m) = omega arith in e) ∙ ap (λ k. take (7 - (j + m)) (drop k text)) (let e : at + n ≡ a + (j + m) = omega arith in e)
  ]

  -- seven bytes from place `a` on, which is at most seven before `at`
  first_bytes : (a j : ℕ) → at ≡ a + j → j ≤ 7 → take 7 (drop a new) ≡ take j (take 7 (drop a text)) ++ (take (7 - j) bytes ++ drop (j + length (take (7 - j) bytes)) (take 7 (drop a text)))
  first_bytes a j is few =
      let f = front in
      let d = length-drop a text in
      let x = take j (drop a text) in
      let long : length x ≡ j = length-take-le j (drop a text) (omega arith) in
      let p = take (7 - j) bytes in
      let c = take 7 (drop a text) in
      let size = length-take (7 - j) bytes in
      let total : 7 ≡ (j + length p) + (7 - (j + length p)) = omega arith in
      let kept : drop (j + length p) c ≡ take (7 - (j + length p)) (drop (a + (j + length p)) text) =
      ap (λ k. drop (j + length p) (take k (drop a text))) total ∙ drop-take (j + length p) (7 - (j + length p)) (drop a text) ∙ ap (take (7 - (j + length p))) (drop-drop (j + length p) a text) in
      ap (λ xs. take 7 (drop a xs)) grouped
      ∙ ap (take 7) (drop-append-le a (take at text) (bytes ++ back) (omega arith))
      ∙ ap (λ k. take 7 (drop a (take k text) ++ (bytes ++ back))) is
      ∙ ap (λ xs. take 7 (xs ++ (bytes ++ back))) (drop-take a j text)
      ∙ ap (λ k. take k (x ++ (bytes ++ back))) (let e : 7 ≡ length x + (7 - j) = omega arith in e)
      ∙ take_on x (bytes ++ back) (7 - j)
      ∙ ap (λ xs. x ++ xs) (front_of (7 - j) bytes back)
      ∙ ap (λ xs. xs ++ (p ++ take (7 - j - n) back)) (sym (take-take j 7 (drop a text) few))
      ∙ ap (λ xs. take j c ++ (p ++ xs)) (back_of a j (length p) size is few ∙ sym kept)

  -- those from a place between `at` and the last byte that is written
  later_bytes : (a : ℕ) → at ≤ a → a ≤ at + n → take 7 (drop a new) ≡ take 7 (drop (a - at) bytes) ++ take (7 - length (drop (a - at) bytes)) back
  later_bytes a past before =
      let f = front in
      ap (λ xs. take 7 (drop a xs)) grouped
      ∙ ap (λ k. take 7 (drop k (take at text ++ (bytes ++ back)))) (let e : a ≡ length (take at text) + (a - at) = omega arith in e)
      ∙ ap (take 7) (drop_on (take at text) (bytes ++ back) (a - at) ∙ drop-append-le (a - at) bytes back (omega arith))
      ∙ front_of 7 (drop (a - at) bytes) back

  inner_bytes : (a : ℕ) → at ≤ a → a + 7 ≤ at + n → take 7 (drop a new) ≡ take 7 (drop (a - at) bytes)
  inner_bytes a past before =
      let d = length-drop (a - at) bytes in
      later_bytes a past (omega arith)
      ∙ ap (λ k. take 7 (drop (a - at) bytes) ++ take k back) (let e : 7 - length (drop (a - at) bytes) ≡ 0 = omega arith in e)
      ∙ append-nil (take 7 (drop (a - at) bytes))

  last_bytes : (a : ℕ) → at ≤ a → a ≤ at + n → at + n ≤ a + 7 → take 7 (drop a new) ≡ take 0 (take 7 (drop a text)) ++ (drop (a - at) bytes ++ drop (0 + length (drop (a - at) bytes)) (take 7 (drop a text)))
  last_bytes a past before few =
      let p = drop (a - at) bytes in
      let d = length-drop (a - at) bytes in
      let m = length p in
      later_bytes a past before
      ∙ ap (λ xs. xs ++ take (7 - m) back) (take_all 7 p (omega arith))
      ∙ ap (λ k. p ++ take (7 - m) (drop k text)) (let e : at + n ≡ a + (0 + m) = omega arith in e)
      ∙ ap (λ xs. p ++ take (7 - m) xs) (sym (drop-drop (0 + m) a text))
      ∙ ap (λ xs. p ++ xs) (ap (λ k. take k (drop (0 + m) (drop a text))) (let e : 7 - m ≡ 7 - (0 + m) = omega arith in e) ∙ sym (drop-take (0 + m) (7 - (0 + m)) (drop a text)) ∙ ap (λ k. drop (0 + m) (take k (drop a text))) (let e : 0 + m + (7 - (0 + m)) ≡ 7 = omega arith in e))

  -- ---- word i of those that change

  abbrev skip : ℕ
  skip = at % 7

  abbrev first : ℕ
  first = get_or (spelled text) (at / 7) 0

  abbrev last : ℕ
  last = get_or (spelled text) ((at + n - 1) / 7) 0

  module _ (some : 0 < n) (all : AreBytes text) where
    -- the word of the text at w is like this one of the new text
    word_like : (w : ℕ) → w < fields_for (length text) → get_or (spelled new) w 0 ≡ bytes_number (take 7 (drop (7 * w) new)) + 2 ^ 56 * said (length text) w
    word_like w less = let same = same_length in word_is new w (omega arith) ∙ ap (λ k. bytes_number (take 7 (drop (7 * w) new)) + 2 ^ 56 * said k w) same

    -- the word at w with bytes from j on
    patch : (w j : ℕ) (p : List ℕ) → w < fields_for (length text) → j + length p ≤ length (take 7 (drop (7 * w) text))
        → take 7 (drop (7 * w) new) ≡ take j (take 7 (drop (7 * w) text)) ++ (p ++ drop (j + length p) (take 7 (drop (7 * w) text)))
        → get_or (spelled new) w 0 ≡ patched_word (get_or (spelled text) w 0) j p
    patch w j p less fits is =
        let c = take 7 (drop (7 * w) text) in
        let t = said (length text) w in
        let few = length-take 7 (drop (7 * w) text) in
        word_like w less
        ∙ ap (λ xs. bytes_number xs + 2 ^ 56 * t) is
        ∙ sym (patched_bytes j c p t (bytes_parted 7 (drop (7 * w) text) (bytes_parted (7 * w) text all).1).0 (omega arith) fits)
        ∙ ap (λ x. patched_word x j p) (sym (word_is text w less))

    changed_first : get_or (spelled new) (at / 7) 0 ≡ patched_word first skip (take (7 - skip) bytes)
    changed_first =
        let w = at / 7 in
        let size = length-take (7 - skip) bytes in
        let room = length-take 7 (drop (7 * w) text) in
        let left = length-drop (7 * w) text in
        patch w skip (take (7 - skip) bytes) (omega arith) (omega arith) (first_bytes (7 * w) skip (omega arith) (omega arith))

    changed_last : (i : ℕ) → 0 < i → 7 * i - skip ≤ n → n - (7 * i - skip) ≤ 7 → 7 * i < skip + n → get_or (spelled new) (at / 7 + i) 0 ≡ patched_word last 0 (drop (7 * i - skip) bytes)
    changed_last i later before few less =
        let w = at / 7 + i in
        let place : 7 * w - at ≡ 7 * i - skip = omega arith in
        let size = length-drop (7 * i - skip) bytes in
        let room = length-take 7 (drop (7 * w) text) in
        let left = length-drop (7 * w) text in
        let same : w ≡ (at + n - 1) / 7 = omega arith in
        patch w 0 (drop (7 * i - skip) bytes) (omega arith) (omega arith)
        (subst (λ k. take 7 (drop (7 * w) new) ≡ take 0 (take 7 (drop (7 * w) text)) ++ (drop k bytes ++ drop (0 + length (drop k bytes)) (take 7 (drop (7 * w) text)))) place (last_bytes (7 * w) (omega arith) (omega arith) (omega arith)))
        ∙ ap (λ k. patched_word (get_or (spelled text) k 0) 0 (drop (7 * i - skip) bytes)) same

    changed_inner : (i : ℕ) → 0 < i → 7 < n - (7 * i - skip) → get_or (spelled new) (at / 7 + i) 0 ≡ bytes_number (take 7 (drop (7 * i - skip) bytes))
    changed_inner i later more =
        let w = at / 7 + i in
        let same = same_length in
        let left = length-drop (7 * w) new in
        inner_word new w (omega arith)
        ∙ ap bytes_number (inner_bytes (7 * w) (omega arith) (omega arith))
        ∙ ap (λ k. bytes_number (take 7 (drop k bytes))) (let e : 7 * w - at ≡ 7 * i - skip = omega arith in e)

    changed_at : (i : ℕ) → i < changed_count skip bytes → get_or (spelled new) (at / 7 + i) 0 ≡ changed_word first last skip bytes i
    changed_at zero less = ap (λ k. get_or (spelled new) k 0) (let e : at / 7 + 0 ≡ at / 7 = omega arith in e) ∙ changed_first
    changed_at (suc i) less =
        let rest = drop (7 * suc i - skip) bytes in
        let left = length-drop (7 * suc i - skip) bytes in
        let choice = λ (b : Bool). if b then patched_word last 0 rest else bytes_number (take 7 rest) in
        let later = λ (b : Bool). if b then patched_word first skip (take (7 - skip) bytes) else choice (nat_le (length rest) 7) in
        let next : suc i ≡ 0 → ⊥ = (λ is. omega arith) in
        let is : later false ≡ changed_word first last skip bytes (suc i) = ap later (sym (ne_eqb (suc i) 0 next)) in
        elim (cases_lt 7 (length rest)) [
          | inl more ↦ changed_inner (suc i) (omega arith) (omega arith) ∙ ap choice (sym (lt-leb (length rest) 7 more)) ∙ is
          | inr few ↦ changed_last (suc i) (omega arith) (omega arith) (omega arith) (omega arith) ∙ ap choice (sym (le-leb (length rest) 7 few)) ∙ is
        ]

-- ---- all words that change

pub changed_length : (first last skip : ℕ) (bytes : List ℕ) → length (changed_in first last skip bytes) ≡ changed_count skip bytes
unfolding changed_in
changed_length first last skip bytes = length-map-range_with_len (changed_word first last skip bytes) 0 (changed_count skip bytes)

pub changed_word_at : (first last skip : ℕ) (bytes : List ℕ) (i : ℕ) → i < changed_count skip bytes → get_or (changed_in first last skip bytes) i 0 ≡ changed_word first last skip bytes i
unfolding changed_in
changed_word_at first last skip bytes i less = get_or-map-range_with_len (changed_word first last skip bytes) 0 (changed_count skip bytes) i i 0 less (omega arith)

-- where there is a byte
abbrev slice : List ℕ → ℕ → List ℕ → List ℕ
slice text at bytes = slice_range (spelled (overwritten text at bytes)) (at / 7) (fields_for (at + length bytes))

pub some_change : (text : List ℕ) (at : ℕ) (bytes : List ℕ) → 0 < length bytes → changed_words text at bytes ≡ slice text at bytes
some_change text at [] some = absurd (omega arith)
some_change text at (b ∷ rest) some = refl

pub slice_length : (text : List ℕ) (at : ℕ) (bytes : List ℕ) → 0 < length bytes → at + length bytes ≤ length text → length (slice text at bytes) ≡ changed_count (at % 7) bytes
slice_length text at bytes some within =
    let same = same_length text bytes at within in
    let count = fields_counted (overwritten text at bytes) in
    let all = length-drop (at / 7) (spelled (overwritten text at bytes)) in
    let part = length-take (fields_for (at + length bytes) - at / 7) (drop (at / 7) (spelled (overwritten text at bytes))) in
    omega arith

pub changed_are : (text : List ℕ) (at : ℕ) (bytes : List ℕ) → 0 < length bytes → at + length bytes ≤ length text → AreBytes text
    → changed_in (get_or (spelled text) (at / 7) 0) (get_or (spelled text) ((at + length bytes - 1) / 7) 0) (at % 7) bytes ≡ changed_words text at bytes
changed_are text at bytes some within all =
    let first = get_or (spelled text) (at / 7) 0 in
    let last = get_or (spelled text) ((at + length bytes - 1) / 7) 0 in
    let skip = at % 7 in
    let one = changed_length first last skip bytes in
    let other = slice_length text at bytes some within in
    let words = spelled (overwritten text at bytes) in
    let count = fields_for (at + length bytes) - at / 7 in
    ext_get_or 0 (changed_in first last skip bytes) (slice text at bytes) (one ∙ sym other) (λ i less.
    let inside : i < changed_count skip bytes = omega arith in
    changed_word_at first last skip bytes i inside
    ∙ sym (changed_at text bytes at within some all i inside)
    ∙ sym (get_or-take count (drop (at / 7) words) i 0 (omega arith) ∙ get_or-drop (at / 7) words i 0)
    )
    ∙ sym (some_change text at bytes some)

-- ---- what word i of them is

module _ (first last skip : ℕ) (bytes : List ℕ) (i : ℕ) where
  abbrev rest_at : List ℕ
  rest_at = drop (7 * i - skip) bytes

  abbrev of_rest : Bool → ℕ
  of_rest few = if few then patched_word last 0 rest_at else bytes_number (take 7 rest_at)

  abbrev of_all : Bool → ℕ
  of_all is_first = if is_first then patched_word first skip (take (7 - skip) bytes) else of_rest (nat_le (length rest_at) 7)

  pub first_of_all : i ≡ 0 → changed_word first last skip bytes i ≡ patched_word first skip (take (7 - skip) bytes)
  first_of_all is = ap of_all (eq-eqb i 0 is)

  pub last_of_all : (i ≡ 0 → ⊥) → length rest_at ≤ 7 → changed_word first last skip bytes i ≡ patched_word last 0 rest_at
  last_of_all later few = ap of_all (ne_eqb i 0 later) ∙ ap of_rest (le-leb (length rest_at) 7 few)

  pub whole_of_all : (i ≡ 0 → ⊥) → 7 < length rest_at → changed_word first last skip bytes i ≡ bytes_number (take 7 rest_at)
  whole_of_all later more = ap of_all (ne_eqb i 0 later) ∙ ap of_rest (lt-leb (length rest_at) 7 more)
