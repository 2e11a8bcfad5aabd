-- Parts of texts.
use Rattle.std.proofs.Common.{◌≡◌, ℕ, zero, suc, ◌+◌, ◌-◌, ◌*◌, ◌/◌, ◌^◌, ◌<◌, ◌≤◌, List, [], ◌∷◌, ◌++◌, length, get_or, take, drop, refl, ap, sym, ◌∙◌, subst, arith, lit<}
use Rattle.std.proofs.lemmas.List.{drop-append-le, drop-take, length-drop, length-take-le, take-append-le, take-take}
use Rattle.std.proofs.lemmas.Nat.{pow-add}
use Rattle.std.proofs.Math.Nat.{pow-le-pow_right, pow-suc}
use Rattle.gc_bytes.specs.Text.{AreBytes, bytes_of, digits, fields_for, bytes_number, spelled}
use Rattle.gc_bytes.proofs.Digits.{drop_on, number-append, number_below, take_on}
use Rattle.gc_bytes.proofs.Spelled.{bytes_parted, final_word, inner_word}

-- ---- bytes

digits_are : (n w : ℕ) → AreBytes (digits n w)
unfolding digits
digits_are zero w = tt
digits_are (suc n) w = (omega arith, digits_are n (w / 256))

pub joined_are : (xs ys : List ℕ) → AreBytes xs → AreBytes ys → AreBytes (xs ++ ys)
joined_are [] ys all more = more
joined_are (x ∷ xs) ys (less, all) more = (less, joined_are xs ys all more)

pub bytes_are : (words : List ℕ) → AreBytes (bytes_of words)
bytes_are [] = tt
bytes_are (w ∷ rest) = joined_are (digits 7 w) (bytes_of rest) (digits_are 7 w) (bytes_are rest)

pow_bytes : (n : ℕ) → 256 ^ n ≡ 2 ^ (8 * n)
pow_bytes zero = refl
pow_bytes (suc n) =
    pow-suc 256 n
    ∙ ap (λ p. p * 256) (pow_bytes n)
    ∙ sym (pow-add 2 (8 * n) 8)
    ∙ ap (λ k. 2 ^ k) (let e : 8 * n + 8 ≡ 8 * suc n = omega arith in e)

-- n bytes are a number below 256^n
pub number_bound : (n at : ℕ) (bs : List ℕ) → AreBytes bs → bytes_number (take n (drop at bs)) < 2 ^ (8 * n)
number_bound n at bs all =
    let few : length (take n (drop at bs)) ≤ n = take_few n (drop at bs) in
    subst (λ p. bytes_number (take n (drop at bs)) < p) (pow_bytes n) (number_below (take n (drop at bs)) n (bytes_parted n (drop at bs) (bytes_parted at bs all).1).0 few)
  where
    take_few : (n : ℕ) (xs : List ℕ) → length (take n xs) ≤ n
    take_few zero xs = omega arith
    take_few (suc n) [] = omega arith
    take_few (suc n) (x ∷ xs) = let rec = take_few n xs in omega arith

-- at most seven are below 2^56
pub number_bounded : (n at : ℕ) (bs : List ℕ) → AreBytes bs → n ≤ 7 → bytes_number (take n (drop at bs)) < 2 ^ 56
number_bounded n at bs all few =
    let below = number_bound n at bs all in
    let high : 2 ^ (8 * n) ≤ 2 ^ 56 = (let le : 8 * n ≤ 56 = omega arith in pow-le-pow_right (lit< tt) le) in
    omega arith

-- ---- the beginning of a list

-- a part of the beginning is that part
part_of : (n at total : ℕ) (bs : List ℕ) → at + n ≤ total → take n (drop at (take total bs)) ≡ take n (drop at bs)
part_of n at total bs within =
    ap (λ k. take n (drop at (take k bs))) (let e : total ≡ at + (total - at) = omega arith in e)
    ∙ ap (take n) (drop-take at (total - at) bs)
    ∙ take-take n (total - at) (drop at bs) (omega arith)

-- its end
end_of : (at total : ℕ) (bs : List ℕ) → at ≤ total → drop at (take total bs) ≡ take (total - at) (drop at bs)
end_of at total bs within = ap (λ k. drop at (take k bs)) (let e : total ≡ at + (total - at) = omega arith in e) ∙ drop-take at (total - at) bs

-- ---- one list behind another

module _ (count : ℕ) (one other : List ℕ) (within : count ≤ length one) where
  abbrev front : List ℕ
  front = take count one

  long : length front ≡ count
  long = length-take-le count one within

  pub across_one : (n at : ℕ) → at + n ≤ count → take n (drop at one) ≡ take n (drop at (front ++ other))
  across_one n at less =
      let l = long in
      let d = length-drop at front in
      sym (
      ap (take n) (drop-append-le at front other (omega arith))
      ∙ take-append-le n (drop at front) other (omega arith)
      ∙ part_of n at count one less
      )

  pub across_other : (n at : ℕ) → count ≤ at → take n (drop (at - count) other) ≡ take n (drop at (front ++ other))
  across_other n at more =
      let l = long in
      ap (take n) (sym (drop_on front other (at - count)) ∙ ap (λ k. drop k (front ++ other)) (let e : length front + (at - count) ≡ at = omega arith in e))

  pub across_both : (n at : ℕ) → at ≤ count → count ≤ at + n → bytes_number (take (count - at) (drop at one)) + bytes_number (take (n - (count - at)) (drop 0 other)) * 2 ^ (8 * (count - at)) ≡ bytes_number (take n (drop at (front ++ other)))
  across_both n at less more =
      let k = count - at in
      let l = long in
      let d = length-drop at front in
      let part : take k (drop at one) ≡ drop at front = sym (end_of at count one less) in
      let counted : length (take k (drop at one)) ≡ k = ap length part ∙ (let e : length (drop at front) ≡ k = omega arith in e) in
      let low = bytes_number (take k (drop at one)) in
      let high = bytes_number (take (n - k) other) in
      sym (
      ap bytes_number (
      ap (take n) (drop-append-le at front other (omega arith) ∙ ap (λ xs. xs ++ other) (sym part))
      ∙ ap (λ j. take j (take k (drop at one) ++ other)) (let e : n ≡ length (take k (drop at one)) + (n - k) = omega arith in e)
      ∙ take_on (take k (drop at one)) other (n - k)
      )
      ∙ number-append (take k (drop at one)) (take (n - k) other)
      ∙ ap (λ j. low + 2 ^ (8 * j) * high) counted
      ∙ (let p = 2 ^ (8 * k) in let e : low + p * high ≡ low + high * p = omega arith in e)
      )

  pub behind : (more : ℕ) → front ++ take more other ≡ take (count + more) (front ++ other)
  behind more = let l = long in sym (ap (λ k. take k (front ++ other)) (let e : count + more ≡ length front + more = omega arith in e) ∙ take_on front other more)

-- ---- words of the beginning of a list

pub inner_part : (total i : ℕ) (bs : List ℕ) → total ≤ length bs → 7 < total - 7 * i → get_or (spelled (take total bs)) i 0 ≡ bytes_number (take 7 (drop (7 * i) bs))
inner_part total i bs within more =
    let l = length-take-le total bs within in
    let d = length-drop (7 * i) (take total bs) in
    inner_word (take total bs) i (omega arith) ∙ ap bytes_number (part_of 7 (7 * i) total bs (omega arith))

pub final_part : (total i : ℕ) (bs : List ℕ) → total ≤ length bs → i < fields_for total → total - 7 * i ≤ 7 → get_or (spelled (take total bs)) i 0 ≡ bytes_number (take (total - 7 * i) (drop (7 * i) bs)) + 2 ^ 56 * (total - 7 * i)
final_part total i bs within less few =
    let l = length-take-le total bs within in
    let d = length-drop (7 * i) (take total bs) in
    let left : length (drop (7 * i) (take total bs)) ≡ total - 7 * i = omega arith in
    final_word (take total bs) i (omega arith) (omega arith)
    ∙ ap (λ n. bytes_number (drop (7 * i) (take total bs)) + 2 ^ 56 * n) left
    ∙ ap (λ xs. bytes_number xs + 2 ^ 56 * (total - 7 * i)) (end_of (7 * i) total bs (omega arith))
