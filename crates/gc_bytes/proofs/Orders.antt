-- The order of lists of bytes.
use Rattle.std.proofs.Common.{◌≡◌, ℕ, suc, ◌+◌, ◌-◌, ◌*◌, ◌/◌, ◌%◌, ◌<◌, ◌≤◌, List, [], ◌∷◌, ◌++◌, length, get_or, take, drop, min, refl, ap, sym, ◌∙◌, arith}
use Rattle.std.specs.Cmp.Lexicographic.{slice_cmp}
use Rattle.std.specs.Ordering.{nat_cmp, ordering_then}
use Rattle.std.specs.declared.cmp.Ordering.{Ordering}
use Rattle.std.specs.declared.cmp.Ordering.TheVariants.{Less, Equal, Greater}
use Rattle.std.proofs.lemmas.List.{append_assoc, drop_at, length-drop, length-take-le, take-append-drop, take-take}
use Rattle.gc_bytes.specs.Text.{bytes_of, digits}
use Rattle.gc_bytes.proofs.Digits.{bytes_more, length-bytes_of, length-digits}

abbrev pub order : List ℕ → List ℕ → Ordering
order xs ys = slice_cmp nat_cmp xs ys

pub nat_same : (n : ℕ) → nat_cmp n n ≡ Equal
nat_same n = grind arith

pub nat_other : (p q : ℕ) → (p ≡ q → ⊥) → nat_cmp p q ≡ Equal → ⊥
nat_other p q other same = grind arith

pub order_same : (xs : List ℕ) → order xs xs ≡ Equal
order_same [] = refl
order_same (x ∷ xs) = ap (λ o. ordering_then o (order xs xs)) (nat_same x) ∙ order_same xs

then_then : (a b c : Ordering) → ordering_then a (ordering_then b c) ≡ ordering_then (ordering_then a b) c
then_then Less b c = refl
then_then Equal b c = refl
then_then Greater b c = refl

-- the beginnings decide, unless they are the same
order_append : (xs ys ps qs : List ℕ) → length xs ≡ length ys → order (xs ++ ps) (ys ++ qs) ≡ ordering_then (order xs ys) (order ps qs)
order_append [] [] ps qs same = refl
order_append [] (y ∷ ys) ps qs same = absurd (omega arith)
order_append (x ∷ xs) [] ps qs same = absurd (omega arith)
order_append (x ∷ xs) (y ∷ ys) ps qs same = ap (ordering_then (nat_cmp x y)) (order_append xs ys ps qs (omega arith)) ∙ then_then (nat_cmp x y) (order xs ys) (order ps qs)

-- the digits of a word are followed by the bytes behind them
word_split : (words : List ℕ) (n w r : ℕ) → r ≤ 7 → n ≤ 7 * length words → 7 * w + r ≤ n → w < length words → drop (7 * w) (take n (bytes_of words)) ≡ digits r (get_or words w 0) ++ drop (7 * w + r) (take n (bytes_of words))
word_split words n w r few within inside less =
    let bs = bytes_of words in
    let all = length-bytes_of words in
    ap (drop (7 * w)) (
    sym (take-append-drop (7 * w + r) (take n bs))
    ∙ ap (λ front. front ++ drop (7 * w + r) (take n bs)) (take-take (7 * w + r) n bs inside ∙ bytes_more words w r few less)
    ∙ append_assoc (take (7 * w) bs) (digits r (get_or words w 0)) (drop (7 * w + r) (take n bs))
    )
    ∙ drop_at (take (7 * w) bs) (digits r (get_or words w 0) ++ drop (7 * w + r) (take n bs)) (7 * w) (length-take-le (7 * w) bs (omega arith))

-- ---- the bytes of two lists of words

module _ (one other : List ℕ) (n m : ℕ) (within : n ≤ 7 * length one) (inside : m ≤ 7 * length other) where
  abbrev first : List ℕ
  first = take n (bytes_of one)

  abbrev second : List ℕ
  second = take m (bytes_of other)

  -- some bytes of one word of each
  pub order_part : (w r : ℕ) → 0 < r → r ≤ 7 → 7 * w + r ≤ n → 7 * w + r ≤ m
      → order (drop (7 * w) first) (drop (7 * w) second) ≡ ordering_then (order (digits r (get_or one w 0)) (digits r (get_or other w 0))) (order (drop (7 * w + r) first) (drop (7 * w + r) second))
  order_part w r some few low high =
      let x = get_or one w 0 in
      let y = get_or other w 0 in
      ap (λ xs. order xs (drop (7 * w) second)) (word_split one n w r few within low (omega arith))
      ∙ ap (λ ys. order (digits r x ++ drop (7 * w + r) first) ys) (word_split other m w r few inside high (omega arith))
      ∙ order_append (digits r x) (digits r y) (drop (7 * w + r) first) (drop (7 * w + r) second) (length-digits r x ∙ sym (length-digits r y))

  -- behind the bytes of the shorter one
  pub order_end : (k : ℕ) → k ≡ min n m → order (drop k first) (drop k second) ≡ nat_cmp n m
  order_end k is =
      let a = length-bytes_of one in
      let b = length-bytes_of other in
      let c = length-take-le n (bytes_of one) (omega arith) in
      let d = length-take-le m (bytes_of other) (omega arith) in
      let e = length-drop k first in
      let f = length-drop k second in
      end_at (drop k first) (drop k second) n m (omega arith) (omega arith)
    where
      end_at : (xs ys : List ℕ) (n m : ℕ) → length xs ≡ n - min n m → length ys ≡ m - min n m → order xs ys ≡ nat_cmp n m
      end_at [] [] n m p q = let e : n ≡ m = omega arith in sym (ap (λ k. nat_cmp n k) (sym e) ∙ nat_same n)
      end_at [] (y ∷ ys) n m p q = let e : n < m = omega arith in grind arith
      end_at (x ∷ xs) [] n m p q = let e : m < n = omega arith in grind arith
      end_at (x ∷ xs) (y ∷ ys) n m p q = absurd (omega arith)

-- what is not the same decides
pub decided : (o rest : Ordering) → (o ≡ Equal → ⊥) → ordering_then o rest ≡ o
decided Less rest other = refl
decided Equal rest other = absurd (other refl)
decided Greater rest other = refl

-- one digit and the rest
pub digit_step : (k i x : ℕ) → i < k → digits (k - i) x ≡ x % 256 ∷ digits (k - (i + 1)) (x / 256)
unfolding digits
digit_step k i x less = ap (λ n. digits n x) (let e : k - i ≡ suc (k - (i + 1)) = omega arith in e)

pub no_digit : (k i x y : ℕ) → k ≤ i → order (digits (k - i) x) (digits (k - i) y) ≡ Equal
unfolding digits
no_digit k i x y past = ap (λ n. order (digits n x) (digits n y)) (let e : k - i ≡ 0 = omega arith in e)

-- only the same list compares as equal
pub equal_same : (xs ys : List ℕ) → order xs ys ≡ Equal → xs ≡ ys
equal_same [] [] is = refl
equal_same [] (y ∷ ys) is = absurd (let no : Less ≡ Equal = is in cc)
equal_same (x ∷ xs) [] is = absurd (let no : Greater ≡ Equal = is in cc)
equal_same (x ∷ xs) (y ∷ ys) is =
    let first : nat_cmp x y ≡ Equal = both_equal (nat_cmp x y) (order xs ys) is in
    let rest : order xs ys ≡ Equal = sym (ap (λ o. ordering_then o (order xs ys)) first) ∙ is in
    let one : x ≡ y = same_number x y first in
    ap (λ z. z ∷ xs) one ∙ ap (λ zs. y ∷ zs) (equal_same xs ys rest)
  where
    both_equal : (a b : Ordering) → ordering_then a b ≡ Equal → a ≡ Equal
    both_equal Less b is = is
    both_equal Equal b is = refl
    both_equal Greater b is = is

    same_number : (x y : ℕ) → nat_cmp x y ≡ Equal → x ≡ y
    same_number x y is = grind arith
