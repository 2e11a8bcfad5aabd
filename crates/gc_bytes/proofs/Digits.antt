-- Digits to the base 256.
use Rattle.std.proofs.Common.{◌≡◌, ℕ, zero, suc, ◌+◌, ◌-◌, ◌*◌, ◌/◌, ◌%◌, ◌^◌, ◌<◌, ◌≤◌, List, [], ◌∷◌, ◌++◌, length, get_or, set, take, drop, refl, ap, sym, ◌∙◌, subst, arith, lit<}
use Rattle.std.specs.Int.{to_le_bytes, w64}
use Rattle.std.proofs.Math.Nat.{pow-le-pow_right, pow-suc}
use Rattle.std.proofs.lemmas.List.{append-nil, append_assoc, drop-append-le, drop_more, length-append, length-set, take-append-le, take_all, take_more_set}
use Rattle.std.proofs.lemmas.Nat.{field_of, mod-pow-add, pow-add, shr-shr}
use Rattle.gc_bytes.specs.Text.{AreBytes, bytes_number, digits, bytes_of}

-- ---- numbers

pub bytes_from_index : (bs : List ℕ) → ((i : ℕ) → get_or bs i 0 < 256) → AreBytes bs
bytes_from_index [] small = tt
bytes_from_index (b ∷ rest) small = (small 0, bytes_from_index rest (λ i. small (suc i)))

one_digit : (b n p r x : ℕ) → b < 256 → x ≡ b + 256 * n + p * 256 * r → (x % 256 ≡ b) × (x / 256 ≡ n + p * r)
one_digit b n p r x less is =
    let e : x ≡ b + 256 * (n + p * r) = omega arith in
    (omega (arith, e), omega (arith, e))

-- the digits of a number, with whatever comes above them
pub digits_of : (bs : List ℕ) (r : ℕ) → AreBytes bs → digits (length bs) (bytes_number bs + 256 ^ length bs * r) ≡ bs
unfolding bytes_number digits
digits_of [] r all = refl
digits_of (b ∷ rest) r (less, all) =
    let n = bytes_number rest in
    let x = b + 256 * n + 256 ^ suc (length rest) * r in
    let one = one_digit b n (256 ^ length rest) r x less (ap (λ p. b + 256 * n + p * r) (pow-suc 256 (length rest))) in
    ap (λ d. d ∷ digits (length rest) (x / 256)) one.0 ∙ ap (λ y. b ∷ digits (length rest) y) one.1 ∙ ap (λ ds. b ∷ ds) (digits_of rest r all)

number_small : (bs : List ℕ) → AreBytes bs → bytes_number bs < 256 ^ length bs
unfolding bytes_number
number_small [] all = lit< tt
number_small (b ∷ rest) (less, all) =
    let rec : bytes_number rest < 256 ^ length rest = number_small rest all in
    let e : 256 ^ suc (length rest) ≡ 256 ^ length rest * 256 = pow-suc 256 (length rest) in
    omega arith

-- fewer digits are a smaller number
pub number_below : (bs : List ℕ) (n : ℕ) → AreBytes bs → length bs ≤ n → bytes_number bs < 256 ^ n
number_below bs n all few =
    let small : bytes_number bs < 256 ^ length bs = number_small bs all in
    let below : 256 ^ length bs ≤ 256 ^ n = pow-le-pow_right (lit< tt) few in
    omega arith

-- one digit more
pub number_more : (ds : List ℕ) (k : ℕ) → 0 < k → k ≤ length ds → bytes_number (drop k ds) * 256 + get_or ds (k - 1) 0 ≡ bytes_number (drop (k - 1) ds)
unfolding bytes_number
number_more ds k some within =
    let next : k - 1 + 1 ≡ k = omega arith in
    let is : drop (k - 1) ds ≡ get_or ds (k - 1) 0 ∷ drop k ds = drop_more ds (k - 1) 0 (omega arith) ∙ ap (λ j. get_or ds (k - 1) 0 ∷ drop j ds) next in
    (let e : bytes_number (drop k ds) * 256 + get_or ds (k - 1) 0 ≡ get_or ds (k - 1) 0 + 256 * bytes_number (drop k ds) = omega arith in e) ∙ ap bytes_number (sym is)

-- the number of seven digits
pub number_seven : (bs : List ℕ) → 7 ≤ length bs
    → bytes_number (take 7 bs) ≡ get_or bs 0 0 + 256 * (get_or bs 1 0 + 256 * (get_or bs 2 0 + 256 * (get_or bs 3 0 + 256 * (get_or bs 4 0 + 256 * (get_or bs 5 0 + 256 * (get_or bs 6 0 + 256 * 0))))))
unfolding bytes_number
number_seven [] long = absurd (omega arith)
number_seven (a ∷ []) long = absurd (omega arith)
number_seven (a ∷ b ∷ []) long = absurd (omega arith)
number_seven (a ∷ b ∷ c ∷ []) long = absurd (omega arith)
number_seven (a ∷ b ∷ c ∷ d ∷ []) long = absurd (omega arith)
number_seven (a ∷ b ∷ c ∷ d ∷ e ∷ []) long = absurd (omega arith)
number_seven (a ∷ b ∷ c ∷ d ∷ e ∷ f ∷ []) long = absurd (omega arith)
number_seven (a ∷ b ∷ c ∷ d ∷ e ∷ f ∷ g ∷ rest) long = refl

-- ---- digits

-- one digit more is written
pub digits_on : (out : List ℕ) (word rest k : ℕ) → k < length out → take k out ++ digits (length out - k) rest ≡ digits (length out) word
    → take (k + 1) (set out k (rest % 256)) ++ digits (length (set out k (rest % 256)) - (k + 1)) (rest / 256) ≡ digits (length (set out k (rest % 256))) word
unfolding digits
digits_on out word rest k less so_far =
    let same : length (set out k (rest % 256)) ≡ length out = length-set out k (rest % 256) in
    let left : length out - k ≡ suc (length out - (k + 1)) = omega arith in
    ap (λ ds. ds ++ digits (length (set out k (rest % 256)) - (k + 1)) (rest / 256)) (take_more_set out k (rest % 256) less)
    ∙ append_assoc (take k out) (rest % 256 ∷ []) (digits (length (set out k (rest % 256)) - (k + 1)) (rest / 256))
    ∙ ap (λ n. take k out ++ (rest % 256 ∷ digits (n - (k + 1)) (rest / 256))) same
    ∙ ap (λ n. take k out ++ digits n rest) (sym left)
    ∙ so_far
    ∙ ap (λ n. digits n word) (sym same)

pub digits_done : (out : List ℕ) (word rest k : ℕ) → length out ≤ k → take k out ++ digits (length out - k) rest ≡ digits (length out) word → out ≡ digits (length out) word
unfolding digits
digits_done out word rest k past all =
    sym (append-nil out)
    ∙ ap (λ ds. ds ++ []) (sym (take_all k out past))
    ∙ ap (λ n. take k out ++ digits n rest) (let e : 0 ≡ length out - k = omega arith in e)
    ∙ all

pub length-digits : (n w : ℕ) → length (digits n w) ≡ n
unfolding digits
length-digits zero w = refl
length-digits (suc n) w = ap suc (length-digits n (w / 256))

pub take-digits : (m k w : ℕ) → take m (digits (m + k) w) ≡ digits m w
unfolding digits
take-digits zero k w = refl
take-digits (suc m) k w = subst (λ (j : ℕ). take (suc m) (digits j w) ≡ digits (suc m) w) (let e : suc (m + k) ≡ suc m + k = omega arith in e) (ap (λ ds. w % 256 ∷ ds) (take-digits m k (w / 256)))

drop-digits : (m k w : ℕ) → drop m (digits (m + k) w) ≡ digits k (w / 2 ^ (8 * m))
unfolding digits
drop-digits zero k w = ap (λ j. digits j w) (let e : 0 + k ≡ k = omega arith in e) ∙ ap (digits k) (let e : w ≡ w / 1 = omega arith in e)
drop-digits (suc m) k w =
    ap (λ j. drop (suc m) (digits j w)) (let e : suc m + k ≡ suc (m + k) = omega arith in e)
    ∙ drop-digits m k (w / 256)
    ∙ ap (digits k) (shr-shr w 8 (8 * m) ∙ ap (λ j. w / 2 ^ j) (let e : 8 + 8 * m ≡ 8 * suc m = omega arith in e))

-- ---- the bytes of words

pub length-bytes_of : (words : List ℕ) → length (bytes_of words) ≡ 7 * length words
length-bytes_of [] = refl
length-bytes_of (w ∷ rest) =
    length-append (digits 7 w) (bytes_of rest) ∙ ap (λ n. n + length (bytes_of rest)) (length-digits 7 w) ∙ ap (λ n. 7 + n) (length-bytes_of rest) ∙ (let e : 7 + 7 * length rest ≡ 7 * suc (length rest) = omega arith in e)

pub take_on : (xs ys : List ℕ) (m : ℕ) → take (length xs + m) (xs ++ ys) ≡ xs ++ take m ys
take_on [] ys m = ap (λ k. take k ys) (let e : 0 + m ≡ m = omega arith in e)
take_on (x ∷ xs) ys m = ap (λ k. take k (x ∷ xs ++ ys)) (let e : suc (length xs) + m ≡ suc (length xs + m) = omega arith in e) ∙ ap (λ zs. x ∷ zs) (take_on xs ys m)

pub drop_on : (xs ys : List ℕ) (m : ℕ) → drop (length xs + m) (xs ++ ys) ≡ drop m ys
drop_on [] ys m = ap (λ k. drop k ys) (let e : 0 + m ≡ m = omega arith in e)
drop_on (x ∷ xs) ys m = ap (λ k. drop k (x ∷ xs ++ ys)) (let e : suc (length xs) + m ≡ suc (length xs + m) = omega arith in e) ∙ drop_on xs ys m

-- some bytes of one word more
pub bytes_more : (words : List ℕ) (w r : ℕ) → r ≤ 7 → w < length words → take (7 * w + r) (bytes_of words) ≡ take (7 * w) (bytes_of words) ++ digits r (get_or words w 0)
bytes_more [] w r few less = absurd (omega arith)
bytes_more (x ∷ rest) zero r few less =
    take-append-le (7 * 0 + r) (digits 7 x) (bytes_of rest) (let e = length-digits 7 x in omega arith)
    ∙ ap (λ n. take n (digits 7 x)) (let e : 7 * 0 + r ≡ r = omega arith in e)
    ∙ ap (λ n. take r (digits n x)) (let e : 7 ≡ r + (7 - r) = omega arith in e)
    ∙ take-digits r (7 - r) x
bytes_more (x ∷ rest) (suc w) r few less =
    let seven = length-digits 7 x in
    ap (λ n. take n (digits 7 x ++ bytes_of rest)) (let e : 7 * suc w + r ≡ length (digits 7 x) + (7 * w + r) = omega arith in e)
    ∙ take_on (digits 7 x) (bytes_of rest) (7 * w + r)
    ∙ ap (λ bs. digits 7 x ++ bs) (bytes_more rest w r few (omega arith))
    ∙ sym (append_assoc (digits 7 x) (take (7 * w) (bytes_of rest)) (digits r (get_or rest w 0)))
    ∙ ap (λ bs. bs ++ digits r (get_or rest w 0)) (sym (take_on (digits 7 x) (bytes_of rest) (7 * w)) ∙ ap (λ n. take n (digits 7 x ++ bytes_of rest)) (let e : length (digits 7 x) + 7 * w ≡ 7 * suc w = omega arith in e))

-- the bytes from the middle of a word on
bytes_from : (words : List ℕ) (w s : ℕ) → s ≤ 7 → w < length words → drop (7 * w + s) (bytes_of words) ≡ digits (7 - s) (get_or words w 0 / 2 ^ (8 * s)) ++ bytes_of (drop (suc w) words)
bytes_from [] w s few less = absurd (omega arith)
bytes_from (x ∷ rest) zero s few less =
    ap (λ n. drop n (digits 7 x ++ bytes_of rest)) (let e : 7 * 0 + s ≡ s = omega arith in e)
    ∙ drop-append-le s (digits 7 x) (bytes_of rest) (let e = length-digits 7 x in omega arith)
    ∙ ap (λ n. drop s (digits n x) ++ bytes_of rest) (let e : 7 ≡ s + (7 - s) = omega arith in e)
    ∙ ap (λ ds. ds ++ bytes_of rest) (drop-digits s (7 - s) x)
bytes_from (x ∷ rest) (suc w) s few less =
    let seven = length-digits 7 x in
    ap (λ n. drop n (digits 7 x ++ bytes_of rest)) (let e : 7 * suc w + s ≡ length (digits 7 x) + (7 * w + s) = omega arith in e)
    ∙ drop_on (digits 7 x) (bytes_of rest) (7 * w + s)
    ∙ bytes_from rest w s few (omega arith)

-- the bytes from a word on
bytes_of_rest : (words : List ℕ) (w : ℕ) → drop (7 * w) (bytes_of words) ≡ bytes_of (drop w words)
bytes_of_rest words zero = ap (λ n. drop n (bytes_of words)) (let e : 7 * 0 ≡ 0 = omega arith in e)
bytes_of_rest [] (suc w) = ap (λ n. drop {A = ℕ} n []) (let e : 7 * suc w ≡ suc (6 + 7 * w) = omega arith in e)
bytes_of_rest (x ∷ rest) (suc w) =
    let seven = length-digits 7 x in
    ap (λ n. drop n (digits 7 x ++ bytes_of rest)) (let e : 7 * suc w ≡ length (digits 7 x) + 7 * w = omega arith in e)
    ∙ drop_on (digits 7 x) (bytes_of rest) (7 * w)
    ∙ bytes_of_rest rest w

-- ---- bytes from one place on

-- which is that of a word
pub read_even : (words : List ℕ) (at n : ℕ) → at % 7 ≡ 0 → take n (bytes_of (drop (at / 7) words)) ≡ take n (drop at (bytes_of words))
read_even words at n even = ap (take n) (sym (bytes_of_rest words (at / 7)) ∙ ap (λ k. drop k (bytes_of words)) (let e : 7 * (at / 7) ≡ at = omega arith in e))

-- which is in the middle of a word that has all of them
pub read_front : (words : List ℕ) (at n : ℕ) → n ≤ 7 - at % 7 → at / 7 < length words → digits n (get_or words (at / 7) 0 / 2 ^ (8 * (at % 7))) ≡ take n (drop at (bytes_of words))
read_front words at n few less =
    let s = at % 7 in
    let y = get_or words (at / 7) 0 / 2 ^ (8 * s) in
    let rest = bytes_of (drop (suc (at / 7)) words) in
    let k = 7 - s - n in
    sym (
    ap (λ j. take n (drop j (bytes_of words))) (let e : at ≡ 7 * (at / 7) + s = omega arith in e)
    ∙ ap (take n) (bytes_from words (at / 7) s (omega arith) less)
    ∙ take-append-le n (digits (7 - s) y) rest (let e = length-digits (7 - s) y in omega arith)
    ∙ ap (λ j. take n (digits j y)) (let e : 7 - s ≡ n + k = omega arith in e)
    ∙ take-digits n k y
    )

-- which is in the middle of a word that does not
pub read_parts : (words : List ℕ) (at n : ℕ) → 7 - at % 7 ≤ n → at / 7 < length words
    → digits (7 - at % 7) (get_or words (at / 7) 0 / 2 ^ (8 * (at % 7))) ++ take (n - (7 - at % 7)) (bytes_of (drop (suc (at / 7)) words)) ≡ take n (drop at (bytes_of words))
read_parts words at n many less =
    let s = at % 7 in
    let front = digits (7 - s) (get_or words (at / 7) 0 / 2 ^ (8 * s)) in
    let rest = bytes_of (drop (suc (at / 7)) words) in
    sym (
    ap (λ j. take n (drop j (bytes_of words))) (let e : at ≡ 7 * (at / 7) + s = omega arith in e)
    ∙ ap (take n) (bytes_from words (at / 7) s (omega arith) less)
    ∙ ap (λ j. take j (front ++ rest)) (let l = length-digits (7 - s) (get_or words (at / 7) 0 / 2 ^ (8 * s)) in let e : n ≡ length front + (n - (7 - s)) = omega arith in e)
    ∙ take_on front rest (n - (7 - s))
    )

-- ---- bytes of numbers of 64 bits

pub seven_lowest : (w : ℕ) → take 7 (to_le_bytes w64 w) ≡ digits 7 w
unfolding digits
seven_lowest w =
    let q2 : w / 65536 ≡ w / 256 / 256 = sym (shr-shr w 8 8) in
    let q3 : w / 16777216 ≡ w / 256 / 256 / 256 = sym (shr-shr w 16 8) ∙ ap (λ x. x / 256) q2 in
    let q4 : w / 4294967296 ≡ w / 256 / 256 / 256 / 256 = sym (shr-shr w 24 8) ∙ ap (λ x. x / 256) q3 in
    let q5 : w / 1099511627776 ≡ w / 256 / 256 / 256 / 256 / 256 = sym (shr-shr w 32 8) ∙ ap (λ x. x / 256) q4 in
    let q6 : w / 281474976710656 ≡ w / 256 / 256 / 256 / 256 / 256 / 256 = sym (shr-shr w 40 8) ∙ ap (λ x. x / 256) q5 in
    cc

-- ---- numbers of some bytes

-- the digits of a word are what is left of it below so many digits
number_of_digits : (n w : ℕ) → bytes_number (digits n w) ≡ w % 2 ^ (8 * n)
unfolding bytes_number digits
number_of_digits zero w = let e : 0 ≡ w % 1 = omega arith in e
number_of_digits (suc n) w =
    ap (λ x. w % 256 + 256 * x) (number_of_digits n (w / 256))
    ∙ (let e : w % 256 + 256 * (w / 256 % 2 ^ (8 * n)) ≡ w / 256 % 2 ^ (8 * n) * 256 + w % 256 = omega arith in e)
    ∙ sym (mod-pow-add w (8 * n) 8)
    ∙ ap (λ k. w % 2 ^ k) (let e : 8 * n + 8 ≡ 8 * suc n = omega arith in e)

pub number-append : (xs ys : List ℕ) → bytes_number (xs ++ ys) ≡ bytes_number xs + 2 ^ (8 * length xs) * bytes_number ys
unfolding bytes_number
number-append [] ys = let e : bytes_number ys ≡ 0 + 1 * bytes_number ys = omega arith in e
number-append (x ∷ xs) ys =
    let p = 2 ^ (8 * length xs) in
    ap (λ n. x + 256 * n) (number-append xs ys)
    ∙ (let e : x + 256 * (bytes_number xs + p * bytes_number ys) ≡ x + 256 * bytes_number xs + p * 256 * bytes_number ys = omega arith in e)
    ∙ ap (λ q. x + 256 * bytes_number xs + q * bytes_number ys) (sym (pow-add 2 (8 * length xs) 8) ∙ ap (λ k. 2 ^ k) (let e : 8 * length xs + 8 ≡ 8 * suc (length xs) = omega arith in e))

-- ---- the number of n bytes from one place on

-- which one word has
pub number_in_one : (words : List ℕ) (at n : ℕ) → n ≤ 7 - at % 7 → at / 7 < length words → get_or words (at / 7) 0 / 2 ^ (8 * (at % 7)) % 2 ^ (8 * n) ≡ bytes_number (take n (drop at (bytes_of words)))
number_in_one words at n few less = sym (number_of_digits n (get_or words (at / 7) 0 / 2 ^ (8 * (at % 7)))) ∙ ap bytes_number (read_front words at n few less)

-- which two words have
pub number_in_two : (words : List ℕ) (at n : ℕ) → 7 - at % 7 ≤ n → n ≤ 7 → at / 7 + 1 < length words
    → get_or words (at / 7) 0 / 2 ^ (8 * (at % 7)) % 2 ^ (8 * (7 - at % 7)) + get_or words (at / 7 + 1) 0 % 2 ^ (8 * (n - (7 - at % 7))) * 2 ^ (8 * (7 - at % 7)) ≡ bytes_number (take n (drop at (bytes_of words)))
number_in_two words at n many few less =
    let front = 7 - at % 7 in
    let low = get_or words (at / 7) 0 / 2 ^ (8 * (at % 7)) in
    let next = at / 7 + 1 in
    let rest = n - front in
    let high = get_or words next 0 in
    let p = 2 ^ (8 * front) in
    let back : take rest (bytes_of (drop (suc (at / 7)) words)) ≡ digits rest high =
    ap (λ k. take rest (bytes_of (drop k words))) (let e : suc (at / 7) ≡ next = omega arith in e)
    ∙ ap (take rest) (sym (bytes_of_rest words next))
    ∙ ap (λ k. take rest (drop k (bytes_of words))) (let e : 7 * next ≡ 7 * next + 0 = omega arith in e)
    ∙ ap (take rest) (bytes_from words next 0 (omega arith) less)
    ∙ take-append-le rest (digits (7 - 0) (high / 2 ^ (8 * 0))) (bytes_of (drop (suc next) words)) (let l = length-digits (7 - 0) (high / 2 ^ (8 * 0)) in omega arith)
    ∙ ap (λ h. take rest (digits 7 h)) (let e : high / 1 ≡ high = omega arith in e)
    ∙ ap (λ k. take rest (digits k high)) (let e : 7 ≡ rest + (7 - rest) = omega arith in e)
    ∙ take-digits rest (7 - rest) high in
    let whole : bytes_number (take n (drop at (bytes_of words))) ≡ bytes_number (digits front low) + p * bytes_number (digits rest high) =
    ap bytes_number (sym (read_parts words at n many (omega arith)))
    ∙ ap (λ bs. bytes_number (digits front low ++ bs)) back
    ∙ number-append (digits front low) (digits rest high)
    ∙ ap (λ k. bytes_number (digits front low) + 2 ^ (8 * k) * bytes_number (digits rest high)) (length-digits front low) in
    let one = number_of_digits front low in
    let two = number_of_digits rest high in
    sym (
    whole
    ∙ ap (λ x. x + p * bytes_number (digits rest high)) one
    ∙ ap (λ x. low % p + p * x) two
    ∙ (let e : low % p + p * (high % 2 ^ (8 * rest)) ≡ low % p + high % 2 ^ (8 * rest) * p = omega arith in e)
    )

-- a word has the digits of what is left of it below so many
pub digits_below : (n w : ℕ) → digits n w ≡ digits n (w % 2 ^ (8 * n))
unfolding digits
digits_below zero w = refl
digits_below (suc n) w =
    let whole : w % 2 ^ (8 * suc n) ≡ w % 2 ^ (8 * n + 8) = ap (λ k. w % 2 ^ k) (let e : 8 * suc n ≡ 8 * n + 8 = omega arith in e) in
    let parts = mod-pow-add w (8 * n) 8 in
    let first : w % 2 ^ (8 * suc n) % 256 ≡ w % 256 = ap (λ x. x % 256) (whole ∙ parts) ∙ (let e : (w / 256 % 2 ^ (8 * n) * 256 + w % 256) % 256 ≡ w % 256 = omega arith in e) in
    let rest : w % 2 ^ (8 * suc n) / 256 ≡ w / 256 % 2 ^ (8 * n) = ap (λ x. x / 256) whole ∙ field_of w (8 * n) 8 in
    ap (λ d. d ∷ digits n (w / 256)) (sym first) ∙ ap (λ ds. w % 2 ^ (8 * suc n) % 256 ∷ ds) (digits_below n (w / 256) ∙ ap (digits n) (sym rest))
