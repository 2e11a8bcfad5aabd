-- A word as a row of codes of two bits each, of which one changes at a time.
use Rattle.std.proofs.lemmas.Grind.{common_steps}
use Rattle.std.proofs.Common.{◌≡◌, ◌≢◌, ◌⊎◌, ℕ, zero, suc, ◌+◌, ◌-◌, ◌*◌, ◌/◌, ◌%◌, ◌^◌, ◌<◌, ◌≤◌, refl, sym, ◌∙◌, ap, subst, arith, bit_and, bit_or, bit_xor}
use Rattle.std.proofs.lemmas.Nat.{shr-shr, shl_whole, pow-add, pow_pos, and_shr, and_mod, and_le_r, or_shr, or_mod, xor_shr, xor_mod, xor_lt}
use Rattle.std.specs.Int.Bits.{xor_assoc, xor_self, xor_zero_l, xor_zero_r}
use Rattle.std.proofs.lemmas.Nat.Bits.{ones_shr}
use Rattle.gc_monitor.specs.Internal.InWords.{code_in, freed}

-- a power of 4
quad : ℕ → ℕ
quad zero = 1
quad (suc k) = 4 * quad k

twice : (k : ℕ) → 2 * suc k ≡ 2 + 2 * k
twice k = omega arith

quad_is : (k : ℕ) → quad k ≡ 2 ^ (2 * k)
unfolding quad
quad_is zero = refl
quad_is (suc k) = ap (λ n. 4 * n) (quad_is k) ∙ sym (pow-add 2 2 (2 * k)) ∙ ap (λ n. 2 ^ n) (sym (twice k))

-- the same code, by one step for each code below it
digit : ℕ → ℕ → ℕ
digit word zero = word % 4
digit word (suc k) = digit (word / 4) k

digit_is : (word k : ℕ) → digit word k ≡ code_in word k
unfolding digit
digit_is word zero = omega arith
digit_is word (suc k) = digit_is (word / 4) k ∙ ap (λ n. n % 4) (shr-shr word 2 (2 * k) ∙ ap (λ n. word / 2 ^ n) (sym (twice k)))

-- ---- one code changes

digit_zero : (k : ℕ) → digit 0 k ≡ 0
unfolding digit
digit_zero zero = refl
digit_zero (suc k) = digit_zero k

-- a step over a zero
first_digit : (n q : ℕ) → n * (4 * q) % 4 ≡ 0
first_digit n q = grind (arith, common_steps)

rest_digits : (n q : ℕ) → n * (4 * q) / 4 ≡ n * q
rest_digits n q = grind (arith, common_steps)

-- a code alone in a word
alone_here : (k code : ℕ) → code < 4 → digit (code * quad k) k ≡ code
unfolding digit quad
alone_here zero code few = omega arith
alone_here (suc k) code few = ap (λ n. digit n k) (rest_digits code (quad k)) ∙ alone_here k code few

alone_beside : (k j code : ℕ) → code < 4 → j ≢ k → digit (code * quad k) j ≡ 0
unfolding digit quad
alone_beside zero zero code few other = absurd (other refl)
alone_beside zero (suc j) code few other = ap (λ n. digit n j) (let e : code * 1 / 4 ≡ 0 = omega arith in e) ∙ digit_zero j
alone_beside (suc k) zero code few other = first_digit code (quad k)
alone_beside (suc k) (suc j) code few other = ap (λ n. digit n j) (rest_digits code (quad k)) ∙ alone_beside k j code few (λ same. other (ap suc same))

-- the codes of the difference of two words
pub code_xor : (a b k : ℕ) → code_in (bit_xor a b) k ≡ bit_xor (code_in a k) (code_in b k)
code_xor a b k = ap (λ n. n % 4) (xor_shr a b (2 * k)) ∙ xor_mod (a / 2 ^ (2 * k)) (b / 2 ^ (2 * k)) 2

-- as the code writes it: a word with another code at one place, and with one where there is none
abbrev pub with_code : ℕ → ℕ → ℕ → ℕ
with_code word k code = bit_xor word (bit_xor (word / 2 ^ (2 * k) % 4) code * 2 ^ (2 * k) % 18446744073709551616)

abbrev pub with_first : ℕ → ℕ → ℕ → ℕ
with_first word k code = bit_xor word (code * 2 ^ (2 * k) % 18446744073709551616)

alone_is : (k code : ℕ) → k < 32 → code < 4 → code * 2 ^ (2 * k) % 18446744073709551616 ≡ code * quad k
alone_is k code within few = shl_whole code 2 (2 * k) 64 few (omega arith) ∙ ap (λ q. code * q) (sym (quad_is k))

changed : (word k j code digits : ℕ) → k < 32 → code < 4 → digit (code * quad k) j ≡ digits → code_in (with_first word k code) j ≡ bit_xor (code_in word j) digits
changed word k j code digits within few is = grind (arith, common_steps, alone_is, code_xor, quad, digit_is)

pub with_first_here : (word k code : ℕ) → k < 32 → code < 4 → code_in word k ≡ 0 → code_in (with_first word k code) k ≡ code
with_first_here word k code within few none = changed word k k code code within few (alone_here k code few) ∙ ap (λ n. bit_xor n code) none ∙ xor_zero_l code

pub with_first_beside : (word k code other : ℕ) → k < 32 → code < 4 → other ≢ k → code_in (with_first word k code) other ≡ code_in word other
with_first_beside word k code other within few differs = changed word k other code 0 within few (alone_beside k other code few differs) ∙ xor_zero_r (code_in word other)

-- the difference of two codes is one, and takes either to the other
pub xor_few : (x y : ℕ) → x < 4 → y < 4 → bit_xor x y < 4
xor_few x y few small = xor_lt 2 x y few small

xor_back : (x y : ℕ) → bit_xor x (bit_xor x y) ≡ y
xor_back x y = sym (xor_assoc x x y) ∙ ap (λ n. bit_xor n y) (xor_self x) ∙ xor_zero_l y

pub with_code_here : (word k code : ℕ) → k < 32 → code < 4 → code_in (with_code word k code) k ≡ code
with_code_here word k code within few = grind (arith, common_steps, xor_few, changed, alone_here, xor_back)

-- ---- a run of threes

-- so many threes behind so many zeros
mask : ℕ → ℕ → ℕ
mask count place = (quad count - 1) * quad place

quad_pos : (k : ℕ) → 1 ≤ quad k
unfolding quad
quad_pos zero = omega arith
quad_pos (suc k) = let low : 1 ≤ quad k = quad_pos k in omega arith

threes_in : (count k : ℕ) → k < count → digit (quad count - 1) k ≡ 3
unfolding digit quad
threes_in zero k less = absurd (omega arith)
threes_in (suc count) zero less = let low : 1 ≤ quad count = quad_pos count in omega arith
threes_in (suc count) (suc k) less = grind (arith, common_steps, quad, quad_pos, digit, threes_in count k (omega arith))

threes_out : (count k : ℕ) → count ≤ k → digit (quad count - 1) k ≡ 0
unfolding digit quad
threes_out zero k past = digit_zero k
threes_out (suc count) zero past = absurd (omega arith)
threes_out (suc count) (suc k) past = grind (arith, common_steps, quad, quad_pos, digit, threes_out count k (omega arith))

mask_inside : (count place k : ℕ) → place ≤ k → k < place + count → digit (mask count place) k ≡ 3
unfolding digit quad mask
mask_inside count zero k low high = ap (λ n. digit n k) (let e : (quad count - 1) * 1 ≡ quad count - 1 = omega arith in e) ∙ threes_in count k (omega arith)
mask_inside count (suc place) zero low high = absurd (omega arith)
mask_inside count (suc place) (suc k) low high = ap (λ n. digit n k) (rest_digits (quad count - 1) (quad place)) ∙ mask_inside count place k (omega arith) (omega arith)

mask_below : (count place k : ℕ) → k < place → digit (mask count place) k ≡ 0
unfolding digit quad mask
mask_below count zero k low = absurd (omega arith)
mask_below count (suc place) zero low = first_digit (quad count - 1) (quad place)
mask_below count (suc place) (suc k) low = ap (λ n. digit n k) (rest_digits (quad count - 1) (quad place)) ∙ mask_below count place k (omega arith)

mask_above : (count place k : ℕ) → place + count ≤ k → digit (mask count place) k ≡ 0
unfolding digit quad mask
mask_above count zero k past = ap (λ n. digit n k) (let e : (quad count - 1) * 1 ≡ quad count - 1 = omega arith in e) ∙ threes_out count k (omega arith)
mask_above count (suc place) zero past = absurd (omega arith)
mask_above count (suc place) (suc k) past = ap (λ n. digit n k) (rest_digits (quad count - 1) (quad place)) ∙ mask_above count place k (omega arith)

-- the codes of two words together
code_or : (a b k : ℕ) → code_in (bit_or a b) k ≡ bit_or (code_in a k) (code_in b k)
code_or a b k = ap (λ n. n % 4) (or_shr a b (2 * k)) ∙ or_mod (a / 2 ^ (2 * k)) (b / 2 ^ (2 * k)) 2

or_three : (x : ℕ) → x < 4 → bit_or x 3 ≡ 3
or_three x few = grind (arith, common_steps)

or_nought : (x : ℕ) → x < 4 → bit_or x 0 ≡ x
or_nought x few = grind (arith, common_steps)

-- as the code writes it
abbrev pub filled : ℕ → ℕ → ℕ → ℕ
filled word place count = bit_or word (18446744073709551615 / 2 ^ (64 - 2 * count) * 2 ^ (2 * place) % 18446744073709551616)

mask_is : (place count : ℕ) → place + count ≤ 32 → 18446744073709551615 / 2 ^ (64 - 2 * count) * 2 ^ (2 * place) % 18446744073709551616 ≡ mask count place
unfolding mask
mask_is place count within =
    let ones : 18446744073709551615 / 2 ^ (64 - 2 * count) ≡ 2 ^ (2 * count) - 1
    = ones_shr 64 (64 - 2 * count) (omega arith) ∙ ap (λ n. 2 ^ n - 1) (let e : 64 - (64 - 2 * count) ≡ 2 * count = omega arith in e) in
    ap (λ n. n * 2 ^ (2 * place) % 18446744073709551616) ones
    ∙ shl_whole (2 ^ (2 * count) - 1) (2 * count) (2 * place) 64 (let low : 0 < 2 ^ (2 * count) = pow_pos (2 * count) in omega arith) (omega arith)
    ∙ (λ i. (sym (quad_is count) i - 1) * sym (quad_is place) i)

filled_code : (word place count k code : ℕ) → place + count ≤ 32 → digit (mask count place) k ≡ code → code_in (filled word place count) k ≡ bit_or (code_in word k) code
filled_code word place count k code within is = grind (arith, common_steps, mask_is, code_or, mask, digit_is)

pub filled_inside : (word place count k : ℕ) → place + count ≤ 32 → place ≤ k → k < place + count → code_in (filled word place count) k ≡ 3
filled_inside word place count k within low high = filled_code word place count k 3 within (mask_inside count place k low high) ∙ or_three (code_in word k) (omega arith)

pub filled_outside : (word place count k : ℕ) → place + count ≤ 32 → (k < place) ⊎ (place + count ≤ k) → code_in (filled word place count) k ≡ code_in word k
filled_outside word place count k within h = grind (arith, common_steps, filled_code, mask_below, or_nought, mask_above)

-- ---- codes that are freed

-- a word of so many ones
ones : ℕ → ℕ
ones zero = 0
ones (suc n) = 1 + 4 * ones n

ones_in : (n k : ℕ) → k < n → digit (ones n) k ≡ 1
unfolding digit ones
ones_in zero k within = absurd (omega arith)
ones_in (suc n) zero within = omega arith
ones_in (suc n) (suc k) within = ap (λ n. digit n k) (let e : (1 + 4 * ones n) / 4 ≡ ones n = omega arith in e) ∙ ones_in n k (omega arith)

ones_few : (n k : ℕ) → digit (ones n) k ≤ 1
unfolding digit ones
ones_few zero k = omega (arith, digit_zero k)
ones_few (suc n) zero = omega arith
ones_few (suc n) (suc k) = subst (λ n. digit n k ≤ 1) (let e : ones n ≡ (1 + 4 * ones n) / 4 = omega arith in e) (ones_few n k)

-- three times a word of noughts and ones
thrice : (word k : ℕ) → ((j : ℕ) → digit word j ≤ 1) → digit (3 * word) k ≡ 3 * digit word k
unfolding digit
thrice word zero few = let low : word % 4 ≤ 1 = few zero in omega arith
thrice word (suc k) few =
    let low : word % 4 ≤ 1 = few zero in
    ap (λ n. digit n k) (let e : 3 * word / 4 ≡ 3 * (word / 4) = omega arith in e) ∙ thrice (word / 4) k (λ j. few (suc j))

code_and : (a b k : ℕ) → code_in (bit_and a b) k ≡ bit_and (code_in a k) (code_in b k)
code_and a b k = ap (λ n. n % 4) (and_shr a b (2 * k)) ∙ and_mod (a / 2 ^ (2 * k)) (b / 2 ^ (2 * k)) 2

-- the low bit of a word's half at a place is the high bit of its code
high_bit : (word k : ℕ) → code_in (word / 2) k % 2 ≡ code_in word k / 2
high_bit word k =
    let same : word / 2 / 2 ^ (2 * k) ≡ word / 2 ^ (2 * k) / 2 = shr-shr word 1 (2 * k) ∙ ap (λ n. word / 2 ^ n) (let e : 1 + 2 * k ≡ 2 * k + 1 = omega arith in e) ∙ sym (shr-shr word (2 * k) 1) in
    omega (arith, same)

-- as the code writes them: ones in the place of twos, and a word in which these are freed
twos : ℕ → ℕ
twos word = bit_and (bit_and (word / 2) (bit_xor (word / 2) word)) 6148914691236517205

abbrev pub freed_word : ℕ → ℕ
freed_word word = bit_xor word (3 * bit_and (bit_and (word / 2) (bit_xor (word / 2) word)) 6148914691236517205)

by_cases : (c h : ℕ) → c < 4 → h < 4 → h % 2 ≡ c / 2 → bit_xor c (3 * bit_and (bit_and h (bit_xor h c)) 1) ≡ freed c
by_cases zero zero few small same = refl
by_cases zero (suc zero) few small same = absurd (omega arith)
by_cases zero (suc (suc zero)) few small same = refl
by_cases zero (suc (suc (suc zero))) few small same = absurd (omega arith)
by_cases zero (suc (suc (suc (suc h)))) few small same = absurd (omega arith)
by_cases (suc zero) zero few small same = refl
by_cases (suc zero) (suc zero) few small same = absurd (omega arith)
by_cases (suc zero) (suc (suc zero)) few small same = refl
by_cases (suc zero) (suc (suc (suc zero))) few small same = absurd (omega arith)
by_cases (suc zero) (suc (suc (suc (suc h)))) few small same = absurd (omega arith)
by_cases (suc (suc zero)) zero few small same = absurd (omega arith)
by_cases (suc (suc zero)) (suc zero) few small same = refl
by_cases (suc (suc zero)) (suc (suc zero)) few small same = absurd (omega arith)
by_cases (suc (suc zero)) (suc (suc (suc zero))) few small same = refl
by_cases (suc (suc zero)) (suc (suc (suc (suc h)))) few small same = absurd (omega arith)
by_cases (suc (suc (suc zero))) zero few small same = absurd (omega arith)
by_cases (suc (suc (suc zero))) (suc zero) few small same = refl
by_cases (suc (suc (suc zero))) (suc (suc zero)) few small same = absurd (omega arith)
by_cases (suc (suc (suc zero))) (suc (suc (suc zero))) few small same = refl
by_cases (suc (suc (suc zero))) (suc (suc (suc (suc h)))) few small same = absurd (omega arith)
by_cases (suc (suc (suc (suc c)))) h few small same = absurd (omega arith)

pub freed_codes : (word k : ℕ) → k < 32 → code_in (freed_word word) k ≡ freed (code_in word k)
unfolding twos ones
freed_codes word k within =
    code_xor word (3 * twos word) k
    ∙ ap (bit_xor (code_in word k)) (sym (digit_is (3 * twos word) k) ∙ thrice (twos word) k few ∙ ap (λ n. 3 * n) (digit_is (twos word) k ∙ here))
    ∙ by_cases (code_in word k) (code_in (word / 2) k) (omega arith) (omega arith) (high_bit word k)
  where
    each : (j : ℕ) → code_in (twos word) j ≡ bit_and (bit_and (code_in (word / 2) j) (bit_xor (code_in (word / 2) j) (code_in word j))) (code_in 6148914691236517205 j)
    each j = grind (arith, common_steps, code_and, bit_and, bit_xor, code_xor)

    all : 6148914691236517205 ≡ ones 32
    all = refl

    here : code_in (twos word) k ≡ bit_and (bit_and (code_in (word / 2) k) (bit_xor (code_in (word / 2) k) (code_in word k))) 1
    here = each k ∙ ap (bit_and (bit_and (code_in (word / 2) k) (bit_xor (code_in (word / 2) k) (code_in word k)))) (sym (digit_is 6148914691236517205 k) ∙ ap (λ n. digit n k) all ∙ ones_in 32 k within)

    few : (j : ℕ) → digit (twos word) j ≤ 1
    few j =
        let ones_one : code_in 6148914691236517205 j ≤ 1 = subst (λ n. n ≤ 1) (ap (λ n. digit n j) (sym all) ∙ digit_is 6148914691236517205 j) (ones_few 32 j) in
        subst (λ n. n ≤ 1) (sym (digit_is (twos word) j ∙ each j)) (let low = and_le_r (bit_and (code_in (word / 2) j) (bit_xor (code_in (word / 2) j) (code_in word j))) (code_in 6148914691236517205 j) in omega arith)
