-- What is spelled is read again.
use Rattle.std.proofs.lemmas.Grind.{common_steps}
use Rattle.std.proofs.lemmas.Bool.Decides.{nat_tests}
use Rattle.std.proofs.lemmas.Bool.{cases_lt}
use Rattle.std.proofs.Common.{Option, ◌≡◌, ℕ, zero, suc, ◌+◌, ◌-◌, ◌*◌, ◌/◌, ◌^◌, ◌<◌, ◌≤◌, List, [], ◌∷◌, ◌++◌, length, get_or, take, drop, ◌⊎◌, Some, None, inl, inr, refl, ap, sym, ◌∙◌, arith}
use Rattle.std.specs.List.{All}
use Rattle.std.specs.Option.{option_map}
use Rattle.std.proofs.lemmas.List.{append-nil, drop-drop, get_or_default, length-drop, length-take, length-take-le, take-append-drop}
use Rattle.std.proofs.lemmas.Nat.{pow-add}
use Rattle.gc_bytes.specs.Text.{AreBytes, bytes_of, length_told, digits, fields_for, last_word, bytes_number, spelled, spelled_in, text_length, text_of}
use Rattle.gc_bytes.proofs.Digits.{digits_of, length-bytes_of, number_below, take-digits, take_on}

-- ---- lists

pub bytes_parted : (n : ℕ) (bs : List ℕ) → AreBytes bs → AreBytes (take n bs) × AreBytes (drop n bs)
bytes_parted zero bs all = (tt, all)
bytes_parted (suc n) [] all = (tt, tt)
bytes_parted (suc n) (b ∷ bs) (less, all) = let rec = bytes_parted n bs all in ((less, rec.0), rec.1)

-- ---- single words

-- at most seven bytes are a number below 2^56
seven_small : (bs : List ℕ) → AreBytes bs → length bs ≤ 7 → bytes_number bs < 2 ^ 56
seven_small bs all few = number_below bs 7 all few

count_in_last : (bs : List ℕ) → AreBytes bs → length bs ≤ 7 → last_word bs / 2 ^ 56 ≡ length bs
count_in_last bs all few = let small : bytes_number bs < 2 ^ 56 = seven_small bs all few in omega arith

-- the last word has its bytes
last_bytes : (bs : List ℕ) → AreBytes bs → length bs ≤ 7 → take (length bs) (digits 7 (last_word bs)) ≡ bs
last_bytes bs all few =
    let k = 7 - length bs in
    let seven : length bs + k ≡ 7 = omega arith in
    let power : 2 ^ 56 ≡ 256 ^ length bs * 256 ^ k = ap (λ (n : ℕ). 256 ^ n) (sym seven) ∙ pow-add 256 (length bs) k in
    let high : 2 ^ 56 * length bs ≡ 256 ^ length bs * (256 ^ k * length bs) = ap (λ p. p * length bs) power ∙ (let e : 256 ^ length bs * 256 ^ k * length bs ≡ 256 ^ length bs * (256 ^ k * length bs) = omega arith in e) in
    ap (λ n. take (length bs) (digits n (last_word bs))) (sym seven)
    ∙ take-digits (length bs) k (last_word bs)
    ∙ ap (λ h. digits (length bs) (bytes_number bs + h)) high
    ∙ digits_of bs (256 ^ k * length bs) all

-- another word has seven
seven_bytes : (bs : List ℕ) → AreBytes bs → length bs ≡ 7 → digits 7 (bytes_number bs) ≡ bs
seven_bytes bs all seven =
    ap (λ n. digits n (bytes_number bs)) (sym seven)
    ∙ ap (digits (length bs)) (let e : bytes_number bs ≡ bytes_number bs + 256 ^ length bs * 0 = omega arith in e)
    ∙ digits_of bs 0 all

-- ---- all words

length-spelled_in : (n : ℕ) (bs : List ℕ) → length (spelled_in n bs) ≡ n
unfolding spelled_in
length-spelled_in zero bs = refl
length-spelled_in (suc zero) bs = refl
length-spelled_in (suc (suc n)) bs = ap suc (length-spelled_in (suc n) (drop 7 bs))

last_at : (n : ℕ) (bs : List ℕ) → get_or (spelled_in (suc n) bs) n 0 ≡ last_word (drop (7 * n) bs)
unfolding spelled_in
last_at zero bs = refl
last_at (suc n) bs = last_at n (drop 7 bs) ∙ ap last_word (drop-drop (7 * n) 7 bs ∙ ap (λ k. drop k bs) (let e : 7 + 7 * n ≡ 7 * suc n = omega arith in e))

inner_at : (n i : ℕ) (bs : List ℕ) → suc i < n → get_or (spelled_in n bs) i 0 ≡ bytes_number (take 7 (drop (7 * i) bs))
unfolding spelled_in
inner_at zero i bs less = absurd (omega arith)
inner_at (suc zero) i bs less = absurd (omega arith)
inner_at (suc (suc n)) zero bs less = ap (λ k. bytes_number (take 7 (drop k bs))) (let e : 0 ≡ 7 * 0 = omega arith in e)
inner_at (suc (suc n)) (suc i) bs less = inner_at (suc n) i (drop 7 bs) (omega arith) ∙ ap (λ r. bytes_number (take 7 r)) (drop-drop (7 * i) 7 bs ∙ ap (λ k. drop k bs) (let e : 7 + 7 * i ≡ 7 * suc i = omega arith in e))

-- the bytes
spelled_bytes : (n : ℕ) (bs : List ℕ) → AreBytes bs → fields_for (length bs) ≡ n → take (length bs) (bytes_of (spelled_in n bs)) ≡ bs
unfolding spelled_in
spelled_bytes zero [] all is = refl
spelled_bytes zero (b ∷ bs) all is = absurd (omega arith)
spelled_bytes (suc zero) bs all is = ap (take (length bs)) (append-nil (digits 7 (last_word bs))) ∙ last_bytes bs all (omega arith)
spelled_bytes (suc (suc n)) bs all is =
    let parts = bytes_parted 7 bs all in
    let long : 7 ≤ length bs = omega arith in
    let seven : length (take 7 bs) ≡ 7 = length-take-le 7 bs long in
    let left : length (drop 7 bs) ≡ length bs - 7 = length-drop 7 bs in
    let more = bytes_of (spelled_in (suc n) (drop 7 bs)) in
    ap (λ ds. take (length bs) (ds ++ more)) (seven_bytes (take 7 bs) parts.0 seven)
    ∙ ap (λ k. take k (take 7 bs ++ more)) (let e : length bs ≡ length (take 7 bs) + length (drop 7 bs) = omega arith in e)
    ∙ take_on (take 7 bs) more (length (drop 7 bs))
    ∙ ap (λ r. take 7 bs ++ r) (spelled_bytes (suc n) (drop 7 bs) parts.1 (omega arith))
    ∙ take-append-drop 7 bs

-- the length
pub counted_in : (ws : List ℕ) (n : ℕ) → length ws ≡ suc n → text_length ws ≡ length_told n (get_or ws n 0 / 2 ^ 56)
unfolding text_length
counted_in [] n is = absurd (omega arith)
counted_in (w ∷ rest) n is = let e : length rest ≡ n = omega arith in ap (λ k. length_told k (get_or (w ∷ rest) k 0 / 2 ^ 56)) e

-- none if there is no word
pub counted_nothing : (ws : List ℕ) → length ws ≡ 0 → text_length ws ≡ Some 0
unfolding text_length
counted_nothing [] is = refl
counted_nothing (w ∷ rest) is = absurd (omega arith)

pub counted_none : (n k : ℕ) → (k ≡ 0) ⊎ (7 < k) → length_told n k ≡ None
counted_none n k (inl is) = grind (arith, common_steps, nat_tests)
counted_none n k (inr more) = grind (arith, common_steps, nat_tests)

pub counted_some : (n k m : ℕ) → 0 < k → k ≤ 7 → m ≡ 7 * n + k → length_told n k ≡ Some m
counted_some n k m low high is = grind (arith, common_steps, nat_tests)

spelled_length : (n : ℕ) (bs : List ℕ) → AreBytes bs → fields_for (length bs) ≡ n → text_length (spelled_in n bs) ≡ Some (length bs)
unfolding spelled_in text_length
spelled_length zero [] all is = refl
spelled_length zero (b ∷ bs) all is = absurd (omega arith)
spelled_length (suc n) bs all is =
    let rest = drop (7 * n) bs in
    let left : length rest ≡ length bs - 7 * n = length-drop (7 * n) bs in
    let few : length rest ≤ 7 = omega arith in
    counted_in (spelled_in (suc n) bs) n (length-spelled_in (suc n) bs)
    ∙ ap (λ w. length_told n (w / 2 ^ 56)) (last_at n bs)
    ∙ ap (length_told n) (count_in_last rest (bytes_parted (7 * n) bs all).1 few)
    ∙ counted_some n (length rest) (length bs) (omega arith) few (omega arith)

-- ---- word i

-- one that is not the last
pub inner_word : (bs : List ℕ) (i : ℕ) → 7 < length (drop (7 * i) bs) → get_or (spelled bs) i 0 ≡ bytes_number (take 7 (drop (7 * i) bs))
unfolding spelled
inner_word bs i more = let left = length-drop (7 * i) bs in inner_at (fields_for (length bs)) i bs (omega arith)

-- the last one
pub final_word : (bs : List ℕ) (i : ℕ) → i < fields_for (length bs) → length (drop (7 * i) bs) ≤ 7 → get_or (spelled bs) i 0 ≡ last_word (drop (7 * i) bs)
unfolding spelled
final_word bs i less few =
    let left = length-drop (7 * i) bs in
    let e : fields_for (length bs) ≡ suc i = omega arith in
    ap (λ n. get_or (spelled_in n bs) i 0) e ∙ last_at i bs

last_small : (bs : List ℕ) → AreBytes bs → length bs ≤ 7 → last_word bs < 2 ^ 59
last_small bs all few = let small : bytes_number bs < 2 ^ 56 = seven_small bs all few in omega arith

word_below : (bs : List ℕ) → AreBytes bs → (i : ℕ) → i < fields_for (length bs) → get_or (spelled bs) i 0 < 2 ^ 63
word_below bs all i less =
    let rest = drop (7 * i) bs in
    let parts : AreBytes rest = (bytes_parted (7 * i) bs all).1 in
    elim (cases_lt 7 (length rest)) [
      | inl more ↦
          let is = inner_word bs i more in
          let few : length (take 7 rest) ≤ 7 = (let e = length-take-le 7 rest (omega arith) in omega arith) in
          let small = seven_small (take 7 rest) (bytes_parted 7 rest parts).0 few in
          omega arith
      | inr few ↦
          let is = final_word bs i less few in
          let small = last_small rest parts few in
          omega arith
    ]

-- ---- the laws

pub text_again : (bs : List ℕ) → AreBytes bs → text_of (spelled bs) ≡ Some bs
unfolding spelled
text_again bs all =
    ap (λ o. option_map (λ n. take n (bytes_of (spelled bs))) o) (spelled_length (fields_for (length bs)) bs all refl)
    ∙ ap Some (spelled_bytes (fields_for (length bs)) bs all refl)

pub fields_counted : (bs : List ℕ) → length (spelled bs) ≡ fields_for (length bs)
unfolding spelled
fields_counted bs = length-spelled_in (fields_for (length bs)) bs

pub all_numbers : (bs : List ℕ) → AreBytes bs → All (λ w. w < 2 ^ 63) (spelled bs)
all_numbers bs all k d less =
    let count = fields_counted bs in
    let below : get_or (spelled bs) k 0 < 2 ^ 63 = word_below bs all k (omega arith) in
    let same = get_or_default (spelled bs) k d 0 less in
    omega arith

-- ---- lengths

counted_within : (n k m : ℕ) → length_told n k ≡ Some m → m ≤ 7 * suc n
counted_within n k m is = grind (arith, common_steps, nat_tests)

pub length_within : (ws : List ℕ) (n : ℕ) → text_length ws ≡ Some n → n ≤ 7 * length ws
unfolding text_length
length_within [] n is = (let e : 0 ≡ n = cc in omega arith)
length_within (w ∷ rest) n is = counted_within (length rest) (get_or (w ∷ rest) (length rest) 0 / 2 ^ 56) n is

-- a text with so many bytes says that it has them
pub told_length : (ws : List ℕ) (count : ℕ) → option_map length (text_of ws) ≡ Some count → text_length ws ≡ Some count
told_length ws count is = go (text_length ws) refl is
  where
    go : (o : Option ℕ) → text_length ws ≡ o → option_map length (option_map (λ n. take n (bytes_of ws)) o) ≡ Some count → o ≡ Some count
    go None told said = absurd (let no : None ≡ Some count = said in cc)
    go (Some n) told said =
        let all = length-bytes_of ws in
        let within = length_within ws n told in
        let long : length (take n (bytes_of ws)) ≡ n = length-take-le n (bytes_of ws) (omega arith) in
        let same : length (take n (bytes_of ws)) ≡ count = cc in
        ap Some (sym long ∙ same)

pub text_short : (ws bs : List ℕ) → text_of ws ≡ Some bs → length bs ≤ 7 * length ws
text_short ws bs is = go (text_length ws) is
  where
    go : (o : Option ℕ) → option_map (λ n. take n (bytes_of ws)) o ≡ Some bs → length bs ≤ 7 * length ws
    go None said = absurd (let no : None ≡ Some bs = said in cc)
    go (Some n) said =
        let same : take n (bytes_of ws) ≡ bs = cc in
        let all = length-bytes_of ws in
        let few = length-take n (bytes_of ws) in
        let e = ap length same in
        omega arith
