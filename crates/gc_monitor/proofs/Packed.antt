-- A code that is set in its word is set at its place, and at no other.
use Rattle.std.proofs.lemmas.Grind.{common_steps}
use Rattle.std.proofs.Common.{◌≡◌, ◌≢◌, ◌⊎◌, inl, inr, ℕ, suc, ◌+◌, ◌-◌, ◌/◌, ◌%◌, ◌<◌, ◌≤◌, List, [], ◌∷◌, ◌++◌, length, take, set, get_or, replicate, refl, sym, ◌∙◌, ap, subst, arith, length-append, length-set, get_or-set_same, get_or-set_other}
use Rattle.std.specs.Prelude.{slice_index}
use Rattle.std.proofs.lemmas.Bool.{cases_eq, cases_lt}
use Rattle.std.proofs.lemmas.List.{length-replicate, length-take-le, get_or-take, get_or_append_left, get_or-append_right, get_or-replicate, get_or_default, get_or_past, ext_get_or}
use Rattle.std.proofs.lemmas.List.FromFn.{length-map-range_with_len, get_or-map-range_with_len}
use Rattle.gc_monitor.specs.Internal.InWords.{Codes, code_in, code_at, codes_in, HasCodes}

pub length-codes : (words : List ℕ) (len : ℕ) → length (codes_in words len) ≡ len
unfolding codes_in
length-codes words len = length-map-range_with_len (code_at words) 0 len

codes_at : (words : List ℕ) (len place : ℕ) → place < len → get_or (codes_in words len) place 0 ≡ code_at words place
unfolding codes_in
codes_at words len place inside = get_or-map-range_with_len (code_at words) 0 len place place 0 inside (omega arith)

-- the word of a place is there
pub word_within : (words : List ℕ) (len place : ℕ) → HasCodes words len → place < len → place / 32 < length words
word_within words len place h inside = let count : (len + 31) / 32 ≤ length words = h.count in omega arith

-- ---- zeros

pub zeros_at : (n i : ℕ) → get_or {A = ℕ} (replicate n 0) i 0 ≡ 0
zeros_at n i = grind (arith, common_steps, cases_lt, get_or-replicate, get_or_past, length-replicate)

pub zeros_behind : (xs : List ℕ) (n i : ℕ) → get_or (xs ++ replicate n 0) i 0 ≡ get_or xs i 0
zeros_behind xs n i = grind (arith, common_steps, cases_lt, get_or_append_left, get_or-append_right, get_or_past, zeros_at)

pub no_code : (k : ℕ) → code_in 0 k ≡ 0
no_code k = grind arith

-- ---- one code changes

-- the word of a place with another code there
pub record IsWith (words : List ℕ) (place code word : ℕ) : Type 0 where
  pub here : code_in word (place % 32) ≡ code
  pub others : (k : ℕ) → k ≢ place % 32 → code_in word k ≡ code_in (slice_index words (place / 32)) k

here_at : (words : List ℕ) (place code word : ℕ) → place / 32 < length words → IsWith words place code word → code_at (set words (place / 32) word) place ≡ code
unfolding code_at
here_at words place code word inside w = ap (λ n. code_in n (place % 32)) (get_or-set_same words (place / 32) word 0 inside) ∙ w.here

other_at : (words : List ℕ) (place code word other : ℕ) → place / 32 < length words → IsWith words place code word → other ≢ place → code_at (set words (place / 32) word) other ≡ code_at words other
unfolding code_at
other_at words place code word other inside w differs = grind (arith, common_steps, cases_eq, get_or-set_same, get_or-set_other)

pub codes_set : (words : List ℕ) (len place code word : ℕ) → HasCodes words len → place < len → IsWith words place code word → codes_in (set words (place / 32) word) len ≡ set (codes_in words len) place code
codes_set words len place code word h inside w =
    ext_get_or 0 (codes_in (set words (place / 32) word) len) (set (codes_in words len) place code)
    (length-codes (set words (place / 32) word) len ∙ sym (length-set (codes_in words len) place code ∙ length-codes words len))
    (λ other within. same other (omega (arith, within, length-codes (set words (place / 32) word) len)))
  where
    same : (other : ℕ) → other < len → get_or (codes_in (set words (place / 32) word) len) other 0 ≡ get_or (set (codes_in words len) place code) other 0
    same other within = codes_at (set words (place / 32) word) len other within ∙ elim (cases_eq other place) [
      | inl is ↦ subst (λ n. code_at (set words (place / 32) word) n ≡ get_or (set (codes_in words len) place code) n 0) (sym is)
          (here_at words place code word (word_within words len place h inside) w
          ∙ sym (get_or-set_same (codes_in words len) place code 0 (omega (arith, length-codes words len))))
      | inr differs ↦ other_at words place code word other (word_within words len place h inside) w differs
          ∙ sym (get_or-set_other (codes_in words len) place other code 0 differs ∙ codes_at words len other within)
    ]

pub has_codes_set : (words : List ℕ) (len place code word : ℕ) → HasCodes words len → place < len → IsWith words place code word → HasCodes (set words (place / 32) word) len
has_codes_set words len place code word h inside w = record {
  count = omega (arith, h.count, length-set words (place / 32) word);
  few = omega (arith, h.few, length-set words (place / 32) word);
  rest = λ other past. other_at words place code word other (word_within words len place h inside) w (λ e. omega arith) ∙ h.rest other past;
}

-- ---- places behind the last

more_at : (words : List ℕ) (n place : ℕ) → code_at (words ++ replicate n 0) place ≡ code_at words place
unfolding code_at
more_at words n place = ap (λ n. code_in n (place % 32)) (zeros_behind words n (place / 32))

codes_more : (words : List ℕ) (len n places : ℕ) → HasCodes words len → codes_in (words ++ replicate n 0) (len + places) ≡ codes_in words len ++ replicate places 0
codes_more words len n places h =
    ext_get_or 0 (codes_in (words ++ replicate n 0) (len + places)) (codes_in words len ++ replicate places 0)
    (length-codes (words ++ replicate n 0) (len + places) ∙ sym (length-append (codes_in words len) (replicate places 0) ∙ (λ i. length-codes words len i + length-replicate {A = ℕ} places 0 i)))
    (λ place within. codes_at (words ++ replicate n 0) (len + places) place (omega (arith, within, length-codes (words ++ replicate n 0) (len + places)))
    ∙ more_at words n place ∙ sym (zeros_behind (codes_in words len) places place ∙ same place))
  where
    same : (place : ℕ) → get_or (codes_in words len) place 0 ≡ code_at words place
    same place = grind (arith, common_steps, cases_lt, codes_at, get_or_past, length-codes)

has_codes_more : (words : List ℕ) (len n places : ℕ) → HasCodes words len → (len + places + 31) / 32 ≤ length words + n → length words + n ≤ 134217728 → HasCodes (words ++ replicate n 0) (len + places)
has_codes_more words len n places h count few = grind (arith, common_steps, length-replicate, more_at)

-- ---- the row of place 0

one_zero : (i : ℕ) → get_or {A = ℕ} (0 ∷ []) i 0 ≡ 0
one_zero i = grind (arith, common_steps)

pub has_one : HasCodes (0 ∷ []) 1
unfolding code_at
has_one = record { count = omega arith; few = omega arith; rest = λ place past. ap (λ n. code_in n (place % 32)) (one_zero (place / 32)) ∙ no_code (place % 32) }

pub one_code : codes_in (0 ∷ []) 1 ≡ 0 ∷ []
unfolding code_at codes_in
one_code = refl

pub has_none : HasCodes [] 0
unfolding code_at
has_none = record { count = omega arith; few = omega arith; rest = λ place past. no_code (place % 32) }

pub no_codes : codes_in [] 0 ≡ []
unfolding codes_in
no_codes = refl

-- ---- what a caller sees

-- a place that a caller may name
pub seen_within : (words : List ℕ) (len room place : ℕ) (seen : Codes) → record { codes = codes_in words len; room = room } ≡ seen → place < length seen.codes → place < len
seen_within words len room place seen is within = let inside : place < length (codes_in words len) = subst (λ (t : Codes). place < length t.codes) (sym is) within in omega (arith, length-codes words len)

pub code_read : (words : List ℕ) (len room place code n : ℕ) (seen : Codes) → record { codes = codes_in words len; room = room } ≡ seen → place < length seen.codes
    → n ≡ get_or words (place / 32) n → place / 32 < length words → code ≡ code_in n (place % 32) → code ≡ slice_index seen.codes place
unfolding code_at
code_read words len room place code n seen is within read inside code_is =
    code_is
    ∙ ap (λ n. code_in n (place % 32)) (read ∙ get_or_default words (place / 32) n 0 inside)
    ∙ sym (codes_at words len place (seen_within words len room place seen is within))
    ∙ ap (λ (t : Codes). get_or t.codes place 0) is

-- the word that the code makes of a place's word
pub is_with : (words : List ℕ) (place code word n : ℕ) → n ≡ get_or words (place / 32) n → place / 32 < length words → code_in word (place % 32) ≡ code
    → ((k : ℕ) → k ≢ place % 32 → code_in word k ≡ code_in n k) → IsWith words place code word
is_with words place code word n read inside here others = grind (arith, common_steps, get_or_default)

pub seen_len : (words : List ℕ) (len room more : ℕ) (seen : Codes) → record { codes = codes_in words len; room = room } ≡ seen → length seen.codes + more ≤ seen.room → len + more ≤ room
seen_len words len room more seen is fits = grind (arith, common_steps, length-codes)

pub seen_length : (words : List ℕ) (len room : ℕ) (seen : Codes) → record { codes = codes_in words len; room = room } ≡ seen → length seen.codes ≡ len
seen_length words len room seen is = ap (λ (t : Codes). length t.codes) (sym is) ∙ length-codes words len

-- ---- the codes of an object

pub fields_filled : (before : List ℕ) (len code n : ℕ) → n ≡ length before + 2 → take n (before ++ 1 ∷ 0 ∷ replicate len 0) ++ replicate len code ≡ before ++ 1 ∷ 0 ∷ replicate len code
fields_filled before len code n at = ap (λ n. take n (before ++ 1 ∷ 0 ∷ replicate len 0) ++ replicate len code) (at ∙ (let e : length before + 2 ≡ suc (suc (length before)) = omega arith in e)) ∙ at_end before
  where
    at_end : (before : List ℕ) → take (suc (suc (length before))) (before ++ 1 ∷ 0 ∷ replicate len 0) ++ replicate len code ≡ before ++ 1 ∷ 0 ∷ replicate len code
    at_end [] = refl
    at_end (x ∷ before) = ap (λ xs. x ∷ xs) (at_end before)

-- ---- a place more with a code

with_first : (before : List ℕ) (code more : ℕ) → set (before ++ replicate (suc more) 0) (length before) code ≡ before ++ code ∷ replicate more 0
with_first [] code more = refl
with_first (x ∷ before) code more = ap (λ xs. x ∷ xs) (with_first before code more)

-- the rows that the code writes for a place more with a code, and places behind it
pub record IsAdded (words words' : List ℕ) (len len' code more : ℕ) : Type 0 where
  pub has : HasCodes words' len'
  pub codes : codes_in words' len' ≡ codes_in words len ++ code ∷ replicate more 0

-- the place is behind the last, so its code is 0
pub none_behind : (words grown : List ℕ) (len len' n word : ℕ) → HasCodes words len → grown ≡ words ++ replicate n 0 → len < len' → (len' + 31) / 32 ≤ length words + n
    → word ≡ get_or grown (len / 32) word → code_in word (len % 32) ≡ 0
unfolding code_at
none_behind words grown len len' n word has grown_is more count read = grind (arith, common_steps, length-append, length-replicate, get_or_default, zeros_behind)

pub added : (words grown : List ℕ) (len len' code more n word with : ℕ) → HasCodes words len → grown ≡ words ++ replicate n 0 → len' ≡ len + suc more → (len' + 31) / 32 ≤ length words + n → length words + n ≤ 134217728
    → word ≡ get_or grown (len / 32) word → code_in with (len % 32) ≡ code → ((k : ℕ) → k ≢ len % 32 → code_in with k ≡ code_in word k)
    → IsAdded words (set grown (len / 32) with) len len' code more
added words grown len len' code more n word with has grown_is len_is count few read here others =
    let row : List ℕ = words ++ replicate n 0 in
    let has_row : HasCodes row (len + suc more) = has_codes_more words len n (suc more) has (omega (arith, count, len_is)) few in
    let w : IsWith row len code with = is_with row len code with word (read ∙ ap (λ row. get_or row (len / 32) word) grown_is) (omega (arith, has_row.count)) here others in
    let rows : set grown (len / 32) with ≡ set row (len / 32) with = ap (λ row. set row (len / 32) with) grown_is in
    record {
      has = subst (λ row. HasCodes row len') (sym rows) (subst (λ l. HasCodes (set row (len / 32) with) l) (sym len_is) (has_codes_set row (len + suc more) len code with has_row (omega arith) w));
      codes = (λ i. codes_in (rows i) (len_is i))
          ∙ codes_set row (len + suc more) len code with has_row (omega arith) w
          ∙ ap (λ codes. set codes len code) (codes_more words len n (suc more) has)
          ∙ ap (λ place. set (codes_in words len ++ replicate (suc more) 0) place code) (sym (length-codes words len))
          ∙ with_first (codes_in words len) code more;
    }

-- ---- a run of places

-- the word of a place with this code from there on
record IsRun (code : ℕ) (words : List ℕ) (from count word : ℕ) : Type 0 where
  fits : from % 32 + count ≤ 32
  inside : (k : ℕ) → from % 32 ≤ k → k < from % 32 + count → code_in word k ≡ code
  outside : (k : ℕ) → (k < from % 32) ⊎ (from % 32 + count ≤ k) → code_in word k ≡ code_in (slice_index words (from / 32)) k

set_at : (code : ℕ) (words : List ℕ) (from count word place : ℕ) → from / 32 < length words → IsRun code words from count word → from ≤ place → place < from + count → code_at (set words (from / 32) word) place ≡ code
unfolding code_at
set_at code words from count word place inside f low high = grind (arith, common_steps, get_or-set_same)

stays_at : (code : ℕ) (words : List ℕ) (from count word place : ℕ) → from / 32 < length words → IsRun code words from count word → (place < from) ⊎ (from + count ≤ place) → code_at (set words (from / 32) word) place ≡ code_at words place
unfolding code_at
stays_at code words from count word place inside f out = grind (arith, common_steps, cases_eq, get_or-set_same, get_or-set_other)

pub code_seen : (words : List ℕ) (len place : ℕ) → HasCodes words len → get_or (codes_in words len) place 0 ≡ code_at words place
code_seen words len place h = grind (arith, common_steps, cases_lt, codes_at, get_or_past, length-codes)

-- the row once that word is written
pub record HasRun (code : ℕ) (words : List ℕ) (len from count word : ℕ) : Type 0 where
  pub has : HasCodes (set words (from / 32) word) len
  pub run : (place : ℕ) → from ≤ place → place < from + count → get_or (codes_in (set words (from / 32) word) len) place 0 ≡ code
  pub others : (place : ℕ) → (place < from) ⊎ (from + count ≤ place) → get_or (codes_in (set words (from / 32) word) len) place 0 ≡ get_or (codes_in words len) place 0

pub run_set : (code : ℕ) (words : List ℕ) (len room from count word n : ℕ) (seen : Codes) → HasCodes words len → record { codes = codes_in words len; room = room } ≡ seen
    → from + count ≤ length seen.codes → 1 ≤ count → from % 32 + count ≤ 32 → n ≡ get_or words (from / 32) n
    → ((k : ℕ) → from % 32 ≤ k → k < from % 32 + count → code_in word k ≡ code) → ((k : ℕ) → (k < from % 32) ⊎ (from % 32 + count ≤ k) → code_in word k ≡ code_in n k) → HasRun code words len from count word
run_set code words len room from count word n seen has is within some fits read filled others =
    let len_is = seen_length words len room seen is in
    let inside : from / 32 < length words = omega (arith, has.count) in
    let f : IsRun code words from count word = grind (arith, common_steps, get_or_default) in
    let now : HasCodes (set words (from / 32) word) len = record {
      count = omega (arith, has.count, length-set words (from / 32) word);
      few = omega (arith, has.few, length-set words (from / 32) word);
      rest = λ place past. stays_at code words from count word place inside f (inr (omega arith)) ∙ has.rest place past;
    } in
    record {
      has = now;
      run = λ place low high. code_seen _ len place now ∙ set_at code words from count word place inside f low high;
      others = λ place out. code_seen _ len place now ∙ stays_at code words from count word place inside f out ∙ sym (code_seen words len place has);
    }

-- the last places have code 3, and the others what they had
pub all_filled : (before now : List ℕ) (places : ℕ) → length now ≡ length before → places ≤ length before
    → ((place : ℕ) → length before - places ≤ place → place < length before → get_or now place 0 ≡ 3)
    → ((place : ℕ) → place < length before - places → get_or now place 0 ≡ get_or before place 0) → now ≡ take (length before - places) before ++ replicate places 3
all_filled before now places same few filled others =
    ext_get_or 0 now (take from before ++ replicate places 3)
    (same ∙ sym (length-append (take from before) (replicate places 3) ∙ (let e : length (take from before) + length {A = ℕ} (replicate places 3) ≡ length before = omega (arith, front, length-replicate {A = ℕ} places 3) in e)))
    (λ place within. at place (omega arith))
  where
    from : ℕ
    from = length before - places

    front : length (take from before) ≡ from
    front = length-take-le from before (omega arith)

    at : (place : ℕ) → place < length before → get_or now place 0 ≡ get_or (take from before ++ replicate places 3) place 0
    at place within = grind (arith, common_steps, cases_lt, from, get_or_append_left, front, get_or-take, get_or-append_right, get_or-replicate)

-- once the last places of an object that is added have code 3, all its fields have it
pub object_filled : (before mid now : List ℕ) (fields : ℕ) → mid ≡ before ++ 1 ∷ replicate (suc fields) 0 → length now ≡ length mid
    → ((place : ℕ) → length before + 2 ≤ place → place < length before + 2 + fields → get_or now place 0 ≡ 3)
    → ((place : ℕ) → place < length before + 2 → get_or now place 0 ≡ get_or mid place 0) → now ≡ before ++ 1 ∷ 0 ∷ replicate fields 3
object_filled before mid now fields mid_is same filled others =
    all_filled mid now fields same (omega (arith, long)) (λ place low high. filled place (omega (arith, low, long)) (omega (arith, high, long))) (λ place low. others place (omega (arith, low, long)))
    ∙ ap (λ xs. take (length mid - fields) xs ++ replicate fields 3) mid_is
    ∙ fields_filled before fields 3 (length mid - fields) (omega (arith, long))
  where
    long : length mid ≡ length before + 2 + fields
    long = ap (λ (xs : List ℕ). length xs) mid_is ∙ length-append before (1 ∷ replicate (suc fields) 0) ∙ (let e : length before + length {A = ℕ} (1 ∷ replicate (suc fields) 0) ≡ length before + 2 + fields = omega (arith, length-replicate {A = ℕ} fields 0) in e)
