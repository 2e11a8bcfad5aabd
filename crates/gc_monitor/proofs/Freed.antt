-- What codes stand for in an epoch stays so when a code is set, a place is added, or a block gets the epoch.
use Rattle.std.proofs.lemmas.Grind.{common_steps}
use Rattle.std.proofs.Common.{◌≡◌, ◌≢◌, ℕ, zero, suc, ◌+◌, ◌/◌, ◌%◌, ◌<◌, ◌≤◌, ◌==◌, Bool, if◌then◌else◌, List, [], ◌∷◌, ◌++◌, length, set, get_or, replicate, refl, sym, ◌∙◌, ap, arith, length-set, get_or-set_same, get_or-set_other}
use Rattle.std.specs.Prelude.{slice_index_or}
use Rattle.std.proofs.lemmas.Bool.{cases_eq, cases_lt}
use Rattle.std.proofs.lemmas.List.{get_or_past, ext_get_or}
use Rattle.gc_monitor.specs.Internal.InWords.{HasCodes, code_in, code_at, codes_in, freed, code_now, codes_now}
use Rattle.gc_monitor.proofs.Packed.{code_seen, length-codes}

-- ---- what codes stand for

either : (b : Bool) (code : ℕ) → freed code ≡ code → (if b then code else freed code) ≡ code
either b code same = grind (arith, common_steps)

-- a code other than 2 stands for itself
pub itself : (epochs : List ℕ) (epoch place code : ℕ) → freed code ≡ code → code_now epochs epoch place code ≡ code
itself epochs epoch place code same = either (slice_index_or epochs (place / 256) 0 == epoch) code same

pub length-now : (epochs : List ℕ) (epoch from : ℕ) (codes : List ℕ) → length (codes_now epochs epoch from codes) ≡ length codes
unfolding codes_now
length-now epochs epoch from [] = refl
length-now epochs epoch from (c ∷ codes) = ap suc (length-now epochs epoch (suc from) codes)

now_from : (epochs : List ℕ) (epoch from : ℕ) (codes : List ℕ) (i : ℕ) → get_or (codes_now epochs epoch from codes) i 0 ≡ code_now epochs epoch (from + i) (get_or codes i 0)
unfolding codes_now
now_from epochs epoch from [] i = sym (itself epochs epoch (from + i) 0 refl)
now_from epochs epoch from (c ∷ codes) zero = ap (λ n. code_now epochs epoch n c) (let e : from ≡ from + 0 = omega arith in e)
now_from epochs epoch from (c ∷ codes) (suc i) =
    now_from epochs epoch (suc from) codes i ∙ ap (λ n. code_now epochs epoch n (get_or codes i 0)) (let e : suc from + i ≡ from + suc i = omega arith in e)

pub now_at : (epochs : List ℕ) (epoch : ℕ) (codes : List ℕ) (i : ℕ) → get_or (codes_now epochs epoch 0 codes) i 0 ≡ code_now epochs epoch i (get_or codes i 0)
now_at epochs epoch codes i = now_from epochs epoch 0 codes i ∙ ap (λ n. code_now epochs epoch n (get_or codes i 0)) (let e : 0 + i ≡ i = omega arith in e)

pub now_first : (from : ℕ) (codes : List ℕ) → codes_now [] 0 from codes ≡ codes
unfolding codes_now
now_first from [] = refl
now_first from (c ∷ codes) = ap (λ cs. c ∷ cs) (now_first (suc from) codes)

-- a row that has at each place what the codes stand for
now_is : (epochs : List ℕ) (epoch : ℕ) (codes row : List ℕ) → length row ≡ length codes → ((i : ℕ) → get_or row i 0 ≡ code_now epochs epoch i (get_or codes i 0)) → row ≡ codes_now epochs epoch 0 codes
now_is epochs epoch codes row len each = ext_get_or 0 row (codes_now epochs epoch 0 codes) (len ∙ sym (length-now epochs epoch 0 codes)) (λ i within. each i ∙ sym (now_at epochs epoch codes i))

pub now_set : (epochs : List ℕ) (epoch from : ℕ) (codes : List ℕ) (i code : ℕ) → codes_now epochs epoch from (set codes i code) ≡ set (codes_now epochs epoch from codes) i (code_now epochs epoch (from + i) code)
unfolding codes_now
now_set epochs epoch from [] i code = refl
now_set epochs epoch from (c ∷ codes) zero code = ap (λ n. code_now epochs epoch n code ∷ codes_now epochs epoch (suc from) codes) (let e : from ≡ from + 0 = omega arith in e)
now_set epochs epoch from (c ∷ codes) (suc i) code = grind (arith, common_steps, now_set epochs epoch (suc from) codes i code)

-- a code 2 counts in the epoch of its block alone
pub counts : (epochs : List ℕ) (epoch place code : ℕ) → code ≡ 2 → slice_index_or epochs (place / 256) 0 ≡ epoch → 2 ≡ code_now epochs epoch place code
counts epochs epoch place code taken here = grind (arith, common_steps)

now_zeros : (epochs : List ℕ) (epoch from n : ℕ) → codes_now epochs epoch from (replicate n 0) ≡ replicate n 0
unfolding codes_now
now_zeros epochs epoch from zero = refl
now_zeros epochs epoch from (suc n) = λ i. itself epochs epoch from 0 refl i ∷ now_zeros epochs epoch (suc from) n i

-- a start more
pub now_added : (epochs : List ℕ) (epoch from : ℕ) (codes : List ℕ) (more : ℕ) → codes_now epochs epoch from (codes ++ 1 ∷ replicate more 0) ≡ codes_now epochs epoch from codes ++ 1 ∷ replicate more 0
unfolding codes_now
now_added epochs epoch from [] more = λ i. itself epochs epoch from 1 refl i ∷ now_zeros epochs epoch (suc from) more i
now_added epochs epoch from (c ∷ codes) more = ap (λ cs. code_now epochs epoch from c ∷ cs) (now_added epochs epoch (suc from) codes more)

-- ---- another epoch

-- a block that did not count is freed, and counts from now on
pub renewed : (epochs next : List ℕ) (epoch block : ℕ) (codes row : List ℕ) → slice_index_or epochs block 0 ≢ epoch → slice_index_or next block 0 ≡ epoch
    → ((b : ℕ) → b ≢ block → slice_index_or next b 0 ≡ slice_index_or epochs b 0) → length row ≡ length codes
    → ((i : ℕ) → i / 256 ≡ block → get_or row i 0 ≡ freed (get_or codes i 0)) → ((i : ℕ) → i / 256 ≢ block → get_or row i 0 ≡ get_or codes i 0)
    → codes_now next epoch 0 row ≡ codes_now epochs epoch 0 codes
renewed epochs next epoch block codes row stale here others len inside outside =
    now_is epochs epoch codes (codes_now next epoch 0 row) (length-now next epoch 0 row ∙ len) (λ i. now_at next epoch row i ∙ each i)
  where
    each : (i : ℕ) → code_now next epoch i (get_or row i 0) ≡ code_now epochs epoch i (get_or codes i 0)
    each i = grind (arith, cases_eq)

-- all places before this one have what their codes stand for, and there are no others
pub settled : (epochs : List ℕ) (epoch : ℕ) (codes row : List ℕ) (place : ℕ) → length row ≡ length codes → length codes ≤ place
    → ((i : ℕ) → i < place → get_or row i 0 ≡ code_now epochs epoch i (get_or codes i 0)) → row ≡ codes_now epochs epoch 0 codes
settled epochs epoch codes row place len past before = grind (arith, now_is, cases_lt, get_or_past, itself)

-- ---- one word of codes

free_at : (words : List ℕ) (at word place : ℕ) → at < length words → ((k : ℕ) → k < 32 → code_in word k ≡ freed (code_in (get_or words at 0) k)) → place / 32 ≡ at
    → code_at (set words at word) place ≡ freed (code_at words place)
unfolding code_at
free_at words at word place inside codes here = grind (arith, common_steps, get_or-set_same)

keep_at : (words : List ℕ) (at word place : ℕ) → place / 32 ≢ at → code_at (set words at word) place ≡ code_at words place
unfolding code_at
keep_at words at word place beside = ap (λ n. code_in n (place % 32)) (get_or-set_other words at (place / 32) word 0 beside)

-- the row after the codes of a word are freed
pub record IsFreed (words : List ℕ) (len at word : ℕ) : Type 0 where
  pub has : HasCodes (set words at word) len
  pub same : length (codes_in (set words at word) len) ≡ length (codes_in words len)
  pub here : (place : ℕ) → place / 32 ≡ at → get_or (codes_in (set words at word) len) place 0 ≡ freed (get_or (codes_in words len) place 0)
  pub others : (place : ℕ) → place / 32 ≢ at → get_or (codes_in (set words at word) len) place 0 ≡ get_or (codes_in words len) place 0

pub is_freed : (words : List ℕ) (len at word : ℕ) → HasCodes words len → at < length words → ((k : ℕ) → k < 32 → code_in word k ≡ freed (code_in (get_or words at 0) k)) → IsFreed words len at word
is_freed words len at word h inside codes = grind (arith, length-codes, code_seen, free_at, keep_at, length-set, cases_eq)
