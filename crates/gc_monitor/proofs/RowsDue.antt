-- Fields in a row that become due in a replica, or are no longer due.
use Rattle.std.proofs.lemmas.Grind.{common_steps}
use Rattle.std.proofs.Common.{◌≡◌, ◌⊎◌, inl, inr, ℕ, zero, suc, ◌+◌, ◌-◌, ◌<◌, ◌≤◌, ◌==◌, Bool, List, length, get_or, set, true, false, refl, sym, ap, subst, ◌∙◌, length-set, arith}
use Rattle.std.proofs.lemmas.Bool.{cases_eq, cases_lt}
use Rattle.std.proofs.lemmas.List.{ext_get_or, get_or-set_other, get_or-set_same}
use Rattle.std.specs.Prelude.{if◌then◌else◌}
use Rattle.gc_words.specs.Layout.{field_place}
use Rattle.gc_monitor.specs.Internal.Watch.{bit}
use Rattle.gc_monitor.specs.Tables.{Tables, RowsAgree, missing_in}
use Rattle.gc_monitor.specs.Events.{HasNoReplica, IsReplicaAt, WroteRow, code_of, with_due, with_news}
use Rattle.gc_monitor.specs.Internal.Rows.{dues_from, row_set, with_due_row}
use Rattle.gc_monitor.proofs.RowsAgree.{agree_due, set_count}

-- an object without a replica owes nothing
pub unwritten : (a i n : ℕ) (t : Tables) → HasNoReplica t a → WroteRow a i n t t
unwritten a i zero t none = refl
unwritten a i (suc n) t none = (t, inl (none, refl), unwritten a (suc i) n t none)

-- the fields of a replica are due one after the other
pub wrote_row : (n a b i : ℕ) (t : Tables) → IsReplicaAt t a b → field_place b i + n ≤ length t.news → WroteRow a i n t (with_due_row true t (field_place b i) n)
wrote_row zero a b i t is within = refl
wrote_row (suc n) a b i t is within =
    let next : suc (field_place b i) ≡ field_place b (suc i) = omega arith in
    let later : IsReplicaAt (with_due t (field_place b i) true) a b = record { low = is.low; taken = is.taken; origin = is.origin } in (
      with_due t (field_place b i) true,
      inr (b, is, omega arith, refl),
      subst (λ p. WroteRow a (suc i) n (with_due t (field_place b i) true) (with_due_row true (with_due t (field_place b i) true) p n)) (sym next)
          (wrote_row n a b (suc i) (with_due t (field_place b i) true) later (omega (arith, length-set t.news (field_place b i) 3))),
    )

-- ---- the codes

row_length : (code n p : ℕ) (codes : List ℕ) → length (row_set code codes p n) ≡ length codes
row_length code zero p codes = refl
row_length code (suc n) p codes = row_length code n (suc p) (set codes p code) ∙ length-set codes p code

row_before : (code n p k : ℕ) (codes : List ℕ) → k < p → get_or (row_set code codes p n) k 0 ≡ get_or codes k 0
row_before code zero p k codes low = refl
row_before code (suc n) p k codes low = row_before code n (suc p) k (set codes p code) (omega arith) ∙ get_or-set_other codes p k code 0 (λ e. omega arith)

row_behind : (code n p k : ℕ) (codes : List ℕ) → p + n ≤ k → get_or (row_set code codes p n) k 0 ≡ get_or codes k 0
row_behind code zero p k codes high = refl
row_behind code (suc n) p k codes high = row_behind code n (suc p) k (set codes p code) (omega arith) ∙ get_or-set_other codes p k code 0 (λ e. omega arith)

row_within : (code n p k : ℕ) (codes : List ℕ) → p + n ≤ length codes → p ≤ k → k < p + n → get_or (row_set code codes p n) k 0 ≡ code
row_within code zero p k codes fits low high = absurd (omega arith)
row_within code (suc n) p k codes fits low high = elim (cases_eq k p) [
  | inl same ↦ row_before code n (suc p) k (set codes p code) (omega arith) ∙ (ap (λ j. get_or (set codes p code) j 0) same ∙ get_or-set_same codes p code 0 (omega arith))
  | inr other ↦ row_within code n (suc p) k (set codes p code) (omega (arith, length-set codes p code)) (omega arith) (omega arith)
]

-- codes that are this one at these places, and else what they were
pub row_is_set : (code : ℕ) (before now : List ℕ) (p n : ℕ) → length now ≡ length before → p + n ≤ length before → ((k : ℕ) → p ≤ k → k < p + n → get_or now k 0 ≡ code) → ((k : ℕ) → (k < p) ⊎ (p + n ≤ k) → get_or now k 0 ≡ get_or before k 0) → now ≡ row_set code before p n
row_is_set code before now p n same fits within_is others = ext_get_or 0 now (row_set code before p n) (same ∙ sym (row_length code n p before)) (λ k within. at k)
  where
    at : (k : ℕ) → get_or now k 0 ≡ get_or (row_set code before p n) k 0
    at k = elim (cases_lt k p) [
      | inl low ↦ others k (inl low) ∙ sym (row_before code n p k before low)
      | inr past ↦ elim (cases_lt k (p + n)) [
        | inl high ↦ within_is k past high ∙ sym (row_within code n p k before fits past high)
        | inr behind ↦ others k (inr behind) ∙ sym (row_behind code n p k before behind)
      ]
    ]

-- ---- the count

dues_same : (code n p q : ℕ) (codes : List ℕ) → p < q → dues_from (set codes p code) q n ≡ dues_from codes q n
dues_same code zero p q codes less = refl
dues_same code (suc n) p q codes less = (λ i. bit (get_or-set_other codes p q code 0 (λ e. omega arith) i == 3) + dues_same code n p (suc q) codes (omega arith) i)

-- how many of so many places are due
abbrev pub dues_of : Bool → ℕ → ℕ
dues_of due n = if due then n else 0

one_more : (due : Bool) (n : ℕ) → dues_of due (suc n) ≡ bit due + dues_of due n
one_more due n = grind (arith, common_steps)

row_count : (due : Bool) (n p : ℕ) (codes : List ℕ) → p + n ≤ length codes → missing_in (row_set (code_of due) codes p n) + dues_from codes p n ≡ missing_in codes + dues_of due n
row_count due zero p codes fits = grind (arith, common_steps)
row_count due (suc n) p codes fits =
    let rest : missing_in (row_set (code_of due) (set codes p (code_of due)) (suc p) n) + dues_from (set codes p (code_of due)) (suc p) n ≡ missing_in (set codes p (code_of due)) + dues_of due n
    = row_count due n (suc p) (set codes p (code_of due)) (omega (arith, length-set codes p (code_of due))) in
    let one : missing_in (set codes p (code_of due)) + bit (get_or codes p 0 == 3) ≡ missing_in codes + bit due = set_count codes p due (omega arith) in
    let same : dues_from (set codes p (code_of due)) (suc p) n ≡ dues_from codes (suc p) n = dues_same (code_of due) n p (suc p) codes (omega arith) in
    let more : dues_of due (suc n) ≡ bit due + dues_of due n = one_more due n in
    omega arith

pub dues_few : (n p : ℕ) (codes : List ℕ) → dues_from codes p n ≤ n
dues_few zero p codes = omega arith
dues_few (suc n) p codes = let rest : dues_from codes (suc p) n ≤ n = dues_few n (suc p) codes in let one : bit (get_or codes p 0 == 3) ≤ 1 = grind (arith, common_steps) in omega arith

-- places that all are due
pub all_due : (n p : ℕ) (codes : List ℕ) → ((place : ℕ) → p ≤ place → place < p + n → get_or codes place 0 ≡ 3) → dues_from codes p n ≡ n
all_due zero p codes all = refl
all_due (suc n) p codes all =
    let one : bit (get_or codes p 0 == 3) ≡ 1 = ap (λ (code : ℕ). bit (code == 3)) (all p (omega arith) (omega arith)) in
    let rest : dues_from codes (suc p) n ≡ n = all_due n (suc p) codes (λ place low high. all place (omega arith) (omega arith)) in
    omega arith

-- places are counted in two parts
pub dues_on : (a b p : ℕ) (codes : List ℕ) → dues_from codes p (a + b) ≡ dues_from codes p a + dues_from codes (p + a) b
dues_on zero b p codes =
    let all : dues_from codes p (0 + b) ≡ dues_from codes p b = ap (dues_from codes p) (let e : 0 + b ≡ b = omega arith in e) in
    let here : dues_from codes p b ≡ dues_from codes (p + 0) b = ap (λ q. dues_from codes q b) (let e : p ≡ p + 0 = omega arith in e) in
    omega arith
dues_on (suc a) b p codes =
    let all : dues_from codes p (suc a + b) ≡ bit (get_or codes p 0 == 3) + dues_from codes (suc p) (a + b) = ap (dues_from codes p) (let e : suc a + b ≡ suc (a + b) = omega arith in e) in
    let behind : dues_from codes (suc p + a) b ≡ dues_from codes (p + suc a) b = ap (λ q. dues_from codes q b) (let e : suc p + a ≡ p + suc a = omega arith in e) in
    let rest = dues_on a b (suc p) codes in
    omega (arith, rest)

-- ---- the tables

rows_are : (due : Bool) (n p : ℕ) (t : Tables) (codes : List ℕ) → with_due_row due (with_news t codes) p n ≡ with_news t (row_set (code_of due) codes p n)
rows_are due zero p t codes = refl
rows_are due (suc n) p t codes = rows_are due n (suc p) t (set codes p (code_of due))

row_is : (due : Bool) (n p : ℕ) (t : Tables) → RowsAgree t → with_due_row due t p n ≡ with_news t (row_set (code_of due) t.news p n)
row_is due n p t k = ap (λ (x : Tables). with_due_row due x p n) (λ i. record t { missing = k.counted i }) ∙ rows_are due n p t t.news

pub agree_row : (due : Bool) (n p : ℕ) (t : Tables) → RowsAgree t → RowsAgree (with_due_row due t p n)
agree_row due zero p t k = k
agree_row due (suc n) p t k = agree_row due n (suc p) (with_due t p due) (agree_due t p due k)

-- the last place of a row
pub row_last : (due : Bool) (n p : ℕ) (t : Tables) → with_due_row due t p (suc n) ≡ with_due (with_due_row due t p n) (p + n) due
row_last due zero p t = ap (λ q. with_due t q due) (let e : p ≡ p + 0 = omega arith in e)
row_last due (suc n) p t = row_last due n (suc p) (with_due t p due) ∙ ap (λ q. with_due (with_due_row due (with_due t p due) (suc p) n) q due) (let e : suc p + n ≡ p + suc n = omega arith in e)

-- those that are due are among those counted
pub dues_missing : (n p : ℕ) (codes : List ℕ) → p + n ≤ length codes → dues_from codes p n ≤ missing_in codes
dues_missing n p codes fits = let all : missing_in (row_set 0 codes p n) + dues_from codes p n ≡ missing_in codes + 0 = row_count false n p codes fits in omega arith

-- ---- what the code does

-- one more place is counted
pub count_step : (codes : List ℕ) (first k count dues all : ℕ) → k < count → dues + dues_from codes (first + k) (count - k) ≡ all → (dues + bit (get_or codes (first + k) 0 == 3)) + dues_from codes (first + (k + 1)) (count - (k + 1)) ≡ all
count_step codes first k count dues all less sum =
    let left : suc (count - (k + 1)) ≡ count - k = omega arith in
    let next : first + (k + 1) ≡ suc (first + k) = omega arith in
    let one : dues_from codes (first + k) (count - k) ≡ bit (get_or codes (first + k) 0 == 3) + dues_from codes (suc (first + k)) (count - (k + 1)) = ap (dues_from codes (first + k)) (sym left) in
    let rest : dues_from codes (first + (k + 1)) (count - (k + 1)) ≡ dues_from codes (suc (first + k)) (count - (k + 1)) = ap (λ p. dues_from codes p (count - (k + 1))) next in
    omega arith

pub row_made : (due : Bool) (t : Tables) (place count dues m : ℕ) (news : List ℕ) → RowsAgree t → place + count ≤ length t.news → news ≡ row_set (code_of due) t.news place count → dues ≡ dues_from t.news place count
    → m + dues ≡ t.missing + dues_of due count → record t { news = news; missing = m } ≡ with_due_row due t place count
row_made due t place count dues m news k fits is counted sum =
    let all : missing_in (row_set (code_of due) t.news place count) + dues_from t.news place count ≡ missing_in t.news + dues_of due count = row_count due count place t.news fits in
    let was : t.missing ≡ missing_in t.news = k.counted in
    let now : m ≡ missing_in (row_set (code_of due) t.news place count) = omega arith in
    (λ i. record t { news = is i; missing = now i }) ∙ sym (row_is due count place t k)
