-- The rows of the tables agree, whatever happens.
use Rattle.std.proofs.lemmas.Grind.{common_steps}
use Rattle.std.proofs.Common.{◌≡◌, ◌⊎◌, inl, inr, ℕ, zero, suc, ◌+◌, ◌<◌, ◌≤◌, ◌==◌, Bool, true, false, not, List, [], ◌∷◌, ◌++◌, length, set, get_or, replicate, refl, sym, ◌∙◌, ap, arith}
use Rattle.std.specs.Prelude.{if◌then◌else◌}
use Rattle.std.specs.List.{sum_by}
use Rattle.std.proofs.lemmas.Bool.{cases_eq, cases_lt}
use Rattle.std.proofs.lemmas.List.{get_or-set_other, get_or-set_same, length-replicate, length-map, map-append, get_or-map, get_or_past, get_or_append_left}
use Rattle.std.proofs.lemmas.List.Sums.{sum_by-set, sum_by-append, count_by-le-length}
use Rattle.gc_words.specs.Layout.{fields_place}
use Rattle.gc_words.specs.declared.header.Header.{Header}
use Rattle.gc_monitor.specs.Internal.Watch.{bit}
use Rattle.gc_monitor.specs.Tables.{Tables, RowsAgree, due_in, missing_in}
use Rattle.gc_monitor.specs.Internal.Tables.{IsLostOrAgrees}
use Rattle.gc_monitor.specs.Events.{code_of, object_codes, with_due, replica_added, IsClaim, IsCopy, Placed, HasNoReplica}
use Rattle.gc_monitor.specs.Claims.{OwesNone}
use Rattle.gc_monitor.proofs.Codes.{code_set}

-- what is not lost
pub agree_of : (t : Tables) → IsLostOrAgrees t → t.lost ≡ false → RowsAgree t
agree_of t h found = grind (arith, common_steps)

-- ---- the count

pub few_due : (codes : List ℕ) → missing_in codes ≤ length codes
few_due codes = let m : missing_in codes ≤ length (due_in codes) = count_by-le-length (λ due. due) (due_in codes) in omega (arith, length-map codes (λ code. code == 3))

pub code_is : (due : Bool) → (code_of due == 3) ≡ due
code_is due = grind (arith, common_steps)

pub due_at : (codes : List ℕ) (place : ℕ) → get_or (due_in codes) place false ≡ (get_or codes place 0 == 3)
due_at codes place = grind (arith, common_steps, cases_lt, get_or-map, get_or_past, length-map)

pub set_count : (codes : List ℕ) (place : ℕ) (due : Bool) → place < length codes → missing_in (set codes place (code_of due)) + bit (get_or codes place 0 == 3) ≡ missing_in codes + bit due
set_count codes place due h =
    (λ i. sum_by bit ((code_set codes place (code_of due) ∙ ap (set (due_in codes) place) (code_is due)) i) + bit (sym (due_at codes place) i))
    ∙ sum_by-set bit (due_in codes) place due false (omega (arith, length-map codes (λ code. code == 3)))

pub agree_due : (t : Tables) (place : ℕ) (due : Bool) → RowsAgree t → RowsAgree (with_due t place due)
agree_due t place due k = grind (arith, common_steps)

-- ---- an object more

pub in_front : (xs ys : List ℕ) (k c : ℕ) → get_or xs k 0 ≡ suc c → get_or (xs ++ ys) k 0 ≡ suc c
in_front xs ys k c h = grind (arith, common_steps, cases_lt, get_or_append_left, get_or_past)

pub within_row : (xs : List ℕ) (k c : ℕ) → get_or xs k 0 ≡ suc c → k < length xs
within_row xs k c h = grind (arith, common_steps, cases_lt, get_or_past)

bits : (n : ℕ) (due : Bool) → missing_in (replicate n (code_of due)) ≡ (if due then n else 0)
bits zero true = refl
bits zero false = refl
bits (suc n) true = sum_by-append bit (true ∷ []) (due_in (replicate n 3)) ∙ (let ih : missing_in (replicate n 3) ≡ n = bits n true in omega arith)
bits (suc n) false = sum_by-append bit (false ∷ []) (due_in (replicate n 0)) ∙ (let ih : missing_in (replicate n 0) ≡ 0 = bits n false in omega arith)

pub map_append : (xs ys : List ℕ) → due_in (xs ++ ys) ≡ due_in xs ++ due_in ys
map_append xs ys = map-append (λ c. c == 3) xs ys

pub codes_length : (n code : ℕ) → length (object_codes n code) ≡ n + 2
codes_length n code = let l : length (replicate n code) ≡ n = length-replicate n code in omega arith

pub agree_old : (t : Tables) (h : Header) → RowsAgree t → RowsAgree (Rattle.gc_monitor.specs.Events.old_added t h)
agree_old t h k = grind (arith, common_steps, in_front)

-- the row of originals with one more
origin_there : (xs : List ℕ) (a n b : ℕ) → 1 ≤ get_or (xs ++ a ∷ 0 ∷ replicate n 0) b 0 → ((get_or (xs ++ a ∷ 0 ∷ replicate n 0) b 0 ≡ get_or xs b 0) × (1 ≤ get_or xs b 0)) ⊎ (get_or (xs ++ a ∷ 0 ∷ replicate n 0) b 0 ≡ a)
origin_there [] a n zero low = inr refl
origin_there [] a n (suc b) low = grind (arith, common_steps)
origin_there (x ∷ xs) a n zero low = inl (refl, low)
origin_there (x ∷ xs) a n (suc b) low = origin_there xs a n b low

pub agree_replica : (t : Tables) (h : Header) (a : ℕ) (due : Bool) → length t.news + (h.len + 2) ≤ 4294967295 → get_or t.olds a 0 ≡ 1 → RowsAgree t → RowsAgree (replica_added t h a due)
agree_replica t h a due bound start k = grind (arith, common_steps, codes_length, length-replicate, get_or-set_same, within_row, origin_there, cases_eq, get_or-set_other)

-- ---- the fields as they are written

-- one that is due is among those counted
pub some_missing : (t : Tables) (place : ℕ) → RowsAgree t → place < length t.news → bit (get_or t.news place 0 == 3) ≤ t.missing
some_missing t place k within = omega (arith, k.counted, set_count t.news place false within)

-- the tables with a replica more
pub replica_written : (t : Tables) (h : Header) (a m n : ℕ) (due : Bool) (olds news origins : List ℕ) → RowsAgree t → olds ≡ set t.olds a 2 → news ≡ t.news ++ object_codes h.len (code_of due)
    → origins ≡ t.origins ++ a ∷ 0 ∷ replicate h.len 0 → m ≡ t.missing + n → n ≡ (if due then h.len else 0)
    → record t { olds = olds; news = news; origins = origins; missing = m } ≡ replica_added t h a due
replica_written t h a m n due olds news origins k olds_are news_are origins_are m_is n_is = grind (arith, map_append, sum_by-append, bits)

pub placed_at : (old new : List ℕ) (t now after : Tables) (h : Header) (a : ℕ) (copied : Bool) → t ≡ now → length t.news < length new → IsClaim old new t h a → (copied ≡ true → IsCopy old new h a (length t.news))
    → after ≡ replica_added t h a (not copied) → Placed old new now after
placed_at old new t now after h a copied same less claim copy is = grind (arith, common_steps)

-- where the mark is not set no replica was seen
pub untaken : (t now : Tables) (a : ℕ) → t ≡ now → IsLostOrAgrees t → now.lost ≡ false → (get_or now.olds a 0 == 2) ≡ false → HasNoReplica now a
untaken t now a same h found not_two b low is = grind (arith, common_steps, agree_of)

-- where a copy was found to be one, nothing of it is due
pub owes_none : (old new : List ℕ) (t0 t after : Tables) (h : Header) (a : ℕ) (copied : Bool) → t0 ≡ t → IsClaim old new t0 h a
    → (IsCopy old new h a (length t0.news) → fields_place a + h.len ≤ length old → copied ≡ true)
    → after ≡ replica_added t0 h a (not copied) → OwesNone old new t after
owes_none old new t0 t after h a copied same claim whole is = grind (arith, common_steps)
