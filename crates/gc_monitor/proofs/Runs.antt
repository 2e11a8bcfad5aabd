-- A run of events that goes on with one more is a run.
use Rattle.std.proofs.Common.{◌≡◌, ◌⊎◌, ℕ, zero, suc, ◌+◌, ◌-◌, ◌<◌, ◌≤◌, Bool, true, false, not, List, length, Some, IsTrue, inl, inr, refl, ap, subst, sym, ◌∙◌, arith, length-set}
use Rattle.std.specs.Prelude.{slice_index, slice_index_or}
use Rattle.gc_words.specs.Word.{read_header, field_words_correspond}
use Rattle.gc_words.specs.Layout.{field_place}
use Rattle.gc_words.specs.declared.header.Header.{Header}
use Rattle.gc_monitor.specs.Tables.{Tables}
use Rattle.gc_monitor.specs.Events.{Placed, with_due}
use Rattle.gc_monitor.specs.Origins.{pairs_in}
use Rattle.gc_monitor.specs.Claims.{OwesNone}
use Rattle.gc_monitor.specs.Runs.{PlacedRun, LookRun, IsBefore}
use Rattle.gc_monitor.specs.Internal.Rows.{with_due_row}
use Rattle.gc_monitor.specs.Internal.Runs.{LooksTo}
use Rattle.gc_monitor.proofs.RowsDue.{row_last}

pub longer_placed : (old new : List ℕ) (n : ℕ) (t mid after : Tables) → PlacedRun old new n t mid → Placed old new mid after → OwesNone old new mid after → PlacedRun old new (suc n) t after
longer_placed old new zero t mid after is placed owes = (after, subst (λ x. Placed old new x after) is placed, subst (λ x. OwesNone old new x after) is owes, refl)
longer_placed old new (suc n) t mid after run placed owes = (run.0, run.1, run.2, longer_placed old new n run.0 mid after run.3 placed owes)

-- looks at the fields of a replica, each before this one, go on from looks that came to the first of them
pub looks_join : (old new : List ℕ) (p e n b i : ℕ) (t : Tables) (c k : ℕ) (mid : Tables) (h : Header) → LookRun old new p e n b i t c k mid → read_header (slice_index new c) ≡ Some h → h.raw ≡ false
    → (m : ℕ) (after : Tables) → ((j : ℕ) → j < m → IsBefore c (k + j) p e) → LooksTo old new c k m mid after → (x : ℕ) × LookRun old new p e x b i t c (k + m) after
looks_join old new p e n b i t c k mid h run is plain zero after before same = (n, subst (λ (x : Tables). LookRun old new p e n b i t c (k + 0) x) (sym same) (subst (λ x. LookRun old new p e n b i t c x mid) (let at : k ≡ k + 0 = omega arith in at) run))
looks_join old new p e n b i t c k mid h run is plain (suc m) after before (last, looks, looked) =
    let first = looks_join old new p e n b i t c k mid h run is plain m last (λ j l. before j (omega (arith, l))) looks in
    (suc first.0, (c, k + m, last, first.1, (before m (omega arith), (h, is, inl (plain, refl, (let at : k + suc m ≡ suc (k + m) = omega arith in at), looked)))))

-- the rest of a replica was compared, unless it is raw
pub rest_run : (old new : List ℕ) (p e n b i : ℕ) (t : Tables) (c k : ℕ) (mid : Tables) (h : Header) → LookRun old new p e n b i t c k mid → read_header (slice_index new c) ≡ Some h → c < p
    → (after : Tables) → (h.raw ≡ true → after ≡ mid) → (h.raw ≡ false → (k ≤ h.len) × LooksTo old new c k (h.len - k) mid after)
    → (x j : ℕ) × LookRun old new p e x b i t c j after × ((h.raw ≡ true) ⊎ (j ≡ h.len))
rest_run old new p e n b i t c k mid h run is less after raw looked = go h.raw refl
  where
    go : (r : Bool) → h.raw ≡ r → (x j : ℕ) × LookRun old new p e x b i t c j after × ((h.raw ≡ true) ⊎ (j ≡ h.len))
    go true f = (n, k, subst (LookRun old new p e n b i t c k) (sym (raw f)) run, inl f)
    go false f =
        let looks = looked f in
        let joined = looks_join old new p e n b i t c k mid h run is f (h.len - k) after (λ j l. inl less) looks.1 in
        (joined.0, k + (h.len - k), joined.1, inr (let all : k ≤ h.len = looks.0 in omega arith))

-- ---- fields that are compared at once

row_origins : (due : Bool) (n p : ℕ) (t : Tables) → (with_due_row due t p n).origins ≡ t.origins
row_origins due zero p t = refl
row_origins due (suc n) p t = row_origins due n (suc p) (with_due t p due)

pub row_lost : (due : Bool) (n p : ℕ) (t : Tables) → (with_due_row due t p n).lost ≡ t.lost
row_lost due zero p t = refl
row_lost due (suc n) p t = row_lost due n (suc p) (with_due t p due)

row_news : (due : Bool) (n p : ℕ) (t : Tables) → length (with_due_row due t p n).news ≡ length t.news
row_news due zero p t = refl
row_news due (suc n) p t = row_news due n (suc p) (with_due t p due) ∙ length-set t.news p _

-- all of them stand for their originals'
pub looked_row : (old new : List ℕ) (h : Header) (a b i n : ℕ) (t : Tables) → read_header (slice_index new b) ≡ Some h → 1 ≤ a → slice_index_or t.origins b 0 ≡ a → i + n ≤ h.len
    → field_place b (i + n) ≤ length t.news → field_place a (i + n) ≤ length old → field_place b (i + n) ≤ length new
    → ((k : ℕ) → k < n → IsTrue (field_words_correspond h (pairs_in t.origins) (slice_index old (field_place a i + k)) (slice_index new (field_place b i + k))))
    → LooksTo old new b i n t (with_due_row false t (field_place b i) n)
looked_row old new h a b i zero t is low origin fits in_news in_old in_new alike = refl
looked_row old new h a b i (suc n) t is low origin fits in_news in_old in_new alike =
    let mid = with_due_row false t (field_place b i) n in
    let os : mid.origins ≡ t.origins = row_origins false n (field_place b i) t in
    let ns : length mid.news ≡ length t.news = row_news false n (field_place b i) t in
    let old_at : field_place a i + n ≡ field_place a (i + n) = omega arith in
    let new_at : field_place b i + n ≡ field_place b (i + n) = omega arith in
    let yes : field_words_correspond h (pairs_in mid.origins) (slice_index old (field_place a (i + n))) (slice_index new (field_place b (i + n))) ≡ true =
    subst (λ (q : List ℕ × ℕ × ℕ). field_words_correspond h (pairs_in q.0) (slice_index old q.1) (slice_index new q.2) ≡ true) (λ j. (sym os j, old_at j, new_at j)) (alike n (omega arith)) in (
      mid,
      looked_row old new h a b i n t is low origin (omega arith) (omega arith) (omega arith) (omega arith) (λ k less. alike k (omega arith)),
      (
        h,
        a,
        record { header = is; has_field = omega arith; origin = ap (λ (os : List ℕ). slice_index_or os b 0) os ∙ origin; low = low; within = omega arith },
        omega arith,
        omega arith,
        row_last false n (field_place b i) t ∙ (λ j. with_due mid (new_at j) (not (sym yes j))),
      ),
    )
