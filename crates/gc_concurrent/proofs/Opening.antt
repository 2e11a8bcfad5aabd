-- The rule holds at first, where the one seat is cut in two, and where two seats become one.
use Rattle.std.proofs.Common.{◌≡◌, ◌≢◌, ◌⊎◌, ℕ, zero, suc, eqb, ◌<◌, ◌+◌, ◌-◌, ◌≤◌, true, true≢false, List, [], ◌∷◌, ◌++◌, length, get_or, set, take, drop, replicate, ext_get_or, get_or-take, get_or-drop, length-take-le, refl, ap, sym, ◌∙◌, subst, inl, inr, ⊎_elim, arith}
use Rattle.std.proofs.lemmas.Grind.{common_steps}
use Rattle.std.proofs.lemmas.Bool.{eqb-true, cases_Bool, cases_lt}
use prog.Atomic.{either}
use lib.ListN.{get_elem?}
use mathlib.Core.Option.{some, none, some-injective, some-ne-none}
use Rattle.atomic_table.specs.Table.{Splits, Joins, Allows, step, stepped, keeps, opening, Final, Seen}
use Rattle.atomic_table.proofs.Lists.{at_set, set_else}
use Rattle.gc_words.specs.Space.{IsSpace, empty_space}
use Rattle.gc_concurrent.specs.Internal.Plain.{IsRowOfSpace, space_in}
use Rattle.gc_words.proofs.Public.{space_of}
use Rattle.gc_words.specs.Image.{objects_of}
use Rattle.gc_model.specs.Belonging.{HasField, IsLogged, IsOpened}
use Rattle.gc_model.proofs.Public.{begun_belongs}
use Rattle.gc_copy.proofs.Public.{words_numbers}
use Rattle.gc_heap.specs.Heap.{HeapWords, IsHeap}
use Rattle.gc_concurrent.proofs.Keeping.{begins_kept}
use Rattle.gc_concurrent.specs.Ends.{Known, Mine, Theirs, begun_with, one_heap, opening_mine, opening_theirs, opening_view}
use Rattle.gc_concurrent.specs.Unreachable.{MayBeCopied}
use Rattle.gc_concurrent.specs.Internal.Plans.{collection_of, plan}
use Rattle.gc_concurrent.specs.Internal.Carrying.{FieldsLeadTo, KeepsUnreachableOut}
use Rattle.gc_concurrent.specs.Internal.Rule.{Sat, IsAtRest, IsConcurrent, Loose, only_writes, only_copies, both_ends, spent_view, begun_anew, tells_renew}
use Rattle.gc_concurrent.proofs.Hands.{St, seat_set}
use Rattle.gc_concurrent.proofs.Shown.{shown_set}
use Rattle.gc_concurrent.proofs.Told.{caught_up}
use Rattle.gc_concurrent.proofs.Loosely.{Leaves, loose_of, loosely}
use Rattle.gc_concurrent.proofs.Copying.{theirs_keep}

snoc_cases : (l : List Known) (a b : Known) (j : ℕ) → get_elem? (l ++ a ∷ []) j ≡ some b → (get_elem? l j ≡ some b) ⊎ ((j ≡ length l) × (a ≡ b))
snoc_cases [] a b zero e = inr (refl, some-injective a b e)
snoc_cases [] a b (suc j) e = absurd (some-ne-none b (sym e))
snoc_cases (x ∷ xs) a b zero e = inl e
snoc_cases (x ∷ xs) a b (suc j) e = ⊎_elim (λ h. inl h) (λ t. inr (ap suc t.0, t.1)) (snoc_cases xs a b j e)

pub splits_rule : (size id : ℕ) (v : Known) → v.writes ≡ true → v.copies ≡ true → Splits (IsConcurrent size) id v (only_copies v) (only_writes v)
splits_rule size id v writes copies s r here =
    let own = r.seats id v here in
    let l : Known = only_copies v in
    let q : Known = only_writes v in
    let vs : List Known = set s.views id l in
    let Old : ℕ → Known → Type 0 = λ j u. (u.copies ≡ true → (j ≡ r.copier) × (u.theirs ≡ r.theirs)) × (u.writes ≡ true → ⊥) in
    let old : (j : ℕ) (u : Known) → get_elem? vs j ≡ some u → Old j u = seat_set Old s.views id l (own.1, λ p. true≢false (sym p)) (λ j u other e. ((r.seats j u e).1, λ p. other (((r.seats j u e).0 p).0 ∙ sym ((own.0 writes).0)))) in
    record {
      mine = r.mine;
      theirs = r.theirs;
      seen = r.seen;
      writer = length vs;
      copier = r.copier;
      wide = r.wide;
      sized = r.sized;
      older = r.older;
      now = r.now;
      free = r.free;
      space = r.space;
      closed = r.closed;
      wanted = r.wanted;
      opened = r.opened;
      carries = r.carries;
      fits = r.fits;
      rests = r.rests;
      seats = λ j u e. ⊎_elim
          (λ (x : get_elem? vs j ≡ some u). ((λ p. absurd ((old j u x).1 p)), (old j u x).0))
          (λ (x : (j ≡ length vs) × (q ≡ u)). ((λ p. (x.0, ap (λ (z : Known). z.mine) (sym x.1) ∙ (own.0 writes).1)), λ p. absurd (true≢false (sym (ap (λ (z : Known). z.copies) x.1 ∙ p)))))
          (snoc_cases vs q u j e);
      told = r.told;
      shown = λ j u e p. ⊎_elim
          (λ (x : get_elem? vs j ≡ some u). shown_set r.seen s.views id l (r.shown id v here) r.shown j u x p)
          (λ (x : (j ≡ length vs) × (q ≡ u)). absurd (true≢false (sym (ap (λ (z : Known). z.copies) x.1 ∙ p))))
          (snoc_cases vs q u j e);
    }

-- two seats become one
pub joins_rule : (size id other : ℕ) (v w : Known) → v.copies ≡ true → w.writes ≡ true → Joins (IsConcurrent size) id v other w (both_ends v w) spent_view
joins_rule size id other v w copies writes s r here apart there =
    let both : Known = both_ends v w in
    let vs : List Known = set s.views id both in
    let here' = (r.seats id v here).1 copies in
    let there' = (r.seats other w (sym (set_else s.views id other both apart) ∙ there)).0 writes in
    record {
      mine = r.mine;
      theirs = r.theirs;
      seen = r.seen;
      writer = id;
      copier = id;
      wide = r.wide;
      sized = r.sized;
      older = r.older;
      now = r.now;
      free = r.free;
      space = r.space;
      closed = r.closed;
      wanted = r.wanted;
      opened = r.opened;
      carries = r.carries;
      fits = r.fits;
      rests = r.rests;
      seats = λ j u e. ⊎_elim
          (λ (x : (j ≡ other) × (spent_view ≡ u)). ((λ p. absurd (true≢false (sym p ∙ ap (λ (z : Known). z.writes) (sym x.1)))), (λ p. absurd (true≢false (sym p ∙ ap (λ (z : Known). z.copies) (sym x.1))))))
          (λ (x : (j ≢ other) × (get_elem? vs j ≡ some u)). ⊎_elim
          (λ (y : (j ≡ id) × (both ≡ u)). ((λ _. (y.0, ap (λ (z : Known). z.mine) (sym y.1) ∙ there'.1)), λ _. (y.0, ap (λ (z : Known). z.theirs) (sym y.1) ∙ here'.1)))
          (λ (y : (j ≢ id) × (get_elem? s.views j ≡ some u)). ((λ p. absurd (x.0 (((r.seats j u y.1).0 p).0 ∙ sym there'.0))), λ p. absurd (y.0 (((r.seats j u y.1).1 p).0 ∙ sym here'.0))))
          (at_set s.views id j both u x.1))
          (at_set vs other j spent_view u e);
      told = r.told;
      shown = shown_set r.seen vs other spent_view (λ p. absurd (true≢false (sym p))) (shown_set r.seen s.views id both (λ _. r.shown id v here copies) r.shown);
    }

-- ---- empty cells

opening_seats : (v : Known) (j : ℕ) (u : Known) → get_elem? (v ∷ []) j ≡ some u → (j ≡ 0) × (v ≡ u)
opening_seats v zero u e = (refl, some-injective v u e)
opening_seats v (suc j) u e = absurd (some-ne-none u (sym e))

-- where a collection of a heap begins, in a new space of one word
fresh_opened : (heap : HeapWords) → IsOpened (plan (opening_mine heap) (opening_theirs heap heap.space.size 1)) (collection_of (opening_mine heap) (opening_theirs heap heap.space.size 1))
fresh_opened heap = record { belongs = begun_belongs (objects_of heap.space.words) 2 1 (words_numbers heap.space.words) (omega arith); size = omega arith; logs = refl }

at_rest : (heap : HeapWords) → IsAtRest (opening_mine heap) (opening_theirs heap heap.space.size 1)
at_rest heap = record { logged = refl; copied = refl; due = refl; wanted = refl }

-- a heap whose fields lead only to what may be copied
fresh_carries : (heap : HeapWords) → FieldsLeadTo (MayBeCopied (begun_with heap)) (objects_of heap.space.words) → KeepsUnreachableOut (opening_mine heap) (opening_theirs heap heap.space.size 1)
fresh_carries heap fields = record { begun = refl; behind = omega arith; fields = fields; copied = λ r l. absurd l; wanted = λ a l. absurd l }

pub empty_shaped : (size : ℕ) → 1 ≤ size → size ≤ 4294967295 → IsSpace (empty_space size)
empty_shaped size low high = (space_of size (0 ∷ []) [] (omega arith) low high refl refl).0

-- ---- cells begin with the words of a plain space, which are a heap with these roots

read_before : (row : List ℕ) (end k : ℕ) → end ≤ length row → k < length (take end row) → get_or row k 0 ≡ get_or (take end row) k 0
read_before row end k within low = sym (get_or-take end row k 0 (let long : length (take end row) ≡ end = length-take-le end row within in omega arith))

read_behind : (row : List ℕ) (end k : ℕ) → end ≤ length row → drop end row ≡ replicate (length row - end) 0 → length (take end row) ≤ k → k < length row → get_or row k 0 ≡ 0
read_behind row end k within free high low =
    let from : end ≤ k = (let long : length (take end row) ≡ end = length-take-le end row within in omega arith) in
    let place : end + (k - end) ≡ k = omega arith in
    ap (λ n. get_or row n 0) (sym place) ∙ sym (get_or-drop end row (k - end) 0) ∙ ap (λ ws. get_or ws (k - end) 0) free ∙ zero_of (length row - end) (k - end)
  where
    zero_of : (n i : ℕ) → ◌≡◌ {A = ℕ} (get_or (replicate n 0) i 0) 0
    zero_of zero i = refl
    zero_of (suc n) zero = refl
    zero_of (suc n) (suc i) = zero_of n i

pub opens_rule : (size end : ℕ) (row starts roots : List ℕ) → IsRowOfSpace row end starts → length row ≡ size → IsHeap (one_heap (space_in row end) roots)
    → IsConcurrent size (opening row [] (opening_view (one_heap (space_in row end) roots) 1))
opens_rule size end row starts roots plain wide sound =
    let heap : HeapWords = one_heap (space_in row end) roots in
    record {
      mine = opening_mine heap;
      theirs = opening_theirs heap heap.space.size 1;
      seen = heap.space.words;
      writer = 0;
      copier = 0;
      wide = wide;
      sized = wide;
      older = wide;
      now = λ k l. read_before row end k plain.within l;
      free = λ k l h. read_behind row end k plain.within plain.free l (omega arith);
      space = plain.space;
      closed = plain.closed;
      wanted = λ a h. absurd h;
      opened = fresh_opened heap;
      carries = fresh_carries heap (begins_kept heap sound).fields;
      fits = (plain.space).end_low;
      rests = λ _. at_rest heap;
      seats = λ j u e. let x = opening_seats (opening_view heap 1) j u e in
          ((λ _. (x.0, ap (λ (z : Known). z.mine) (sym x.1))), λ _. (x.0, ap (λ (z : Known). z.theirs) (sym x.1)));
      told = caught_up (opening_mine heap) plain.space refl;
      shown = λ j u e _. ap (λ (z : Known). z.seen) (sym (opening_seats (opening_view heap 1) j u e).1);
    }

-- the collector knows then that its collection belongs to some heap
pub opens_loose : (size end : ℕ) (row starts roots : List ℕ) → IsRowOfSpace row end starts → length row ≡ size → IsHeap (one_heap (space_in row end) roots)
    → Loose (opening_theirs (one_heap (space_in row end) roots) (length row) 1)
unfolding opens_rule
opens_loose size end row starts roots plain wide sound = loose_of size (opening row [] (opening_view (one_heap (space_in row end) roots) 1)) (opens_rule size end row starts roots plain wide sound)

-- cells that no step has changed give back the row with which they began
pub gives_back : (size id end : ℕ) (row starts roots back : List ℕ) (v : Known) → IsRowOfSpace row end starts → length row ≡ size → v ≡ opening_view (one_heap (space_in row end) roots) 1
    → Final (Seen (IsConcurrent size) id v) back [] → back ≡ row
gives_back size id end row starts roots back v plain wide is given =
    let s : St = given.0 in
    let r : IsConcurrent size s = given.1.0 in
    let words : s.words ≡ back = given.2 in
    let mine : v.mine ≡ r.mine = ((r.seats id v given.1.1).0 (ap (λ (z : Known). z.writes) is)).1 in
    let same : r.mine.space.words ≡ take end row = ap (λ (m : Mine). m.space.words) (sym mine ∙ ap (λ (z : Known). z.mine) is) in
    let long : length s.words ≡ length row = r.wide ∙ sym wide in
    sym words ∙ ext_get_or 0 s.words row long (λ k low. ⊎_elim
    (λ (l : k < length (take end row)).
    r.now k (subst (λ (ws : List ℕ). k < length ws) (sym same) l) ∙ ap (λ ws. get_or ws k 0) same ∙ sym (read_before row end k plain.within l))
    (λ (h : length (take end row) ≤ k).
    r.free k (subst (λ (ws : List ℕ). length ws ≤ k) (sym same) h) (let w = r.wide in omega arith) ∙ sym (read_behind row end k plain.within plain.free h (omega arith)))
    (cases_lt k (length (take end row))))

-- a word that is exchanged for itself
same_word : (a n : ℕ) → either (eqb n a) a n ≡ n
same_word a n = grind (arith, common_steps, eqb-true, cases_Bool)

-- ---- a collection begins anew

anew_opened : (m : Mine) (t : Theirs) (n : ℕ) → 1 ≤ n → n ≤ 4294967295 → IsOpened (plan m t) (collection_of m t) → IsOpened (plan m t) (collection_of m (begun_anew n t))
anew_opened m t n low high h =
    let fresh = begun_belongs (objects_of m.space.words) 2 n (words_numbers m.space.words) low in record {
      belongs = record {
        laid = fresh.laid;
        room = fresh.room;
        once = fresh.once;
        replicas = λ r l. absurd l;
        scan = fresh.scan;
        entries = logged;
        numbers = fresh.numbers;
      };
      size = high;
      logs = refl;
    }
  where
    logged : (a i : ℕ) → IsLogged (collection_of m (begun_anew n t)) a i → HasField (objects_of m.space.words) a i
    logged a i (zero, k) = (h.belongs).entries a i (0, k)
    logged a i (suc zero, k) = absurd k
    logged a i (suc (suc j), k) = absurd k

anew_carries : (m : Mine) (t : Theirs) (n : ℕ) → KeepsUnreachableOut m t → KeepsUnreachableOut m (begun_anew n t)
anew_carries m t n k = record { begun = k.begun; behind = k.behind; fields = k.fields; copied = λ r l. absurd l; wanted = λ a l. absurd l }

abbrev RenewsAs : ℕ → Sat → ℕ → Sat → Type 0
RenewsAs n me found me' = me' ≡ (record me.0 { theirs = begun_anew n me.0.theirs }, me.1)

renews_rule : (slots size id : ℕ) (me : Sat) (n : ℕ) → me.0.copies ≡ true → 1 ≤ n → n ≤ 4294967295
    → Allows (IsConcurrent size) slots id me 0 (λ found. either (eqb found n) n found) (tells_renew (step slots 0 n n none) me)
renews_rule slots size id me n copies low high s r _ here _ =
    let to : me.0.theirs ≡ r.theirs = ((r.seats id me.0 here).1 copies).1 in
    let t' : Theirs = begun_anew n r.theirs in
    let done : Leaves size s 0 id me (RenewsAs n me) = (
      record me.0 { theirs = t' },
      keeps,
      tt,
      theirs_keep size s r 0 id me.0 me.1 t' here copies refl (λ a l. absurd l) (anew_opened r.mine r.theirs n low high r.opened) (anew_carries r.mine r.theirs n r.carries) (r.space).end_low
          (λ e. record { logged = (r.rests e).logged; copied = refl; due = refl; wanted = refl }),
      λ k. (record me.0 { theirs = begun_anew n (sym to k) }, me.1),
    ) in
    let whole = loosely size s 0 id me (RenewsAs n me) here done in
    (whole.0, whole.1, whole.2, subst (λ (x : ℕ). IsConcurrent size (stepped s 0 x id me.1 whole.0 whole.1)) (sym (same_word n (get_or s.words 0 0))) whole.3, whole.4)

-- the same for callers, who have the size by equations
pub renews_at : (slots size id : ℕ) (me : Sat) (n x y : ℕ) → x ≡ n → y ≡ n → me.0.copies ≡ true → 1 ≤ n → n ≤ 4294967295
    → Allows (IsConcurrent size) slots id me 0 (λ found. either (eqb found x) y found) (tells_renew (step slots 0 x y none) me)
renews_at slots size id me n x y first second copies low high =
    subst (λ (z : ℕ × ℕ). Allows (IsConcurrent size) slots id me 0 (λ found. either (eqb found z.0) z.1 found) (tells_renew (step slots 0 z.0 z.1 none) me)) (λ i. (sym first i, sym second i)) (renews_rule slots size id me n copies low high)
