-- How many marks lie below a place: what one mark more or less makes of that number, and how many looks are left afterwards.
use Rattle.std.proofs.lemmas.Grind.{common_steps}
use Rattle.std.specs.Prelude.{max}
use Rattle.std.proofs.Common.{◌≡◌, ◌≢◌, ⊎_elim, ℕ, zero, suc, ◌+◌, ◌<◌, ◌≤◌, true, false, List, refl, sym, ap, ◌∙◌, subst, arith}
use Rattle.std.proofs.lemmas.Bool.{cases_Bool, cases_eq, cases_lt, lt-ltb}
use Rattle.gc_words.specs.Marks.{is_marked}
use Rattle.gc_roots.specs.Twins.{RootRow, AskForLooks, AsksForLook, IsLooked, IsNextRoot, IsWritten, HasLookedOn, begun, is_due_root, looks_left, marks_below}

-- no more marks than places
pub marks_bounded : (marks : List ℕ) (n : ℕ) → marks_below marks n ≤ n
marks_bounded marks zero = omega arith
marks_bounded marks (suc n) = grind (arith, common_steps, marks_bounded marks n)

-- the same marks, as many of them
same_marks : (was now : List ℕ) (n : ℕ) → ((i : ℕ) → i < n → is_marked now i ≡ is_marked was i) → marks_below now n ≡ marks_below was n
same_marks was now zero same = refl
same_marks was now (suc n) same = grind (arith, common_steps, same_marks was now n (λ i less. same i (omega (arith, less))), same n (omega arith))

-- one mark more, at k
pub one_mark_more : (was now : List ℕ) (k n : ℕ) → ((i : ℕ) → i ≢ k → is_marked now i ≡ is_marked was i) → is_marked was k ≡ false → is_marked now k ≡ true → k < n
    → marks_below now n ≡ marks_below was n + 1
one_mark_more was now k zero others none marked less = absurd (omega (arith, less))
one_mark_more was now k (suc n) others none marked less = ⊎_elim
    (λ same. (let before : is_marked was n ≡ false = subst (λ q. is_marked was q ≡ false) same none in
    let after : is_marked now n ≡ true = subst (λ q. is_marked now q ≡ true) same marked in
    grind (arith, common_steps, same_marks was now n (λ i low. others i (λ e. omega (arith, e, low, same))), before, after)))
    (λ differ. grind (arith, common_steps, one_mark_more was now k n others none marked (omega (arith, less, differ)), others n (λ e. differ (omega (arith, e)))))
    (cases_eq k n)

-- a mark counts
pub some_mark : (marks : List ℕ) (k n : ℕ) → is_marked marks k ≡ true → k < n → 1 ≤ marks_below marks n
some_mark marks k zero marked less = absurd (omega (arith, less))
some_mark marks k (suc n) marked less = ⊎_elim
    (λ same. (let here : is_marked marks n ≡ true = subst (λ q. is_marked marks q ≡ true) same marked in grind (arith, common_steps, here)))
    (λ differ. grind (arith, common_steps, some_mark marks k n marked (omega (arith, less, differ))))
    (cases_eq k n)

-- ---- a look

-- a root below the front that is due is marked
pub due_is_marked : (row : RootRow) (k : ℕ) → k < row.front → is_due_root row k ≡ true → is_marked row.marks k ≡ true
due_is_marked row k less due = grind (arith, common_steps, lt-ltb)

-- a root below the front loses its mark
pub one_mark_less : (was now : List ℕ) (k n : ℕ) → ((i : ℕ) → i ≢ k → is_marked now i ≡ is_marked was i) → is_marked was k ≡ true → is_marked now k ≡ false → k < n
    → marks_below was n ≡ marks_below now n + 1
one_mark_less was now k n others marked none less = one_mark_more now was k n (λ i differ. sym (others i differ)) none marked less

-- the front passes a root without a mark
pub front_passes : (was now : List ℕ) (k : ℕ) → ((i : ℕ) → i ≢ k → is_marked now i ≡ is_marked was i) → is_marked now k ≡ false → marks_below now (suc k) ≡ marks_below was k
front_passes was now k others none = grind (arith, common_steps, same_marks was now k (λ i less. others i (λ e. omega (arith, e, less))), none)

-- after a look at the next root, one or two looks less are left
pub looks_once : (row mid now : RootRow) (slots k word : ℕ) → IsNextRoot row k → IsLooked row mid slots k word → mid.used ≡ row.used
    → now ≡ record mid { used = now.used } → now.used ≤ mid.used → mid.used ≤ now.used + 1 → HasLookedOn 1 (looks_left row) (looks_left now)
looks_once row mid now slots k word next l used is low high = subst (λ r. HasLookedOn 1 (looks_left row) (looks_left r)) (sym is) (⊎_elim below at (cases_lt k row.front))
  where
    below : k < row.front → HasLookedOn 1 (looks_left row) (looks_left (record mid { used = now.used }))
    below less =
        let fewer = one_mark_less row.marks mid.marks k row.front l.others (due_is_marked row k less next.due) l.none less in
        let same : mid.front ≡ row.front = omega (arith, l.front, less) in
        let marks : marks_below mid.marks mid.front ≡ marks_below mid.marks row.front = ap (marks_below mid.marks) same in
        record { less = omega (arith, fewer, same, marks, used, l.stale, low, high); few = omega (arith, fewer, same, marks, used, l.stale, low, high) }

    at : row.front ≤ k → HasLookedOn 1 (looks_left row) (looks_left (record mid { used = now.used }))
    at past =
        let here : k ≡ row.front = omega (arith, past, next.low) in
        let passes = front_passes row.marks mid.marks k l.others l.none in
        let front : mid.front ≡ suc k = omega (arith, l.front, here) in
        let marks : marks_below mid.marks mid.front ≡ marks_below mid.marks (suc k) = ap (marks_below mid.marks) front in
        let old : marks_below row.marks row.front ≡ marks_below row.marks k = ap (marks_below row.marks) (sym here) in
        record { less = omega (arith, passes, marks, old, front, here, used, l.stale, low, high, next.within); few = omega (arith, passes, marks, old, front, here, used, l.stale, low, high, next.within) }

-- ---- a write

-- a root that is marked changes the number of marks by one at most
marked_once : (was now : List ℕ) (k n : ℕ) → ((i : ℕ) → i ≢ k → is_marked now i ≡ is_marked was i) → is_marked now k ≡ true → k < n → (marks_below was n ≤ marks_below now n) × (marks_below now n ≤ marks_below was n + 1)
marked_once was now k n others marked less = ⊎_elim
    (λ before. (let same = same_marks was now n (λ i low. ⊎_elim (λ e. subst (λ q. is_marked now q ≡ is_marked was q) e (marked ∙ sym before)) (λ differ. others i (λ e. differ (sym e))) (cases_eq k i)) in (omega (arith, same), omega (arith, same))))
    (λ before. (let more = one_mark_more was now k n others before marked less in (omega (arith, more), omega (arith, more))))
    (cases_Bool (is_marked was k))

-- the marks after a write
written_marks : (row now : RootRow) (k : ℕ) → IsWritten row now k
    → (marks_below row.marks row.front ≤ marks_below now.marks now.front) × (marks_below now.marks now.front ≤ marks_below row.marks row.front + 1) × (row.front ≤ k → marks_below now.marks now.front ≤ row.front)
written_marks row now k w = ⊎_elim
    (λ (less : k < row.front). (let once = marked_once row.marks now.marks k row.front w.others (w.marked less) less in (omega (arith, front, once), omega (arith, front, once), λ past. absurd (omega (arith, past, less)))))
    (λ (past : row.front ≤ k). (let same = same_marks row.marks now.marks row.front (λ i low. w.others i (λ e. omega (arith, e, low, past))) in
    (omega (arith, front, same), omega (arith, front, same), λ _. omega (arith, front, same, marks_bounded row.marks row.front))))
    (cases_lt k row.front)
  where
    front : marks_below now.marks now.front ≡ marks_below now.marks row.front
    front = ap (marks_below now.marks) w.front

-- a value that a root takes asks for one look at most, unless no root from this one on was in use
pub taken_asks : (row now : RootRow) (k : ℕ) → IsWritten row now k → now.used ≡ max row.used (k + 1)
    → AsksForLook k (looks_left row) (looks_left now) × AsksForLook k (looks_left (begun row)) (looks_left (begun now))
taken_asks row now k w used =
    let marks = written_marks row now k w in
    let few : looks_left now ≤ max (looks_left row + 1) (k + 1) = ⊎_elim
    (λ (less : k < row.front). omega (arith, marks.1, w.front, w.stale, used, less))
    (λ (past : row.front ≤ k). omega (arith, marks.0, marks.2 past, w.front, w.stale, used, past))
    (cases_lt k row.front) in
    ((omega (arith, marks.0, w.front, w.stale, used), few), (omega (arith, w.front, w.stale, used), omega (arith, w.front, w.stale, used)))

-- a root that becomes nil asks for one look at most
pub nil_asks : (row now : RootRow) (k : ℕ) → IsWritten row now k → now.used ≡ row.used → AskForLooks 1 (looks_left row) (looks_left now) × AskForLooks 1 (looks_left (begun row)) (looks_left (begun now))
nil_asks row now k w used =
    let marks = written_marks row now k w in
    ((omega (arith, marks.0, w.front, w.stale, used), omega (arith, marks.1, w.front, w.stale, used)), (omega (arith, w.front, w.stale, used), omega (arith, w.front, w.stale, used)))
