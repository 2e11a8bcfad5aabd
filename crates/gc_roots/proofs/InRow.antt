-- How many looks in a row leave, where no root is marked.
use Rattle.std.proofs.lemmas.Grind.{common_steps}
use Rattle.std.proofs.Common.{◌≡◌, ℕ, zero, suc, ◌+◌, ◌-◌, ◌≤◌, false, List, refl, ap, ◌∙◌, arith}
use Rattle.std.specs.Prelude.{max}
use Rattle.gc_words.specs.Marks.{is_marked}
use Rattle.gc_roots.specs.Twins.{RootRow, HasLookedOn, looks_left, marks_below}

-- where nothing is marked
pub none_below : (marks : List ℕ) (n : ℕ) → ((i : ℕ) → is_marked marks i ≡ false) → marks_below marks n ≡ 0
none_below marks zero none = refl
none_below marks (suc n) none = grind (arith, common_steps, none_below marks n none, none n)

-- One look less is left for each root that the front has passed, or two less, if a last root in use is taken away.
pub left_in_row : (row mid now : RootRow) (from to : ℕ) → from ≡ row.front → to ≡ now.front → ((i : ℕ) → is_marked row.marks i ≡ false) → mid ≡ record row { twins = mid.twins; front = mid.front } → now ≡ record mid { used = now.used }
    → row.front ≤ mid.front → mid.front ≤ max row.used (max row.stale row.front) → now.used ≤ mid.used → mid.used ≤ now.used + (mid.front - row.front)
    → HasLookedOn (to - from) (looks_left row) (looks_left now)
left_in_row row mid now from to f t none written trimmed low high less few =
    let marks : now.marks ≡ row.marks = ap (λ (r : RootRow). r.marks) trimmed ∙ ap (λ (r : RootRow). r.marks) written in
    let here : marks_below now.marks now.front ≡ 0 = ap (λ (xs : List ℕ). marks_below xs now.front) marks ∙ none_below row.marks now.front none in
    let was : marks_below row.marks row.front ≡ 0 = none_below row.marks row.front none in
    let front : now.front ≡ mid.front = ap (λ (r : RootRow). r.front) trimmed in
    let stale : now.stale ≡ row.stale = ap (λ (r : RootRow). r.stale) trimmed ∙ ap (λ (r : RootRow). r.stale) written in
    let used : mid.used ≡ row.used = ap (λ (r : RootRow). r.used) written in
    record { less = omega (arith, f, t, here, was, front, stale, used, low, high, less, few); few = omega (arith, f, t, here, was, front, stale, used, low, high, less, few) }
