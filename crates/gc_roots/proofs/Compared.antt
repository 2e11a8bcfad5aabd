-- What looks leave of the checker's row, and when all roots correspond.
use Rattle.std.proofs.Common.{◌≡◌, ⊎_elim, ℕ, ◌+◌, ◌-◌, ◌<◌, ◌≤◌, ◌++◌, [], ◌∷◌, true, List, length, replicate, refl, ap, ◌∙◌, subst, arith}
use Rattle.std.specs.Prelude.{slice_index}
use Rattle.std.proofs.lemmas.Bool.{cases_lt}
use Rattle.std.proofs.lemmas.List.{length-append, get_or_append_left}
use Rattle.std.proofs.lemmas.Grind.{common_steps}
use Rattle.gc_graph.specs.Correspond.{paired}
use Rattle.gc_words.specs.Word.{words_correspond}
use Rattle.gc_monitor.specs.Watch.{RootsCorrespond}
use Rattle.gc_monitor.proofs.Public.{all_alike}
use Rattle.gc_roots.specs.Internal.Rows.{HasLookedAtAll}
use Rattle.gc_roots.specs.Looks.{LookRow, HasLooked}

-- where all were looked at, and the slots and the nils correspond, all roots do
pub all_correspond : (pairs : List (ℕ × ℕ)) (slots n m : ℕ) (vs us : List ℕ) (row : LookRow) → length vs ≡ length us → n ≡ m → slots ≤ length vs → HasLooked pairs slots (vs ++ replicate n 0) (us ++ replicate m 0) row
    → HasLookedAtAll row (length vs - slots) → ((p : ℕ) → p < slots → words_correspond pairs (slice_index vs p) (slice_index us p) ≡ true) → RootsCorrespond pairs (vs ++ replicate n 0) (us ++ replicate m 0)
all_correspond pairs slots n m vs us row long nils within h all first =
    all_alike (words_correspond pairs) vs us n m (length vs) refl (omega (arith, length-append vs (replicate n 0), length-append us (replicate m 0), long, ap (λ k. length (zeros k)) nils)) (omega arith) (omega (arith, long)) each
  where
    zeros : ℕ → List ℕ
    zeros k = replicate k 0

    each : (i : ℕ) → i < length vs → words_correspond pairs (slice_index (vs ++ replicate n 0) i) (slice_index (us ++ replicate m 0) i) ≡ true
    each i less = ⊎_elim
        (λ low. ap (λ v. words_correspond pairs v (slice_index (us ++ replicate m 0) i)) (get_or_append_left vs (replicate n 0) 0 i less)
        ∙ ap (words_correspond pairs (slice_index vs i)) (get_or_append_left us (replicate m 0) 0 i (omega (arith, less, long)))
        ∙ first i low)
        (λ high. (let back : slots + (i - slots) ≡ i = omega (arith, high) in
        subst (λ q. words_correspond pairs (slice_index (vs ++ replicate n 0) q) (slice_index (us ++ replicate m 0) q) ≡ true) back
        (h (i - slots) (omega (arith, all.front, less, high)) (all.none (i - slots) (omega (arith, less, high))))))
        (cases_lt i slots)

-- words that correspond do so with more pairs
pub more_pairs : (pairs more : List (ℕ × ℕ)) (v u : ℕ) → words_correspond pairs v u ≡ true → words_correspond (pairs ++ more) v u ≡ true
more_pairs pairs more v u h = grind (arith, common_steps, more_in)
  where
    more_in : (xs ys : List (ℕ × ℕ)) (a b : ℕ) → paired xs a b ≡ true → paired (xs ++ ys) a b ≡ true
    more_in [] ys a b h = absurd cc
    more_in (x ∷ xs) ys a b h = grind (arith, common_steps, more_in xs ys a b)
