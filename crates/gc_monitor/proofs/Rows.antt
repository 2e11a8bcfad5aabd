-- Rows of roots that are alike before their nils are alike whole.
use Rattle.std.proofs.lemmas.Grind.{common_steps}
use Rattle.std.proofs.Common.{◌≡◌, ℕ, zero, suc, ◌<◌, ◌≤◌, Bool, true, List, [], ◌∷◌, ◌++◌, length, replicate, get_or, arith, rules}
use Rattle.std.specs.Prelude.{IsTrue}
use Rattle.std.specs.List.{AllZip}

-- behind some roots and the nils that follow them, one reads nil too
nil_behind : (ws : List ℕ) (n i : ℕ) → length ws ≤ i → ◌≡◌ {A = ℕ} (get_or (ws ++ replicate n 0) i 0) 0
nil_behind [] n i h = grind (arith, common_steps)
nil_behind (w ∷ ws) n zero h = absurd (omega arith)
nil_behind (w ∷ ws) n (suc i) h = nil_behind ws n i (omega arith)

rest_alike : (f : ℕ → ℕ → Bool) (vs us : List ℕ) → length vs ≡ length us → ((i : ℕ) → i < length vs → f (get_or vs i 0) (get_or us i 0) ≡ true) → AllZip (λ v u. IsTrue (f v u)) vs us
rest_alike f [] [] len h = tt
rest_alike f [] (u ∷ us) len h = absurd (omega arith)
rest_alike f (v ∷ vs) [] len h = absurd (omega arith)
rest_alike f (v ∷ vs) (u ∷ us) len h = (h 0 (omega arith), rest_alike f vs us (omega arith) (λ i l. h (suc i) (omega arith)))

-- where the roots before both rows of nils are alike, all are
pub all_alike : (f : ℕ → ℕ → Bool) (vs us : List ℕ) (n m most : ℕ) → f 0 0 ≡ true → length (vs ++ replicate n 0) ≡ length (us ++ replicate m 0) → length vs ≤ most → length us ≤ most
    → ((i : ℕ) → i < most → f (get_or (vs ++ replicate n 0) i 0) (get_or (us ++ replicate m 0) i 0) ≡ true) → AllZip (λ v u. IsTrue (f v u)) (vs ++ replicate n 0) (us ++ replicate m 0)
all_alike f vs us n m most nils same old new h = search (rules, rest_alike, nil_behind)
