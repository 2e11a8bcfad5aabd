-- Many flips of a heap whose checker goes along: after q * e + r of them, q were checked whole, and r came since.
use Rattle.std.proofs.lemmas.Grind.{common_steps}
use Rattle.std.proofs.Common.{◌≡◌, ⊎_elim, ℕ, zero, suc, ◌+◌, ◌-◌, ◌*◌, ◌/◌, ◌<◌, ◌≤◌, true, false, refl, sym, ◌∙◌, ap, arith}
use Rattle.std.specs.Prelude.{◌^◌, min}
use Rattle.std.proofs.lemmas.Bool.{cases_lt}
use Rattle.std.proofs.lemmas.Nat.{div-mul-add}
use Rattle.gc_collected.specs.Collected.{Turns, after_flips, flipped_turns, opening_turns}
use Rattle.gc_collected.specs.declared.checks.Checking.TheVariants.{AtFlip, Along}
use Rattle.gc_collected.specs.declared.checks.FlipChecks.{FlipChecks}
use Rattle.gc_collected.specs.declared.flip.Keep.TheVariants.{Room}

abbrev told : ℕ → ℕ → ℕ → ℕ → Turns
told e r along whole = record { along = true; each = e; since = r; checks = record { along = along; whole = whole } }

-- a flip that is due, and one that is not
due : (e r a w : ℕ) → 1 ≤ e → e ≤ r + 1 → w + 1 < 2 ^ 64 → flipped_turns Room (told e r a w) ≡ told e 0 a (w + 1)
due e r a w low turn few = grind (arith, common_steps)

not_due : (e r a w : ℕ) → r + 1 < e → e < 2 ^ 32 → a + 1 < 2 ^ 64 → flipped_turns Room (told e r a w) ≡ told e (r + 1) (a + 1) w
not_due e r a w turn high few = grind (arith, common_steps)

-- n is q * e + r, q were checked whole, and r came since
record Counted (e n : ℕ) : Type 0 where
  q : ℕ
  r : ℕ
  sum : n ≡ q * e + r
  less : r < e
  few : q ≤ n
  turns : after_flips n (opening_turns (Along e)) ≡ told e r (n - q) q

-- one flip more
one_more : (e n : ℕ) → 1 ≤ e → e < 2 ^ 32 → suc n < 2 ^ 64 → Counted e n → Counted e (suc n)
one_more e n low high few k = ⊎_elim is_not is_due (cases_lt (k.r + 1) e)
  where
    is_due : e ≤ k.r + 1 → Counted e (suc n)
    is_due turn = record {
      q = k.q + 1;
      r = 0;
      sum = (let s = k.sum in let l = k.less in omega arith);
      less = omega arith;
      few = (let f = k.few in omega arith);
      turns = ap (flipped_turns Room) k.turns ∙ due e k.r (n - k.q) k.q low turn (let f = k.few in omega arith) ∙ ap (λ (a : ℕ). told e 0 a (k.q + 1)) (let f = k.few in omega arith);
    }

    is_not : k.r + 1 < e → Counted e (suc n)
    is_not turn = record {
      q = k.q;
      r = k.r + 1;
      sum = (let s = k.sum in omega arith);
      less = turn;
      few = (let f = k.few in omega arith);
      turns = ap (flipped_turns Room) k.turns ∙ not_due e k.r (n - k.q) k.q turn high (let f = k.few in omega arith) ∙ ap (λ (a : ℕ). told e (k.r + 1) a k.q) (let f = k.few in omega arith);
    }

counted : (e n : ℕ) → 1 ≤ e → e < 2 ^ 32 → n < 2 ^ 64 → Counted e n
counted e zero low high few = record { q = 0; r = 0; sum = omega arith; less = omega arith; few = omega arith; turns = refl }
counted e (suc n) low high few = one_more e n low high few (counted e n low high (omega arith))

pub each_counted : (e n : ℕ) → 1 ≤ e → e < 2 ^ 32 → n < 2 ^ 64 → (after_flips n (opening_turns (Along e))).checks ≡ record { along = n - n / e; whole = n / e }
each_counted e n low high few =
    let k = counted e n low high few in
    let whole : n / e ≡ k.q = ap (λ (m : ℕ). m / e) k.sum ∙ div-mul-add k.q e k.r k.less in
    ap (λ (t : Turns). t.checks) k.turns ∙ ap (λ (w : ℕ). let c : FlipChecks = record { along = n - w; whole = w } in c) (sym whole)

-- ---- none is checked whole for its number, or all are

along_more : (s a w : ℕ) → a + 1 < 2 ^ 64 → flipped_turns Room (told 0 s a w) ≡ told 0 (min (s + 1) (2 ^ 32 - 1)) (a + 1) w
along_more s a w few = grind (arith, common_steps)

along_told : (n : ℕ) → n < 2 ^ 64 → (s : ℕ) × (after_flips n (opening_turns (Along 0)) ≡ told 0 s n 0)
along_told zero few = (0, refl)
along_told (suc n) few = let k = along_told n (omega arith) in (min (k.0 + 1) (2 ^ 32 - 1), ap (flipped_turns Room) k.1 ∙ along_more k.0 n 0 (omega arith) ∙ ap (λ (a : ℕ). told 0 (min (k.0 + 1) (2 ^ 32 - 1)) a 0) (omega arith))

pub along_counted : (n : ℕ) → n < 2 ^ 64 → (after_flips n (opening_turns (Along 0))).checks ≡ record { along = n; whole = 0 }
along_counted n few = ap (λ (t : Turns). t.checks) (along_told n few).1

abbrev whole_told : ℕ → Turns
whole_told n = record { along = false; each = 1; since = 0; checks = record { along = 0; whole = n } }

whole_more : (n : ℕ) → n + 1 < 2 ^ 64 → flipped_turns Room (whole_told n) ≡ whole_told (n + 1)
whole_more n few = grind (arith, common_steps)

whole_all : (n : ℕ) → n < 2 ^ 64 → after_flips n (opening_turns AtFlip) ≡ whole_told n
whole_all zero few = refl
whole_all (suc n) few = ap (flipped_turns Room) (whole_all n (omega arith)) ∙ whole_more n (omega arith) ∙ ap whole_told (omega arith)

pub whole_counted : (n : ℕ) → n < 2 ^ 64 → (after_flips n (opening_turns AtFlip)).checks ≡ record { along = 0; whole = n }
whole_counted n few = ap (λ (t : Turns). t.checks) (whole_all n few)
