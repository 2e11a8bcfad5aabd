-- The two logs of a collection.
use Rattle.std.proofs.Common.{◌≡◌, ◌⊎◌, ℕ, zero, suc, ◌+◌, ◌<◌, ◌≤◌, List, [], ◌∷◌, ◌++◌, refl, ap, sym, inl, inr, ⊎_elim, arith}
use Rattle.std.specs.Prelude.{slice_get}
use Rattle.std.specs.Option.{unwrap_or}
use Rattle.gc_model.specs.Members.{In}
use Rattle.gc_concurrent.specs.Internal.Rule.{entries_of_fields}

-- ---- two logs

abbrev pub E : Type 0
E = ℕ × ℕ

abbrev pub AtTwo : E → List E → List E → Type 0
AtTwo p x y = (k : ℕ) × In p (unwrap_or (slice_get (x ∷ y ∷ []) k) [])

pub of_two : (p : E) (x y : List E) → (In p x ⊎ In p y) → AtTwo p x y
of_two p x y (inl h) = (0, h)
of_two p x y (inr h) = (1, h)

pub to_two : (p : E) (x y : List E) → AtTwo p x y → In p x ⊎ In p y
to_two p x y (zero, h) = inl h
to_two p x y (suc zero, h) = inr h
to_two p x y (suc (suc k), h) = absurd h

pub in_either : (p : E) (x y : List E) → In p (x ++ y) → In p x ⊎ In p y
in_either p [] y h = inr h
in_either p (e ∷ x) y (inl h) = inl (inl h)
in_either p (e ∷ x) y (inr h) = ⊎_elim (λ a. inl (inr a)) (λ b. inr b) (in_either p x y h)

-- ---- the fields of an object as entries

pub in_fields : (name k n a i : ℕ) → In {X = ℕ × ℕ} (a, i) (entries_of_fields name k n) → (a ≡ name) × (i < k + n)
in_fields name k zero a i h = absurd h
in_fields name k (suc n) a i (inl e) = let x : (name, k) ≡ (a, i) = e in (sym (ap (λ (z : ℕ × ℕ). z.0) x), (let y : k ≡ i = ap (λ (z : ℕ × ℕ). z.1) x in omega arith))
in_fields name k (suc n) a i (inr h) = let x = in_fields name (suc k) n a i h in (x.0, (let y = x.1 in omega arith))

pub fields_in : (name k n i : ℕ) → k ≤ i → i < k + n → In {X = ℕ × ℕ} (name, i) (entries_of_fields name k n)
fields_in name k zero i low high = absurd (omega arith)
fields_in name k (suc n) i low high = ⊎_elim (λ (e : k ≡ i). inl (λ j. (name, e j))) (λ (l : k < i). inr (fields_in name (suc k) n i (omega arith) (omega arith))) (first k i low)
  where
    first : (k i : ℕ) → k ≤ i → (k ≡ i) ⊎ (k < i)
    first zero zero h = inl refl
    first zero (suc i) h = inr (omega arith)
    first (suc k) zero h = absurd (omega arith)
    first (suc k) (suc i) h = ⊎_elim (λ e. inl (ap suc e)) (λ l. inr (omega arith)) (first k i (omega arith))
