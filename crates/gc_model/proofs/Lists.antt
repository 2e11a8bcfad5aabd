-- Membership, places and distinct elements of lists.
use Rattle.std.proofs.lemmas.Grind.{common_steps}
use Rattle.std.proofs.Common.{◌≡◌, ◌≢◌, ◌⊎◌, inl, inr, ⊎_elim, ℕ, zero, suc, ◌<◌, Bool, true, false, List, [], ◌∷◌, ◌++◌, map, length, set, replicate, Some, None, slice_get, find, flat_map, get_or, All, refl, ap, sym, ◌∙◌, subst, arith}
use Rattle.std.proofs.lemmas.Bool.{cases_Bool, cond-true, cond-false}
use Rattle.std.proofs.lemmas.Option.{slice_get-get_or}
use Rattle.gc_model.specs.Members.{In, Distinct}

pub in_left : {X : Type 0} (x : X) (xs ys : List X) → In x xs → In x (xs ++ ys)
in_left x [] ys h = absurd h
in_left x (y ∷ xs) ys (inl e) = inl e
in_left x (y ∷ xs) ys (inr h) = inr (in_left x xs ys h)

pub in_right : {X : Type 0} (x : X) (xs ys : List X) → In x ys → In x (xs ++ ys)
in_right x [] ys h = h
in_right x (y ∷ xs) ys h = inr (in_right x xs ys h)

pub in_cases : {X : Type 0} (x : X) (xs ys : List X) → In x (xs ++ ys) → In x xs ⊎ In x ys
in_cases x [] ys h = inr h
in_cases x (y ∷ xs) ys (inl e) = inl (inl e)
in_cases x (y ∷ xs) ys (inr h) = ⊎_elim (λ a. inl (inr a)) (λ b. inr b) (in_cases x xs ys h)

pub in_push : {X : Type 0} (x y : X) (xs : List X) → In x (xs ++ y ∷ []) → In x xs ⊎ (y ≡ x)
in_push x y [] (inl e) = inr e
in_push x y [] (inr h) = absurd h
in_push x y (z ∷ xs) (inl e) = inl (inl e)
in_push x y (z ∷ xs) (inr h) = ⊎_elim (λ a. inl (inr a)) (λ b. inr b) (in_push x y xs h)

pub in_map : {X Y : Type 0} (f : X → Y) (x : X) (xs : List X) → In x xs → In (f x) (map f xs)
in_map f x [] h = absurd h
in_map f x (y ∷ xs) (inl e) = inl (ap f e)
in_map f x (y ∷ xs) (inr h) = inr (in_map f x xs h)

pub in_map_from : {X Y : Type 0} (f : X → Y) (y : Y) (xs : List X) → In y (map f xs) → (x : X) × In x xs × (f x ≡ y)
in_map_from f y [] h = absurd h
in_map_from f y (x ∷ xs) (inl e) = (x, inl refl, e)
in_map_from f y (x ∷ xs) (inr h) = let r = in_map_from f y xs h in (r.0, inr r.1, r.2)

pub in_flat_map : {X Y : Type 0} (f : X → List Y) (x : X) (y : Y) (xs : List X) → In x xs → In y (f x) → In y (flat_map f xs)
in_flat_map f x y [] h k = absurd h
in_flat_map f x y (z ∷ xs) (inl e) k = in_left y (f z) (flat_map f xs) (subst (λ w. In y (f w)) (sym e) k)
in_flat_map f x y (z ∷ xs) (inr h) k = in_right y (f z) (flat_map f xs) (in_flat_map f x y xs h k)

pub in_flat_map_from : {X Y : Type 0} (f : X → List Y) (y : Y) (xs : List X) → In y (flat_map f xs) → (x : X) × In x xs × In y (f x)
in_flat_map_from f y [] h = absurd h
in_flat_map_from f y (x ∷ xs) h = ⊎_elim (λ a. (x, inl refl, a)) (λ b. let r = in_flat_map_from f y xs b in (r.0, inr r.1, r.2)) (in_cases y (f x) (flat_map f xs) h)

-- ---- places

pub get_in : {X : Type 0} (x : X) (xs : List X) (i : ℕ) → slice_get xs i ≡ Some x → In x xs
get_in x [] i h = absurd cc
get_in x (y ∷ xs) zero h = inl cc
get_in x (y ∷ xs) (suc i) h = inr (get_in x xs i h)

pub in_get : {X : Type 0} (x : X) (xs : List X) → In x xs → (i : ℕ) × (slice_get xs i ≡ Some x)
in_get x [] h = absurd h
in_get x (y ∷ xs) (inl e) = (zero, ap Some e)
in_get x (y ∷ xs) (inr h) = let r = in_get x xs h in (suc r.0, r.1)

pub get_past : {X : Type 0} (xs : List X) (i : ℕ) (x : X) → slice_get xs i ≡ Some x → i < length xs
get_past [] i x h = absurd cc
get_past (y ∷ xs) zero x h = omega arith
get_past (y ∷ xs) (suc i) x h = let k : i < length xs = get_past xs i x h in omega arith

pub get_within : {X : Type 0} (xs : List X) (i : ℕ) → i < length xs → (x : X) × (slice_get xs i ≡ Some x)
get_within [] i h = absurd (omega arith)
get_within (y ∷ xs) zero h = (y, refl)
get_within (y ∷ xs) (suc i) h = get_within xs i (omega arith)

pub get_set_same : {X : Type 0} (xs : List X) (i : ℕ) (y : X) → i < length xs → slice_get (set xs i y) i ≡ Some y
get_set_same [] i y h = absurd (omega arith)
get_set_same (x ∷ xs) zero y h = refl
get_set_same (x ∷ xs) (suc i) y h = get_set_same xs i y (omega arith)

-- the element at place j after a write at place i
pub get_set : {X : Type 0} (xs : List X) (i j : ℕ) (y z : X) → slice_get (set xs i y) j ≡ Some z → ((j ≡ i) × (y ≡ z)) ⊎ ((j ≢ i) × (slice_get xs j ≡ Some z))
get_set [] i j y z h = absurd cc
get_set (x ∷ xs) zero zero y z h = inl (refl, cc)
get_set (x ∷ xs) zero (suc j) y z h = inr ((omega arith), h)
get_set (x ∷ xs) (suc i) zero y z h = inr ((omega arith), h)
get_set (x ∷ xs) (suc i) (suc j) y z h = ⊎_elim (λ a. inl (ap suc a.0, a.1)) (λ b. inr ((let n = b.0 in omega arith), b.1)) (get_set xs i j y z h)

pub get_set_other : {X : Type 0} (xs : List X) (i j : ℕ) (y : X) → j ≢ i → slice_get (set xs i y) j ≡ slice_get xs j
get_set_other [] i j y h = refl
get_set_other (x ∷ xs) zero zero y h = absurd (h refl)
get_set_other (x ∷ xs) zero (suc j) y h = refl
get_set_other (x ∷ xs) (suc i) zero y h = refl
get_set_other (x ∷ xs) (suc i) (suc j) y h = get_set_other xs i j y (λ e. h (ap suc e))

pub in_set : {X : Type 0} (z : X) (xs : List X) (i : ℕ) (y : X) → In z (set xs i y) → (y ≡ z) ⊎ In z xs
in_set z [] i y h = absurd h
in_set z (x ∷ xs) zero y (inl e) = inl e
in_set z (x ∷ xs) zero y (inr h) = inr (inr h)
in_set z (x ∷ xs) (suc i) y (inl e) = inr (inl e)
in_set z (x ∷ xs) (suc i) y (inr h) = ⊎_elim (λ a. inl a) (λ b. inr (inr b)) (in_set z xs i y h)

pub in_replicate : {X : Type 0} (x y : X) (n : ℕ) → In x (replicate n y) → y ≡ x
in_replicate x y zero h = absurd h
in_replicate x y (suc n) (inl e) = e
in_replicate x y (suc n) (inr h) = in_replicate x y n h

-- ---- the first element that passes a test

pub find_some : {X : Type 0} (p : X → Bool) (xs : List X) (x : X) → find p xs ≡ Some x → In x xs × (p x ≡ true)
find_some p [] x h = absurd cc
find_some p (y ∷ xs) x h = grind (arith, common_steps, find_some p xs x)

pub find_none : {X : Type 0} (p : X → Bool) (xs : List X) (x : X) → find p xs ≡ None → In x xs → p x ≡ false
find_none p [] x h k = absurd k
find_none p (y ∷ xs) x h k = grind (arith, common_steps, find_none p xs x)

-- ---- distinct elements

pub distinct_push : {X : Type 0} (xs : List X) (y : X) → Distinct xs → (In y xs → ⊥) → Distinct (xs ++ y ∷ [])
distinct_push [] y d n = ((λ h. h), tt)
distinct_push (x ∷ xs) y d n = ((λ h. ⊎_elim (λ a. d.0 a) (λ b. n (inl (sym b))) (in_push x y xs h)), distinct_push xs y d.1 (λ h. n (inr h)))

-- ---- maps and searches

pub map_same : {X Y : Type 0} (f : X → Y) (g : X → X) → ((x : X) → f (g x) ≡ f x) → (xs : List X) → map f (map g xs) ≡ map f xs
map_same f g h [] = refl
map_same f g h (x ∷ xs) = let e = h x in let r = map_same f g h xs in cc

pub find_exists : {X : Type 0} (p : X → Bool) (xs : List X) (x : X) → In x xs → p x ≡ true → (y : X) × (find p xs ≡ Some y)
find_exists p [] x h t = absurd h
find_exists p (y ∷ xs) x h t = ⊎_elim
    (λ u. (y, cond-true (p y) (Some y) (find p xs) u))
    (λ f. ⊎_elim
    (λ e. absurd (cc (sym f, subst (λ w. p w ≡ true) (sym e) t)))
    (λ k. let r = find_exists p xs x k t in (r.0, cond-false (p y) (Some y) (find p xs) f ∙ r.1))
    h)
    (cases_Bool (p y))

pub all_from_in : {X : Type 0} (P : X → Type 0) (xs : List X) → ((x : X) → In x xs → P x) → All P xs
all_from_in P xs h k d l = h (get_or xs k d) (get_in (get_or xs k d) xs k (slice_get-get_or xs k d l))
