-- Matching is transitive.
use Rattle.std.proofs.lemmas.Grind.{common_steps}
use Rattle.std.proofs.Common.{◌≡◌, ℕ, true, false, cond, ◌==◌, List, [], ◌∷◌, ◌++◌, Option, None, refl, sym, ◌∙◌, ap, subst, ◌⊎◌, arith}
use Rattle.std.specs.List.{AllZip}
use Rattle.std.proofs.lemmas.Bool.{eqb-true, eq-eqb, cases_Bool}
use Rattle.gc_graph.specs.Graph.{Value, Nil, Num, Ref, Object, Graph, lookup}
use Rattle.gc_graph.specs.Correspond.{paired}
use Rattle.gc_graph.proofs.Matching.{Alike, nils, numbers, partners, without_objects, ObjectsAlike, Matched}
use Rattle.gc_graph.proofs.Lookups.{paired_cases, paired_more, paired_here}

-- the partners of b, as those of a
abbrev partners_from : ℕ → ℕ → List (ℕ × ℕ) → List (ℕ × ℕ)
partners_from a b [] = []
partners_from a b (q ∷ qs) = cond (q.0 == b) ((a, q.1) ∷ partners_from a b qs) (partners_from a b qs)

abbrev pub joined : List (ℕ × ℕ) → List (ℕ × ℕ) → List (ℕ × ℕ)
joined [] qs = []
joined (p ∷ ps) qs = partners_from p.0 p.1 qs ++ joined ps qs

append_cases : (xs ys : List (ℕ × ℕ)) (a c : ℕ) → paired (xs ++ ys) a c ≡ true → (paired xs a c ≡ true) ⊎ (paired ys a c ≡ true)
append_cases xs ys a c e = grind (arith, common_steps, paired_cases, paired_here, paired_more)

append_left : (xs ys : List (ℕ × ℕ)) (a c : ℕ) → paired xs a c ≡ true → paired (xs ++ ys) a c ≡ true
append_left xs ys a c e = grind (arith, common_steps, paired_cases, paired_here, paired_more)

append_right : (xs ys : List (ℕ × ℕ)) (a c : ℕ) → paired ys a c ≡ true → paired (xs ++ ys) a c ≡ true
append_right [] ys a c e = e
append_right (x ∷ xs) ys a c e = paired_more x (xs ++ ys) a c (append_right xs ys a c e)

from_cases : (x b : ℕ) (qs : List (ℕ × ℕ)) (a c : ℕ) → paired (partners_from x b qs) a c ≡ true → (x ≡ a) × (paired qs b c ≡ true)
from_cases x b [] a c e = absurd (let no : false ≡ true = e in cc)
from_cases x b (q ∷ qs) a c e = grind (arith, common_steps, cases_Bool, eqb-true, paired_cases, paired_here, paired_more, from_cases x b qs a c)

from_there : (x b : ℕ) (qs : List (ℕ × ℕ)) (c : ℕ) → paired qs b c ≡ true → paired (partners_from x b qs) x c ≡ true
from_there x b [] c e = absurd (let no : false ≡ true = e in cc)
from_there x b (q ∷ qs) c e = grind (arith, common_steps, paired_cases, eq-eqb, paired_here, paired_more, from_there x b qs c)

joined_cases : (ps qs : List (ℕ × ℕ)) (a c : ℕ) → paired (joined ps qs) a c ≡ true → (b : ℕ) × (paired ps a b ≡ true) × (paired qs b c ≡ true)
joined_cases [] qs a c e = absurd (let no : false ≡ true = e in cc)
joined_cases (p ∷ ps) qs a c e = grind (arith, common_steps, append_cases, from_cases, paired_here, paired_more, joined_cases ps qs a c)

joined_there : (ps qs : List (ℕ × ℕ)) (a b c : ℕ) → paired ps a b ≡ true → paired qs b c ≡ true → paired (joined ps qs) a c ≡ true
joined_there [] qs a b c e f = absurd (let no : false ≡ true = e in cc)
joined_there (p ∷ ps) qs a b c e f = grind (arith, common_steps, paired_cases, append_left, from_there, append_right, joined_there ps qs a b c)

module _ (ps qs : List (ℕ × ℕ)) (g h k : Graph) (first : Matched ps g h) (second : Matched qs h k) where
  not_left : (o q : Option Object) → ObjectsAlike ps g.objects h.objects o q → q ≡ None → ⊥
  not_left o q a e = grind (arith, common_steps)

  not_right : (o q : Option Object) → ObjectsAlike qs h.objects k.objects o q → o ≡ None → ⊥
  not_right o q a e = grind (arith, common_steps)

  refs : {v w : Value} (a b : ℕ) → v ≡ Ref b → Alike qs h.objects k.objects v w → paired ps a b ≡ true → Alike (joined ps qs) g.objects k.objects (Ref a) w
  refs a b e nils p = absurd (let no : Nil ≡ Ref b = e in cc)
  refs a b e (numbers n) p = absurd (let no : Num n ≡ Ref b = e in cc)
  refs a b e (partners x c q) p = (let same : x ≡ b = (let s : Ref x ≡ Ref b = e in cc) in partners a c (joined_there ps qs a b c p (subst (λ n. paired qs n c ≡ true) same q)))
  refs a b e (without_objects x c none none') p = (let same : x ≡ b = (let s : Ref x ≡ Ref b = e in cc) in absurd (not_left _ _ (first.objects a b p) (ap (lookup h.objects) (sym same) ∙ none)))

  gone : {v w : Value} (a b : ℕ) → v ≡ Ref b → Alike qs h.objects k.objects v w → lookup g.objects a ≡ None → lookup h.objects b ≡ None → Alike (joined ps qs) g.objects k.objects (Ref a) w
  gone a b e nils n n' = absurd (let no : Nil ≡ Ref b = e in cc)
  gone a b e (numbers m) n n' = absurd (let no : Num m ≡ Ref b = e in cc)
  gone a b e (partners x c q) n n' = (let same : x ≡ b = (let s : Ref x ≡ Ref b = e in cc) in absurd (not_right _ _ (second.objects x c q) (ap (lookup h.objects) same ∙ n')))
  gone a b e (without_objects x c none none') n n' = without_objects a c n none'

  nil_from : {v w : Value} → v ≡ Nil → Alike qs h.objects k.objects v w → Alike (joined ps qs) g.objects k.objects Nil w
  nil_from e nils = nils
  nil_from e (numbers n) = absurd (let no : Num n ≡ Nil = e in cc)
  nil_from e (partners x c q) = absurd (let no : Ref x ≡ Nil = e in cc)
  nil_from e (without_objects x c n n') = absurd (let no : Ref x ≡ Nil = e in cc)

  num_from : {v w : Value} (m : ℕ) → v ≡ Num m → Alike qs h.objects k.objects v w → Alike (joined ps qs) g.objects k.objects (Num m) w
  num_from m e nils = absurd (let no : Nil ≡ Num m = e in cc)
  num_from m e (numbers n) = (let same : n ≡ m = (let s : Num n ≡ Num m = e in cc) in subst (λ x. Alike (joined ps qs) g.objects k.objects (Num m) (Num x)) (sym same) (numbers m))
  num_from m e (partners x c q) = absurd (let no : Ref x ≡ Num m = e in cc)
  num_from m e (without_objects x c n n') = absurd (let no : Ref x ≡ Num m = e in cc)

  both : {u v w : Value} → Alike ps g.objects h.objects u v → Alike qs h.objects k.objects v w → Alike (joined ps qs) g.objects k.objects u w
  both nils b = nil_from refl b
  both (numbers n) b = num_from n refl b
  both (partners a x p) b = refs a x refl b p
  both (without_objects a x e f) b = gone a x refl b e f

  zip_both : (us vs ws : List Value) → AllZip (Alike ps g.objects h.objects) us vs → AllZip (Alike qs h.objects k.objects) vs ws → AllZip (Alike (joined ps qs) g.objects k.objects) us ws
  zip_both [] [] [] y z = tt
  zip_both [] [] (w ∷ ws) y z = absurd z
  zip_both [] (v ∷ vs) ws y z = absurd y
  zip_both (u ∷ us) [] ws y z = absurd y
  zip_both (u ∷ us) (v ∷ vs) [] y z = absurd z
  zip_both (u ∷ us) (v ∷ vs) (w ∷ ws) y z = (both y.0 z.0, zip_both us vs ws y.1 z.1)

  pub composed : Matched (joined ps qs) g k
  composed = grind (arith, common_steps, zip_both, joined_cases)
