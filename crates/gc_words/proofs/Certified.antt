-- A certificate that holds makes the graphs of the two images correspond.
use Rattle.std.proofs.lemmas.Grind.{common_steps}
use Rattle.std.proofs.Common.{◌≡◌, ℕ, suc, zero, ◌<◌, true, ◌&&◌, ◌==◌, List, [], ◌∷◌, map, length, Option, Some, None, refl, sym, ◌∙◌, ap, subst, inl, inr, arith}
use Rattle.std.specs.Prelude.{slice_index_or}
use Rattle.std.specs.List.{AllZip}
use Rattle.std.proofs.lemmas.Bool.{eqb-true, cases_order, and_parts, or_cases}
use Rattle.std.proofs.lemmas.List.Elements.{length_all_zip}
use Rattle.gc_graph.specs.Graph.{Object, lookup}
use Rattle.gc_graph.specs.Correspond.{paired, correspond, EqualFieldByField, Corresponding}
use Rattle.gc_words.specs.Word.{field_value, field_words_correspond}
use Rattle.gc_words.specs.Image.{Image, Block, block_in, block_at, blocks, object_of_block, object_entry, graph_of}
use Rattle.gc_words.specs.Certificate.{BlocksCorrespond, Certified}
use Rattle.gc_words.specs.declared.header.Header.{Header}

-- ---- words and values

field_values_correspond : (h : Header) (pairs : List (ℕ × ℕ)) (v w : ℕ) → field_words_correspond h pairs v w ≡ true → correspond pairs (field_value h v) (field_value h w) ≡ true
field_values_correspond h pairs v w e = grind (arith, common_steps)

zip_of_maps : {A B C D : Type 0} (R : A → B → Type 0) (S : C → D → Type 0) (f : A → C) (g : B → D) (xs : List A) (ys : List B) → ((x : A) (y : B) → R x y → S (f x) (g y)) → AllZip R xs ys → AllZip S (map f xs) (map g ys)
zip_of_maps R S f g [] [] each z = tt
zip_of_maps R S f g [] (y ∷ ys) each z = absurd z
zip_of_maps R S f g (x ∷ xs) [] each z = absurd z
zip_of_maps R S f g (x ∷ xs) (y ∷ ys) each z = (each x y z.0, zip_of_maps R S f g xs ys each z.1)

-- ---- blocks and objects

abbrev pub object_option : Option Block → Option Object
object_option None = None
object_option (Some b) = Some (object_of_block b)

pub lookup_of_blocks : (bs : List (ℕ × Block)) (a : ℕ) → lookup (map object_entry bs) a ≡ object_option (block_in bs a)
lookup_of_blocks [] a = refl
lookup_of_blocks (entry ∷ bs) a = grind (arith, common_steps, lookup_of_blocks bs a)

objects_of_blocks : (pairs : List (ℕ × ℕ)) (o q : Option Block) → BlocksCorrespond pairs o q → EqualFieldByField pairs (object_option o) (object_option q)
objects_of_blocks pairs o q c = grind (arith, common_steps, zip_of_maps, field_values_correspond, length_all_zip)

-- ---- pairs by their places

pub place_of : (pairs : List (ℕ × ℕ)) (a b : ℕ) → paired pairs a b ≡ true → (k : ℕ) × (k < length pairs) × ((d : ℕ × ℕ) → slice_index_or pairs k d ≡ (a, b))
place_of [] a b e = cc
place_of (p ∷ pairs) a b e =
    elim (or_cases ((p.0 == a) && (p.1 == b)) (paired pairs a b) e) [
      | inl here ↦ (let both : ((p.0 == a) ≡ true) × ((p.1 == b) ≡ true) = and_parts (p.0 == a) (p.1 == b) here in
          (zero, omega arith, λ d i. (eqb-true p.0 a both.0 i, eqb-true p.1 b both.1 i)))
      | inr later ↦ (let found : (k : ℕ) × (k < length pairs) × ((d : ℕ × ℕ) → slice_index_or pairs k d ≡ (a, b)) = place_of pairs a b later in
          (suc found.0, omega arith, found.2))
    ]

module _ (old new : Image) (pairs : List (ℕ × ℕ)) (certified : Certified old new pairs) where
  one_right : (a b c : ℕ) → paired pairs a b ≡ true → paired pairs a c ≡ true → b ≡ c
  one_right a b c p q =
      let k : (k : ℕ) × (k < length pairs) × ((d : ℕ × ℕ) → slice_index_or pairs k d ≡ (a, b)) = place_of pairs a b p in
      let l : (l : ℕ) × (l < length pairs) × ((d : ℕ × ℕ) → slice_index_or pairs l d ≡ (a, c)) = place_of pairs a c q in
      elim (cases_order k.0 l.0) [
        | inl same ↦ ap (λ p. p.1) (sym (k.2 (a, b)) ∙ ap (λ n. slice_index_or pairs n (a, b)) same ∙ l.2 (a, b))
        | inr (inl less) ↦ absurd (certified.once k.0 l.0 (a, b) less l.1 (ap (λ p. p.0) (k.2 (a, b)) ∙ sym (ap (λ p. p.0) (l.2 (a, b)))))
        | inr (inr more) ↦ absurd (certified.once l.0 k.0 (a, b) more k.1 (ap (λ p. p.0) (l.2 (a, b)) ∙ sym (ap (λ p. p.0) (k.2 (a, b)))))
      ]

  not_below : (x y c : ℕ) → x ≡ c → y ≡ c → x < y → ⊥
  not_below x y c e f h = omega arith

  one_left : (a b c : ℕ) → paired pairs a c ≡ true → paired pairs b c ≡ true → a ≡ b
  one_left a b c p q =
      let k : (k : ℕ) × (k < length pairs) × ((d : ℕ × ℕ) → slice_index_or pairs k d ≡ (a, c)) = place_of pairs a c p in
      let l : (l : ℕ) × (l < length pairs) × ((d : ℕ × ℕ) → slice_index_or pairs l d ≡ (b, c)) = place_of pairs b c q in
      elim (cases_order k.0 l.0) [
        | inl same ↦ ap (λ p. p.0) (sym (k.2 (a, c)) ∙ ap (λ n. slice_index_or pairs n (a, c)) same ∙ l.2 (a, c))
        | inr (inl less) ↦ absurd (not_below _ _ c (ap (λ p. p.1) (k.2 (a, c))) (ap (λ p. p.1) (l.2 (a, c))) (certified.rising k.0 l.0 (a, c) less l.1))
        | inr (inr more) ↦ absurd (not_below _ _ c (ap (λ p. p.1) (l.2 (a, c))) (ap (λ p. p.1) (k.2 (a, c))) (certified.rising l.0 k.0 (a, c) more k.1))
      ]

  objects : (a b : ℕ) → paired pairs a b ≡ true → EqualFieldByField pairs (lookup (graph_of old).objects a) (lookup (graph_of new).objects b)
  objects a b p =
      let k : (k : ℕ) × (k < length pairs) × ((d : ℕ × ℕ) → slice_index_or pairs k d ≡ (a, b)) = place_of pairs a b p in
      let there : BlocksCorrespond pairs (block_at old.words a) (block_at new.words b)
      = subst (λ (p : ℕ × ℕ). BlocksCorrespond pairs (block_at old.words p.0) (block_at new.words p.1)) (k.2 (a, b)) (certified.objects k.0 (a, b) k.1) in
      subst (λ o. EqualFieldByField pairs o (lookup (graph_of new).objects b)) (sym (lookup_of_blocks (blocks old.words) a))
      (subst (λ q. EqualFieldByField pairs (object_option (block_in (blocks old.words) a)) q) (sym (lookup_of_blocks (blocks new.words) b))
      (objects_of_blocks pairs _ _ there))

  pub corresponding : Corresponding pairs (graph_of old) (graph_of new)
  corresponding = grind (arith, common_steps, zip_of_maps, objects, one_right, one_left)
