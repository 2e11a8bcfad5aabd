-- A certificate of the young objects' images is one of the minor collection.
use Rattle.std.proofs.lemmas.Grind.{common_steps}
use Rattle.std.proofs.Common.{◌≡◌, ◌≢◌, ◌⊎◌, inl, inr, ℕ, suc, ◌+◌, ◌-◌, ◌<◌, ◌≤◌, Bool, true, false, cond, ◌&&◌, ◌==◌, List, [], ◌∷◌, map, length, get_or, Option, Some, None, refl, ap, sym, ◌∙◌, subst, arith}
use Rattle.std.specs.Prelude.{IsOk, IsTrue, nat_lt}
use Rattle.std.specs.Result.{result_unwrap_or}
use Rattle.std.specs.List.{All, AllPairs, AllZip}
use Rattle.std.specs.Option.{option_map}
use Rattle.std.proofs.lemmas.Bool.{or_left, or_right, cases_Bool, eqb-true, eq-eqb, ne_eqb, and_parts, and_from, or_cases, ltb-true, ltb-false}
use Rattle.std.proofs.lemmas.List.{get_or-map}
use Rattle.std.proofs.lemmas.List.Elements.{All-nil, All-cons, All-head, All-tail}
use Rattle.gc_graph.specs.Graph.{Value, Num, Ref}
use Rattle.gc_graph.specs.Correspond.{paired, correspond}
use Rattle.gc_words.specs.Word.{words_correspond, field_words_correspond}
use Rattle.gc_words.specs.Image.{Block, walk, blocks, block_in, block_at}
use Rattle.gc_words.specs.Certificate.{BlocksCorrespond, Certified}
use Rattle.gc_words.specs.Spelling.{no_links}
use Rattle.gc_words.proofs.Public.{LaidOut, value_read_back, meant, laid_out, walk_spelled, ok_is}
use Rattle.gc_words.specs.declared.header.Header.{Header}
use Rattle.gc_nursery.specs.Minor.{lies_below, words_correspond_above, field_words_correspond_above, young_blocks, BlocksCorrespondAbove, MinorCertified}
use Rattle.gc_nursery.specs.Encoding.{encoded_value, encoded, encoded_fields, encoded_block, encoded_blocks, rebased, young_words, young_image, IsCode, IsApart, CanEncode, FieldsCanEncode, IsEncoded}
use Rattle.gc_nursery.proofs.Lists.{all_found}

-- ---- lists

all_unmap : {X Y : Type 0} (P : Y → Type 0) (f : X → Y) (xs : List X) → All P (map f xs) → All (λ x. P (f x)) xs
all_unmap P f [] all = All-nil (λ x. P (f x))
all_unmap P f (x ∷ xs) all = All-cons (λ x. P (f x)) x xs (All-head P (f x) (map f xs) all) (all_unmap P f xs (All-tail P (f x) (map f xs) all))

length_map : {X Y : Type 0} (f : X → Y) (xs : List X) → length (map f xs) ≡ length xs
length_map f [] = refl
length_map f (x ∷ xs) = ap suc (length_map f xs)

pairs_unmap : {X Y : Type 0} (R : Y → Y → Type 0) (f : X → Y) (xs : List X) → AllPairs R (map f xs) → AllPairs (λ x y. R (f x) (f y)) xs
pairs_unmap R f xs all i j d l h =
    subst (λ y. R (f (get_or xs i d)) y) (get_or-map f xs j d (f d) h)
    (subst (λ x. R x (get_or (map f xs) j (f d))) (get_or-map f xs i d (f d) (omega arith)) (all i j (f d) l (let n : length (map f xs) ≡ length xs = length_map f xs in omega arith)))

zip_unmap : (P : ℕ → Type 0) (R S : ℕ → ℕ → Type 0) (f : ℕ → ℕ) (xs ys : List ℕ) → All P xs → All P ys → ((x y : ℕ) → P x → P y → R (f x) (f y) → S x y) → AllZip R (map f xs) (map f ys) → AllZip S xs ys
zip_unmap P R S f [] [] ps qs h z = tt
zip_unmap P R S f [] (y ∷ ys) ps qs h z = absurd z
zip_unmap P R S f (x ∷ xs) [] ps qs h z = absurd z
zip_unmap P R S f (x ∷ xs) (y ∷ ys) ps qs h z = (h x y (All-head P x xs ps) (All-head P y ys qs) z.0, zip_unmap P R S f xs ys (All-tail P x xs ps) (All-tail P y ys qs) h z.1)

module _ (code : ℕ → ℕ) (base : ℕ) (low_base : 1 ≤ base) where
  abbrev Highs : ℕ × ℕ → Type 0
  Highs p = (base ≤ p.0) × (base ≤ p.1)

  paired_back : (pairs : List (ℕ × ℕ)) (a b : ℕ) → All Highs pairs → base ≤ a → base ≤ b → paired (rebased base pairs) (suc (a - base)) (suc (b - base)) ≡ true → paired pairs a b ≡ true
  paired_back [] a b high l m e = cc
  paired_back (p ∷ pairs) a b high l m e =
      elim (or_cases ((suc (p.0 - base) == suc (a - base)) && (suc (p.1 - base) == suc (b - base))) (paired (rebased base pairs) (suc (a - base)) (suc (b - base))) e) [
        | inl here ↦ (let both : ((suc (p.0 - base) == suc (a - base)) ≡ true) × ((suc (p.1 - base) == suc (b - base)) ≡ true) = and_parts _ _ here in
            let h : Highs p = All-head Highs p pairs high in
            let h0 : base ≤ p.0 = h.0 in
            let h1 : base ≤ p.1 = h.1 in
            let e0 : suc (p.0 - base) ≡ suc (a - base) = eqb-true _ _ both.0 in
            let e1 : suc (p.1 - base) ≡ suc (b - base) = eqb-true _ _ both.1 in
            or_left ((p.0 == a) && (p.1 == b)) (paired pairs a b) (and_from (p.0 == a) (p.1 == b) (eq-eqb p.0 a (omega arith)) (eq-eqb p.1 b (omega arith))))
        | inr there ↦ or_right ((p.0 == a) && (p.1 == b)) (paired pairs a b) (paired_back pairs a b (All-tail Highs p pairs high) l m there)
      ]

  module _ (pairs : List (ℕ × ℕ)) (high : All Highs pairs) (codes : IsCode code base) where
    -- ---- words

    abbrev Decoded : Value → Value → Type 0
    Decoded x y = ((lies_below base x ≡ true) × (x ≡ y)) ⊎ (correspond pairs x y ≡ true)

    references : (a b : ℕ) (s t : Bool) → nat_lt a base ≡ s → nat_lt b base ≡ t
        → correspond (rebased base pairs) (cond s (Num (code a)) (Ref (suc (a - base)))) (cond t (Num (code b)) (Ref (suc (b - base)))) ≡ true → Decoded (Ref a) (Ref b)
    references a b s t f g e = grind (arith, common_steps, ltb-true, eqb-true, paired_back, ltb-false)

    values : (x y : Value) → IsApart code base x → IsApart code base y → correspond (rebased base pairs) (encoded_value code base x) (encoded_value code base y) ≡ true → Decoded x y
    values x y l m e = grind (arith, common_steps, references, ltb-true, eqb-true)

    words : (v w : ℕ) → CanEncode code base v → CanEncode code base w → words_correspond (rebased base pairs) (encoded code base v) (encoded code base w) ≡ true → words_correspond_above base pairs v w ≡ true
    words v w c d e = grind (arith, common_steps, values, or_left, and_from, eq-eqb, or_right, meant, value_read_back)

    -- ---- objects

    fields : (h : Header) (raw : Bool) → h.raw ≡ raw → (xs ys : List ℕ) → FieldsCanEncode code base raw xs → FieldsCanEncode code base raw ys
        → AllZip (λ v w. IsTrue (field_words_correspond h (rebased base pairs) v w)) (encoded_fields code base raw xs) (encoded_fields code base raw ys)
        → AllZip (λ v w. IsTrue (field_words_correspond_above h base pairs v w)) xs ys
    fields h true is xs ys c d z = raw_zip xs ys z
      where
        raw_zip : (xs ys : List ℕ) → AllZip (λ v w. IsTrue (field_words_correspond h (rebased base pairs) v w)) xs ys → AllZip (λ v w. IsTrue (field_words_correspond_above h base pairs v w)) xs ys
        raw_zip [] [] z = tt
        raw_zip [] (y ∷ ys) z = absurd z
        raw_zip (x ∷ xs) [] z = absurd z
        raw_zip (x ∷ xs) (y ∷ ys) z = grind (arith, common_steps, raw_zip xs ys z.1)
    fields h false is xs ys c d z =
        zip_unmap (CanEncode code base) _ _ (encoded code base) xs ys c d
        (λ v w p q e. ap (λ t. cond t (v == w) (words_correspond_above base pairs v w)) is
        ∙ words v w p q (sym (ap (λ t. cond t (encoded code base v == encoded code base w) (words_correspond (rebased base pairs) (encoded code base v) (encoded code base w))) is) ∙ e)) z

    blocks_back : (o q : Option Block) → ((b : Block) → o ≡ Some b → FieldsCanEncode code base b.header.raw b.fields) → ((b : Block) → q ≡ Some b → FieldsCanEncode code base b.header.raw b.fields)
        → BlocksCorrespond (rebased base pairs) (option_map (encoded_block code base) o) (option_map (encoded_block code base) q) → BlocksCorrespondAbove base pairs o q
    blocks_back (Some a) (Some b) c d z =
        let same : a.header ≡ b.header = z.0 in
        let raws : b.header.raw ≡ a.header.raw = ap (λ h. h.raw) (sym same) in (
          same,
          fields a.header a.header.raw refl a.fields b.fields (c a refl) (subst (λ r. FieldsCanEncode code base r b.fields) raws (d b refl))
              (subst (λ r. AllZip (λ v w. IsTrue (field_words_correspond a.header (rebased base pairs) v w)) (encoded_fields code base a.header.raw a.fields) (encoded_fields code base r b.fields)) raws z.1),
        )
    blocks_back (Some a) None c d z = absurd z
    blocks_back None q c d z = absurd z

  -- ---- the images

  laid_encoded : (bs : List (ℕ × Block)) (at : ℕ) → base ≤ at → LaidOut at bs → LaidOut (suc (at - base)) (encoded_blocks code base bs)
  laid_encoded [] at l laid = tt
  laid_encoded (x ∷ bs) at l laid = grind (arith, common_steps, length_map, laid_encoded bs (at + (x.1.header.len + 2)) (omega arith) laid.2)

  blocks_of_young : (young : List ℕ) → IsOk (walk true 0 base young) → blocks (young_words code base young) ≡ encoded_blocks code base (young_blocks base young)
  blocks_of_young young ok =
      let laid : LaidOut (base + 0) (young_blocks base young) = laid_out young 0 base (young_blocks base young) (omega arith) (ok_is (walk true 0 base young) ok) in
      ap (λ r. result_unwrap_or r []) (walk_spelled (encoded_blocks code base (young_blocks base young)) no_links 1
      (subst (λ n. LaidOut n (encoded_blocks code base (young_blocks base young))) (omega arith) (laid_encoded (young_blocks base young) (base + 0) (omega arith) laid)))

  found_encoded : (bs : List (ℕ × Block)) (a : ℕ) → base ≤ a → All (λ (x : ℕ × Block). base ≤ x.0) bs
      → block_in (encoded_blocks code base bs) (suc (a - base)) ≡ option_map (encoded_block code base) (block_in bs a)
  found_encoded [] a l high = refl
  found_encoded (x ∷ bs) a l high = grind (arith, common_steps, cases_Bool, eqb-true, eq-eqb, All-head, ne_eqb, All-tail, found_encoded bs a l (All-tail (λ (x : ℕ × Block). base ≤ x.0) x bs high))

  low_starts : (bs : List (ℕ × Block)) (at : ℕ) → base ≤ at → LaidOut at bs → All (λ (x : ℕ × Block). base ≤ x.0) bs
  low_starts [] at l laid = All-nil _
  low_starts (x ∷ bs) at l laid = All-cons (λ (x : ℕ × Block). base ≤ x.0) x bs (let here : x.0 ≡ at = laid.0 in omega arith) (low_starts bs (at + (x.1.header.len + 2)) (omega arith) laid.2)

  block_encoded : (young : List ℕ) (a : ℕ) → IsOk (walk true 0 base young) → base ≤ a → block_at (young_words code base young) (suc (a - base)) ≡ option_map (encoded_block code base) (block_in (young_blocks base young) a)
  block_encoded young a ok l =
      ap (λ bs. block_in bs (suc (a - base))) (blocks_of_young young ok)
      ∙ found_encoded (young_blocks base young) a l
      (low_starts (young_blocks base young) (base + 0) (omega arith) (laid_out young 0 base (young_blocks base young) (omega arith) (ok_is (walk true 0 base young) ok)))

  pub enough : (size new_size : ℕ) (young survivors roots new_roots : List ℕ) (pairs : List (ℕ × ℕ))
      → IsOk (walk true 0 base young) → IsOk (walk true 0 base survivors) → IsEncoded code base young roots → IsEncoded code base survivors new_roots → All Highs pairs
      → Certified (young_image size code base young roots) (young_image new_size code base survivors new_roots) (rebased base pairs)
      → MinorCertified base young survivors roots new_roots pairs
  enough size new_size young survivors roots new_roots pairs ok new_ok can new_can high certified = record {
    old_walked = ok;
    new_walked = new_ok;
    objects = λ k d h. alike (get_or pairs k d) (high k d h) (all_unmap (λ p. BlocksCorrespond (rebased base pairs) (block_at (young_words code base young) p.0) (block_at (young_words code base survivors) p.1)) (λ p. (suc (p.0 - base), suc (p.1 - base))) pairs certified.objects k d h);
    rising = λ i j d l h. (let r : suc ((get_or pairs i d).1 - base) < suc ((get_or pairs j d).1 - base) = pairs_unmap (λ p q. p.1 < q.1) (λ p. (suc (p.0 - base), suc (p.1 - base))) pairs certified.rising i j d l h in omega arith);
    once = λ i j d l h same. pairs_unmap (λ p q. p.0 ≢ q.0) (λ p. (suc (p.0 - base), suc (p.1 - base))) pairs certified.once i j d l h (ap (λ n. suc (n - base)) same);
    roots = zip_unmap (CanEncode code base) _ _ (encoded code base) roots new_roots can.roots new_can.roots (words pairs high can.codes) certified.roots;
  }
    where
      alike : (p : ℕ × ℕ) → Highs p → BlocksCorrespond (rebased base pairs) (block_at (young_words code base young) (suc (p.0 - base))) (block_at (young_words code base survivors) (suc (p.1 - base)))
          → BlocksCorrespondAbove base pairs (block_in (young_blocks base young) p.0) (block_in (young_blocks base survivors) p.1)
      alike p h c =
          blocks_back pairs high can.codes (block_in (young_blocks base young) p.0) (block_in (young_blocks base survivors) p.1)
          (λ b e. all_found (λ (b : Block). FieldsCanEncode code base b.header.raw b.fields) (young_blocks base young) p.0 b can.fields e)
          (λ b e. all_found (λ (b : Block). FieldsCanEncode code base b.header.raw b.fields) (young_blocks base survivors) p.1 b new_can.fields e)
          (subst (λ o. BlocksCorrespond (rebased base pairs) o (option_map (encoded_block code base) (block_in (young_blocks base survivors) p.1))) (block_encoded young p.0 ok h.0)
          (subst (λ q. BlocksCorrespond (rebased base pairs) (block_at (young_words code base young) (suc (p.0 - base))) q) (block_encoded survivors p.1 new_ok h.1) c))
