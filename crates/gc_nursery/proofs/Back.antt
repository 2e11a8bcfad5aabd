-- A certificate of the whole heap in which old objects are their own replicas is one of the minor collection.
use Rattle.std.proofs.lemmas.Grind.{common_steps}
use Rattle.std.proofs.Common.{◌≡◌, ◌≢◌, ◌⊎◌, inl, inr, ℕ, zero, suc, ◌<◌, ◌≤◌, Bool, true, false, ◌&&◌, ◌==◌, List, [], ◌∷◌, ◌++◌, map, length, get_or, Some, is_some, slice_get, unwrap_or, refl, ap, sym, ◌∙◌, subst, arith}
use Rattle.std.specs.Prelude.{IsOk, IsTrue}
use Rattle.std.specs.List.{All, AllPairs, AllZip, list_any}
use Rattle.std.proofs.lemmas.Bool.{or_left, or_right, eqb-true, eq-eqb, and_parts, and_from, or_cases, lt-ltb}
use Rattle.std.proofs.lemmas.List.Elements.{All-head, All-tail, All-weaker}
use Rattle.gc_graph.specs.Graph.{Value, Nil, Num, Ref}
use Rattle.gc_graph.specs.Correspond.{paired, correspond}
use Rattle.gc_words.specs.Word.{words_correspond, field_words_correspond}
use Rattle.gc_words.specs.Image.{Block, walk, blocks, block_in, block_at, header_of}
use Rattle.gc_words.specs.Certificate.{BlocksCorrespond, Certified}
use Rattle.gc_words.specs.declared.header.Header.{Header}
use Rattle.gc_words.proofs.Public.{meant, some_of, block_of_header}
use Rattle.gc_nursery.specs.Minor.{lies_below, words_correspond_above, field_words_correspond_above, young_blocks, BlocksCorrespondAbove, MinorCertified, word_of_field, whole, identity, IsStanding, IsPlainField, IsCandidate}
use Rattle.gc_nursery.proofs.Lists.{any_left, paired_all, selves, self_paired, found_left, found_right}
use Rattle.gc_nursery.proofs.Fronts.{whole_blocks, old_below, not_old}

any_cases : {X : Type 0} (p : X → Bool) (xs ys : List X) → list_any p (xs ++ ys) ≡ true → (list_any p xs ≡ true) ⊎ (list_any p ys ≡ true)
any_cases p [] ys e = inr e
any_cases p (x ∷ xs) ys e = grind (arith, common_steps, or_cases, or_left, or_right, any_cases p xs ys)

self_only : (bs : List (ℕ × Block)) (a b : ℕ) → paired (selves bs) a b ≡ true → (a ≡ b) × (is_some (block_in bs a) ≡ true)
self_only [] a b e = cc
self_only (x ∷ bs) a b e = grind (arith, common_steps, or_cases, selves, and_parts, eqb-true, is_some, self_only bs a b)

all_right : {X : Type 0} (P : X → Type 0) (xs ys : List X) → All P (xs ++ ys) → All P ys
all_right P [] ys all = all
all_right P (x ∷ xs) ys all = all_right P xs ys (All-tail P x (xs ++ ys) all)

pairs_right : {X : Type 0} (R : X → X → Type 0) (xs ys : List X) → AllPairs R (xs ++ ys) → AllPairs R ys
pairs_right R [] ys all = all
pairs_right R (x ∷ xs) ys all = pairs_right R xs ys (λ i j d l h. all (suc i) (suc j) d (omega arith) (omega arith))

zip_each : {A B : Type 0} (R S : A → B → Type 0) (xs : List A) (ys : List B) → ((x : A) (y : B) → R x y → S x y) → AllZip R xs ys → AllZip S xs ys
zip_each R S [] [] h z = tt
zip_each R S [] (y ∷ ys) h z = absurd z
zip_each R S (x ∷ xs) [] h z = absurd z
zip_each R S (x ∷ xs) (y ∷ ys) h z = (h x y z.0, zip_each R S xs ys h z.1)

zip_join : {X A B : Type 0} (R : A → B → Type 0) (f : X → A) (g : X → B) (rs : List X) (xs : List A) (ys : List B) → All (λ r. R (f r) (g r)) rs → AllZip R xs ys → AllZip R (map f rs ++ xs) (map g rs ++ ys)
zip_join R f g [] xs ys all z = z
zip_join R f g (r ∷ rs) xs ys all z = (All-head (λ r. R (f r) (g r)) r rs all, zip_join R f g rs xs ys (All-tail (λ r. R (f r) (g r)) r rs all) z)

zip_at : (R : ℕ → ℕ → Type 0) (xs ys : List ℕ) (i : ℕ) → AllZip R xs ys → i < length xs → R (unwrap_or (slice_get xs i) 0) (unwrap_or (slice_get ys i) 0)
zip_at R [] ys i z h = absurd (omega arith)
zip_at R (x ∷ xs) [] i z h = absurd z
zip_at R (x ∷ xs) (y ∷ ys) zero z h = z.0
zip_at R (x ∷ xs) (y ∷ ys) (suc i) z h = zip_at R xs ys i z.1 (omega arith)

module _ (size : ℕ) (front after young survivors roots new_roots : List ℕ) (remembered pairs : List (ℕ × ℕ)) (standing : IsStanding size front young roots remembered)
    (candidate : IsCandidate size front after survivors remembered pairs) (certified : Certified (whole size front young roots) (whole size after survivors new_roots) (identity front ++ pairs)) where
  abbrev all_pairs : List (ℕ × ℕ)
  all_pairs = identity front ++ pairs

  abbrev Decoded : Value → Value → Type 0
  Decoded x y = ((lies_below (length front) x ≡ true) × (x ≡ y)) ⊎ (correspond pairs x y ≡ true)

  values : (x y : Value) → correspond all_pairs x y ≡ true → Decoded x y
  values Nil Nil e = inr refl
  values Nil (Num b) e = absurd (let no : false ≡ true = e in cc)
  values Nil (Ref b) e = absurd (let no : false ≡ true = e in cc)
  values (Num a) Nil e = absurd (let no : false ≡ true = e in cc)
  values (Num a) (Num b) e = inr e
  values (Num a) (Ref b) e = absurd (let no : false ≡ true = e in cc)
  values (Ref a) Nil e = absurd (let no : false ≡ true = e in cc)
  values (Ref a) (Num b) e = absurd (let no : false ≡ true = e in cc)
  values (Ref a) (Ref b) e = go (any_cases (λ p. (p.0 == a) && (p.1 == b)) (identity front) pairs e)
    where
      go : (paired (identity front) a b ≡ true) ⊎ (paired pairs a b ≡ true) → Decoded (Ref a) (Ref b)
      go (inl self) =
          let only : (a ≡ b) × (is_some (block_in (blocks front) a) ≡ true) = self_only (blocks front) a b self in
          let block : (c : Block) × (block_at front a ≡ Some c) = some_of (block_at front a) only.1 in
          inl (lt-ltb a (length front) (old_below size front a block.0 standing.shaped block.1), ap (λ n. Ref n) only.0)
      go (inr there) = inr there

  words : (v w : ℕ) → words_correspond all_pairs v w ≡ true → words_correspond_above (length front) pairs v w ≡ true
  words v w e = grind (arith, common_steps, values, or_left, and_from, eq-eqb, meant, or_right)

  field_words : (h : Header) (v w : ℕ) → field_words_correspond h all_pairs v w ≡ true → field_words_correspond_above h (length front) pairs v w ≡ true
  field_words h v w e = grind (arith, common_steps, words)

  kept_walked : IsOk (walk true 0 (length after) survivors)
  kept_walked = subst (λ n. IsOk (walk true 0 n survivors)) (sym candidate.rewritten.as_long) candidate.walked

  young_at : (a : ℕ) → length front ≤ a → block_at (front ++ young) a ≡ block_in (young_blocks (length front) young) a
  young_at a l = ap (λ bs. block_in bs a) (whole_blocks size front young standing.shaped standing.walked)
      ∙ found_right (blocks front) (young_blocks (length front) young) a (not_old size front a standing.shaped l)

  kept_at : (b : ℕ) → length front ≤ b → block_at (after ++ survivors) b ≡ block_in (young_blocks (length front) survivors) b
  kept_at b l = ap (λ bs. block_in bs b) (whole_blocks size after survivors candidate.shaped kept_walked)
      ∙ found_right (blocks after) (young_blocks (length after) survivors) b (not_old size after b candidate.shaped (let n : length after ≡ length front = candidate.rewritten.as_long in omega arith))
      ∙ ap (λ n. block_in (young_blocks n survivors) b) candidate.rewritten.as_long

  abbrev Alike : ℕ × ℕ → Type 0
  Alike p = BlocksCorrespond all_pairs (block_at (front ++ young) p.0) (block_at (after ++ survivors) p.1)

  young_back : (p : ℕ × ℕ) → (length front ≤ p.0) × (length front ≤ p.1) → Alike p → BlocksCorrespondAbove (length front) pairs (block_in (young_blocks (length front) young) p.0) (block_in (young_blocks (length front) survivors) p.1)
  young_back p h c = grind (arith, common_steps, young_at, kept_at, zip_each, field_words)

  remembered_back : (r : ℕ × ℕ) → IsPlainField front r → words_correspond_above (length front) pairs (word_of_field front r) (word_of_field after r) ≡ true
  remembered_back r is = words (word_of_field front r) (word_of_field after r) alike
    where
      after_block : (c : Block) × (block_at after r.0 ≡ Some c) × (c.header ≡ is.block.header)
      after_block = block_of_header after r.0 is.block.header (candidate.rewritten.headers r.0 ∙ ap header_of is.found)

      old_there : block_at (front ++ young) r.0 ≡ Some is.block
      old_there = ap (λ bs. block_in bs r.0) (whole_blocks size front young standing.shaped standing.walked) ∙ found_left (blocks front) (young_blocks (length front) young) r.0 is.block is.found

      new_there : block_at (after ++ survivors) r.0 ≡ Some after_block.0
      new_there = ap (λ bs. block_in bs r.0) (whole_blocks size after survivors candidate.shaped kept_walked) ∙ found_left (blocks after) (young_blocks (length after) survivors) r.0 after_block.0 after_block.1

      self : paired all_pairs r.0 r.0 ≡ true
      self = any_left (λ p. (p.0 == r.0) && (p.1 == r.0)) (identity front) pairs (self_paired (blocks front) r.0 is.block is.found)

      blocks_alike : BlocksCorrespond all_pairs (Some is.block) (Some after_block.0)
      blocks_alike = subst (λ q. BlocksCorrespond all_pairs (Some is.block) q) new_there (subst (λ o. BlocksCorrespond all_pairs o (block_at (after ++ survivors) r.0)) old_there (paired_all Alike all_pairs r.0 r.0 self certified.objects))

      at_field : IsTrue (field_words_correspond is.block.header all_pairs (unwrap_or (slice_get is.block.fields r.1) 0) (unwrap_or (slice_get after_block.0.fields r.1) 0))
      at_field = zip_at (λ v w. IsTrue (field_words_correspond is.block.header all_pairs v w)) is.block.fields after_block.0.fields r.1 blocks_alike.1 is.within

      alike : words_correspond all_pairs (word_of_field front r) (word_of_field after r) ≡ true
      alike = grind (arith, common_steps, after_block, slice_get, at_field)

  pub back : MinorCertified (length front) young survivors (map (word_of_field front) remembered ++ roots) (map (word_of_field after) remembered ++ new_roots) pairs
  back = record {
    old_walked = standing.walked;
    new_walked = candidate.walked;
    objects = λ k d h. young_back (get_or pairs k d) (candidate.young k d h) (all_right Alike (identity front) pairs certified.objects k d h);
    rising = pairs_right (λ p q. p.1 < q.1) (identity front) pairs certified.rising;
    once = pairs_right (λ p q. p.0 ≢ q.0) (identity front) pairs certified.once;
    roots = zip_join (λ v w. IsTrue (words_correspond_above (length front) pairs v w)) (word_of_field front) (word_of_field after) remembered roots new_roots
        (All-weaker (IsPlainField front) _ remembered_back remembered candidate.fields)
        (zip_each _ _ roots new_roots words certified.roots);
  }
