-- The certificate of a minor collection, with each old object as its own replica, is a certificate of the whole heap.
use Rattle.std.proofs.lemmas.Grind.{common_steps}
use Rattle.std.proofs.Common.{◌≡◌, ◌≢◌, inl, inr, ℕ, ◌<◌, ◌≤◌, Bool, true, false, List, ◌++◌, length, Option, Some, None, is_some, slice_get, unwrap_or, refl, ap, sym, ◌∙◌, subst, arith}
use Rattle.std.specs.Prelude.{IsOk, IsTrue}
use Rattle.std.specs.List.{All, AllPairs, AllZip}
use Rattle.std.proofs.lemmas.Bool.{cases_Bool, eqb-true, eq-eqb, and_parts, or_cases, ltb-true, leb-true, leb-false}
use Rattle.std.proofs.lemmas.List.Elements.{All-weaker}
use Rattle.gc_graph.specs.Correspond.{paired}
use Rattle.gc_words.specs.Word.{words_correspond, field_words_correspond}
use Rattle.gc_words.specs.Image.{Block, walk, blocks, block_in, block_at, header_of, field_in, field_at}
use Rattle.gc_words.specs.Certificate.{BlocksCorrespond, Certified}
use Rattle.gc_words.specs.Closed.{IsRootWord, IsWordOfField, IsFieldWord, HasFieldWords}
use Rattle.gc_words.specs.declared.header.Header.{Header}
use Rattle.gc_words.proofs.Public.{stands_in, some_of, block_of_header}
use Rattle.gc_nursery.specs.Minor.{is_young, words_correspond_above, field_words_correspond_above, young_blocks, BlocksCorrespondAbove, word_of_field, whole, identity, IsStanding, IsMinor}
use Rattle.gc_nursery.proofs.Lists.{any_left, any_right, paired_all, all_zip_from, zip_weaker, zip_split, all_at, found_left, found_right, all_found, self_paired, all_selves, selves_rise, starts_found}
use Rattle.gc_nursery.proofs.Fronts.{whole_blocks, whole_shaped, old_below, not_old, young_above, old_rise}

-- ---- more pairs

module _ (size : ℕ) (front after young survivors roots new_roots : List ℕ) (remembered pairs : List (ℕ × ℕ)) (standing : IsStanding size front young roots remembered) (minor : IsMinor size front after young survivors roots new_roots remembered pairs) where
  abbrev all_pairs : List (ℕ × ℕ)
  all_pairs = identity front ++ pairs

  base : ℕ
  base = length front

  old_blocks : blocks (front ++ young) ≡ blocks front ++ young_blocks (length front) young
  old_blocks = whole_blocks size front young standing.shaped standing.walked

  new_blocks : blocks (after ++ survivors) ≡ blocks after ++ young_blocks (length front) survivors
  new_blocks = subst (λ n. blocks (after ++ survivors) ≡ blocks after ++ young_blocks n survivors) minor.rewritten.as_long
      (whole_blocks size after survivors minor.shaped (subst (λ n. IsOk (walk true 0 n survivors)) (sym minor.rewritten.as_long) minor.certified.new_walked))

  old_found : (a : ℕ) (b : Block) → block_at front a ≡ Some b → block_at (front ++ young) a ≡ Some b
  old_found a b e = ap (λ bs. block_in bs a) old_blocks ∙ found_left (blocks front) (young_blocks (length front) young) a b e

  after_found : (a : ℕ) (b : Block) → block_at after a ≡ Some b → block_at (after ++ survivors) a ≡ Some b
  after_found a b e = ap (λ bs. block_in bs a) new_blocks ∙ found_left (blocks after) (young_blocks (length front) survivors) a b e

  young_found : (a : ℕ) (b : Block) → block_in (young_blocks (length front) young) a ≡ Some b → block_at (front ++ young) a ≡ Some b
  young_found a b e =
      ap (λ bs. block_in bs a) old_blocks
      ∙ found_right (blocks front) (young_blocks (length front) young) a (not_old size front a standing.shaped (young_above (length front) young a b standing.walked e)) ∙ e

  kept_found : (a : ℕ) (b : Block) → block_in (young_blocks (length front) survivors) a ≡ Some b → block_at (after ++ survivors) a ≡ Some b
  kept_found a b e =
      (let high : length front ≤ a = young_above (length front) survivors a b minor.certified.new_walked e in
      let as_long : length after ≡ length front = minor.rewritten.as_long in
      ap (λ bs. block_in bs a) new_blocks
      ∙ found_right (blocks after) (young_blocks (length front) survivors) a (not_old size after a minor.shaped (omega arith)) ∙ e)

  -- ---- words

  word_itself : (v : ℕ) → IsRootWord (front ++ young) v → is_young (length front) v ≡ false → words_correspond all_pairs v v ≡ true
  word_itself v is old = grind (arith, common_steps, eq-eqb, any_left, self_paired, leb-false, old_blocks, found_right, young_above)

  word_above : (v w : ℕ) → IsRootWord (front ++ young) v → words_correspond_above (length front) pairs v w ≡ true → words_correspond all_pairs v w ≡ true
  word_above v w is e = grind (arith, common_steps, or_cases, and_parts, eqb-true, word_itself, leb-true, ltb-true, any_right)

  field_above : (h : Header) (v w : ℕ) → IsFieldWord (front ++ young) h v → field_words_correspond_above h (length front) pairs v w ≡ true → field_words_correspond h all_pairs v w ≡ true
  field_above h v w is e = grind (arith, common_steps, word_above)

  -- ---- young objects

  fields_closed : (a : ℕ) (b : Block) → block_at (front ++ young) a ≡ Some b → HasFieldWords (front ++ young) b
  fields_closed a b e = all_found (HasFieldWords (front ++ young)) (blocks (front ++ young)) a b standing.closed.fields e

  young_alike : (p : ℕ × ℕ) → BlocksCorrespondAbove (length front) pairs (block_in (young_blocks (length front) young) p.0) (block_in (young_blocks (length front) survivors) p.1)
      → BlocksCorrespond all_pairs (block_at (front ++ young) p.0) (block_at (after ++ survivors) p.1)
  young_alike p c = go (block_in (young_blocks (length front) young) p.0) refl (block_in (young_blocks (length front) survivors) p.1) refl c
    where
      go : (o : Option Block) → block_in (young_blocks (length front) young) p.0 ≡ o → (q : Option Block) → block_in (young_blocks (length front) survivors) p.1 ≡ q
          → BlocksCorrespondAbove (length front) pairs o q → BlocksCorrespond all_pairs (block_at (front ++ young) p.0) (block_at (after ++ survivors) p.1)
      go (Some a) e (Some b) f c =
          let there : block_at (front ++ young) p.0 ≡ Some a = young_found p.0 a e in
          let alike : BlocksCorrespond all_pairs (Some a) (Some b) = (c.0, zip_weaker (IsFieldWord (front ++ young) a.header) _ _ a.fields b.fields (fields_closed p.0 a there) (field_above a.header) c.1) in
          subst (λ o. BlocksCorrespond all_pairs o (block_at (after ++ survivors) p.1)) (sym there)
          (subst (λ q. BlocksCorrespond all_pairs (Some a) q) (sym (kept_found p.1 b f)) alike)
      go (Some a) e None f c = absurd c
      go None e q f c = absurd c

  -- ---- old objects

  root_parts : All (λ r. IsTrue (words_correspond_above (length front) pairs (word_of_field front r) (word_of_field after r))) remembered × AllZip (λ v w. IsTrue (words_correspond_above (length front) pairs v w)) roots new_roots
  root_parts = zip_split (λ v w. IsTrue (words_correspond_above (length front) pairs v w)) (word_of_field front) (word_of_field after) remembered roots new_roots minor.certified.roots

  remembered_field : (a i v w : ℕ) → paired remembered a i ≡ true → field_at front a i ≡ Some v → field_at after a i ≡ Some w → words_correspond_above (length front) pairs v w ≡ true
  remembered_field a i v w is e f =
      let there : words_correspond_above (length front) pairs (word_of_field front (a, i)) (word_of_field after (a, i)) ≡ true
      = paired_all (λ r. IsTrue (words_correspond_above (length front) pairs (word_of_field front r) (word_of_field after r))) remembered a i is root_parts.0 in
      subst (λ w. words_correspond_above (length front) pairs v w ≡ true) (word_is f) (subst (λ v. words_correspond_above (length front) pairs v (word_of_field after (a, i)) ≡ true) (word_is e) there)
    where
      word_is : {o : Option ℕ} {x : ℕ} → o ≡ Some x → unwrap_or o 0 ≡ x
      word_is e = ap (λ o. unwrap_or o 0) e

  old_field : (a i v w : ℕ) (b : Block) → block_at front a ≡ Some b → b.header.raw ≡ false → slice_get b.fields i ≡ Some v → field_at after a i ≡ Some w → words_correspond all_pairs v w ≡ true
  old_field a i v w b found plain e f =
      elim (cases_Bool (paired remembered a i)) [
        | inl is ↦ word_above v w closed (remembered_field a i v w is there f)
        | inr other ↦ (let same : v ≡ w = (let s : Some v ≡ Some w = sym there ∙ sym (minor.rewritten.beside a i other) ∙ f in cc) in
            subst (λ w. words_correspond all_pairs v w ≡ true) same (word_itself v closed (old_word other)))
      ]
    where
      there : field_at front a i ≡ Some v
      there = ap (λ o. field_in o i) found ∙ e

      closed : IsRootWord (front ++ young) v
      closed = subst (λ raw. IsWordOfField raw (front ++ young) v) plain (all_at (IsFieldWord (front ++ young) b.header) b.fields i v (fields_closed a b (old_found a b found)) e)

      old_word : paired remembered a i ≡ false → is_young (length front) v ≡ false
      old_word other = grind (arith, common_steps, cases_Bool)

  old_alike : (a : ℕ) (b : Block) → block_at front a ≡ Some b → BlocksCorrespond all_pairs (block_at (front ++ young) a) (block_at (after ++ survivors) a)
  old_alike a b found =
      subst (λ o. BlocksCorrespond all_pairs o (block_at (after ++ survivors) a)) (sym (old_found a b found))
      (subst (λ q. BlocksCorrespond all_pairs (Some b) q) (sym (after_found a after_block.0 after_block.1))
      (sym after_block.2, fields b.header.raw refl))
    where
      after_block : (c : Block) × (block_at after a ≡ Some c) × (c.header ≡ b.header)
      after_block = block_of_header after a b.header (minor.rewritten.headers a ∙ ap header_of found)

      as_many : length b.fields ≡ length after_block.0.fields
      as_many = (stands_in front a b standing.shaped.walked found).whole.fields ∙ ap (λ h. h.len) (sym after_block.2) ∙ sym (stands_in after a after_block.0 minor.shaped.walked after_block.1).whole.fields

      fields : (raw : Bool) → b.header.raw ≡ raw → AllZip (λ v w. IsTrue (field_words_correspond b.header all_pairs v w)) b.fields after_block.0.fields
      fields raw is = grind (arith, common_steps, all_zip_from, after_block, as_many, slice_get, eq-eqb, old_field)

  -- ---- the certificate

  is_in_front : (x : ℕ × Block) → IsTrue (is_some (block_in (blocks front) x.0)) → BlocksCorrespond all_pairs (block_at (front ++ young) x.0) (block_at (after ++ survivors) x.0)
  is_in_front x e = let b : (b : Block) × (block_at front x.0 ≡ Some b) = some_of (block_at front x.0) e in old_alike x.0 b.0 b.1

  objects : All (λ p. BlocksCorrespond all_pairs (block_at (front ++ young) p.0) (block_at (after ++ survivors) p.1)) all_pairs
  objects = all_selves (λ p. BlocksCorrespond all_pairs (block_at (front ++ young) p.0) (block_at (after ++ survivors) p.1)) (blocks front) pairs
      (All-weaker _ _ is_in_front (blocks front) (starts_found (blocks front)))
      (All-weaker _ _ young_alike pairs minor.certified.objects)

  -- the two places of a pair of young objects
  pair_high : (p : ℕ × ℕ) → BlocksCorrespondAbove (length front) pairs (block_in (young_blocks (length front) young) p.0) (block_in (young_blocks (length front) survivors) p.1) → (length front ≤ p.0) × (length front ≤ p.1)
  pair_high p c = grind (arith, common_steps, young_above)

  high : All (λ p. (length front ≤ p.0) × (length front ≤ p.1)) pairs
  high = All-weaker _ _ pair_high pairs minor.certified.objects

  front_low : (x : ℕ × Block) → IsTrue (is_some (block_in (blocks front) x.0)) → x.0 < length front
  front_low x e = let b : (b : Block) × (block_at front x.0 ≡ Some b) = some_of (block_at front x.0) e in old_below size front x.0 b.0 standing.shaped b.1

  abbrev Highs : ℕ × ℕ → Type 0
  Highs p = (length front ≤ p.0) × (length front ≤ p.1)

  rises_to : (x : ℕ × Block) → IsTrue (is_some (block_in (blocks front) x.0)) → All (λ (p : ℕ × ℕ). x.0 < p.1) pairs
  rises_to x e = All-weaker Highs (λ (p : ℕ × ℕ). x.0 < p.1) (λ p h. (let l : x.0 < length front = front_low x e in let m : length front ≤ p.1 = h.1 in omega arith)) pairs high

  differs_from : (x : ℕ × Block) → IsTrue (is_some (block_in (blocks front) x.0)) → All (λ (p : ℕ × ℕ). x.0 ≢ p.0) pairs
  differs_from x e = All-weaker Highs (λ (p : ℕ × ℕ). x.0 ≢ p.0) (λ p h same. (let l : x.0 < length front = front_low x e in let m : length front ≤ p.0 = h.0 in omega arith)) pairs high

  rising : AllPairs (λ p q. p.1 < q.1) all_pairs
  rising = selves_rise (λ p q. p.1 < q.1) 1 (blocks front) pairs (λ a b l. l) (old_rise size front standing.shaped)
      (All-weaker _ _ rises_to (blocks front) (starts_found (blocks front)))
      minor.certified.rising

  below_differs : (a b : ℕ) → a < b → a ≢ b
  below_differs a b l same = omega arith

  once : AllPairs (λ p q. p.0 ≢ q.0) all_pairs
  once = selves_rise (λ p q. p.0 ≢ q.0) 1 (blocks front) pairs below_differs (old_rise size front standing.shaped)
      (All-weaker _ _ differs_from (blocks front) (starts_found (blocks front)))
      minor.certified.once

  roots_alike : AllZip (λ v w. IsTrue (words_correspond all_pairs v w)) roots new_roots
  roots_alike = zip_weaker (IsRootWord (front ++ young)) _ _ roots new_roots standing.closed.roots word_above root_parts.1

  pub certified : Certified (whole size front young roots) (whole size after survivors new_roots) all_pairs
  certified = grind (arith, common_steps, whole_shaped, objects, rising, once, roots_alike)
