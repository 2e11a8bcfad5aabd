-- The heap after a minor collection stands as before.
use Rattle.std.proofs.lemmas.Grind.{common_steps}
use Rattle.std.proofs.Common.{◌≡◌, ℕ, ◌<◌, ◌≤◌, true, ◌&&◌, ◌==◌, List, [], ◌++◌, length, Option, Some, None, refl, ap, sym, ◌∙◌, subst, arith, append-nil, ◌∷◌}
use Rattle.std.specs.Prelude.{replicate, IsOk}
use Rattle.std.specs.List.{All}
use Rattle.std.proofs.lemmas.Bool.{eqb-true, leb-true}
use Rattle.std.proofs.lemmas.List.Elements.{All-weaker}
use Rattle.gc_graph.specs.Graph.{Value, Nil, Num, Ref}
use Rattle.gc_graph.specs.Correspond.{paired, correspond}
use Rattle.gc_words.specs.Word.{value_of, words_correspond, field_words_correspond}
use Rattle.gc_words.specs.Image.{Image, Block, walk, blocks, block_in, block_at, header_of, HasShape, is_start}
use Rattle.gc_words.specs.Space.{IsSpace}
use Rattle.gc_words.specs.Certificate.{BlocksCorrespond, Certified}
use Rattle.gc_words.specs.Closed.{IsClosed, RefersToStart, IsRootWord, IsWordOfField, IsFieldWord, HasFieldWords}
use Rattle.gc_words.specs.declared.header.Header.{Header}
use Rattle.gc_words.proofs.Public.{block_of_header, some_of, closed_empty}
use Rattle.gc_nursery.specs.Minor.{lies_above, young_blocks, IsComplete, whole, identity, IsStanding, IsMinor, AreReplicas}
use Rattle.gc_check.proofs.Public.{pair_of_second}
use Rattle.gc_nursery.proofs.Lists.{any_left, any_right, paired_all, zip_right, all_at, all_found, self_paired, found_right, entries_found}
use Rattle.gc_nursery.proofs.Fronts.{whole_blocks, whole_shaped, old_below, old_rise}
use Rattle.gc_nursery.proofs.Whole.{certified}

-- ---- if every new object is a replica, a certificate keeps an image closed

module _ (old new : Image) (pairs : List (ℕ × ℕ)) (holds : Certified old new pairs) (closed : IsClosed old.words old.roots) where
  right_start : (p : ℕ × ℕ) → BlocksCorrespond pairs (block_at old.words p.0) (block_at new.words p.1) → is_start new.words p.1 ≡ true
  right_start p c = grind (arith, common_steps)

  right_refers : (v w : Value) → correspond pairs v w ≡ true → RefersToStart new.words w
  right_refers v Nil e = tt
  right_refers v (Num n) e = tt
  right_refers Nil (Ref b) e = cc
  right_refers (Num n) (Ref b) e = cc
  right_refers (Ref a) (Ref b) e = right_start (a, b) (paired_all (λ p. BlocksCorrespond pairs (block_at old.words p.0) (block_at new.words p.1)) pairs a b e holds.objects)

  right_word : (v w : ℕ) → words_correspond pairs v w ≡ true → IsRootWord new.words w
  right_word v w e = grind (arith, common_steps, right_refers)

  right_field : (h : Header) (v w : ℕ) → IsFieldWord old.words h v → field_words_correspond h pairs v w ≡ true → IsFieldWord new.words h w
  right_field h v w is e = grind (arith, common_steps, eqb-true, right_word)

  right_fields : (p : ℕ × ℕ) (b : Block) → block_at new.words p.1 ≡ Some b → BlocksCorrespond pairs (block_at old.words p.0) (block_at new.words p.1) → HasFieldWords new.words b
  right_fields p b found c = go (block_at old.words p.0) refl (block_at new.words p.1) found c
    where
      go : (o : Option Block) → block_at old.words p.0 ≡ o → (q : Option Block) → q ≡ Some b → BlocksCorrespond pairs o q → HasFieldWords new.words b
      go (Some a) e (Some d) f c =
          let same : d ≡ b = cc in
          subst (HasFieldWords new.words) same
          (subst (λ h. All (IsFieldWord new.words h) d.fields) c.0
          (zip_right (IsFieldWord old.words a.header) (IsFieldWord new.words a.header) _ a.fields d.fields (all_found (HasFieldWords old.words) (blocks old.words) p.0 a closed.fields e) (right_field a.header) c.1))
      go (Some a) e None f c = absurd c
      go None e q f c = absurd c

  replicas_are_closed : IsSpace (record { size = new.size; words = new.words }) → ((b : ℕ) (block : Block) → block_at new.words b ≡ Some block → (a : ℕ) × (paired pairs a b ≡ true)) → IsClosed new.words new.roots
  replicas_are_closed shaped each = record {
    fields = All-weaker (λ (x : ℕ × Block). block_at new.words x.0 ≡ Some x.1) (λ (x : ℕ × Block). HasFieldWords new.words x.1) entry_fields (blocks new.words) (entries_found 1 (blocks new.words) (old_rise new.size new.words shaped));
    roots = zip_right (IsRootWord old.words) (IsRootWord new.words) _ old.roots new.roots closed.roots (λ v w is e. right_word v w e) holds.roots;
  }
    where
      entry_fields : (x : ℕ × Block) → block_at new.words x.0 ≡ Some x.1 → HasFieldWords new.words x.1
      entry_fields x found =
          let partner : (a : ℕ) × (paired pairs a x.0 ≡ true) = each x.0 x.1 found in
          right_fields (partner.0, x.0) x.1 found (paired_all (λ p. BlocksCorrespond pairs (block_at old.words p.0) (block_at new.words p.1)) pairs partner.0 x.0 partner.1 holds.objects)

-- ---- no word of a closed heap refers to its end or behind it

none_young : (size : ℕ) (words : List ℕ) (v : Value) → IsSpace (record { size = size; words = words }) → RefersToStart words v → lies_above (length words) v ≡ true → ⊥
none_young size words Nil shaped start e = cc
none_young size words (Num n) shaped start e = cc
none_young size words (Ref a) shaped start e =
    let b : (b : Block) × (block_at words a ≡ Some b) = some_of (block_at words a) start in
    let low : a < length words = old_below size words a b.0 shaped b.1 in
    let high : length words ≤ a = leb-true (length words) a e in
    omega arith

closed_is_complete : (size : ℕ) (words roots : List ℕ) → IsSpace (record { size = size; words = words }) → IsClosed words roots → IsComplete words []
closed_is_complete size words roots shaped closed = record {
  each = λ a i w b found plain e young. absurd (
      let is : IsFieldWord words b.header w = all_at (IsFieldWord words b.header) b.fields i w (all_found (HasFieldWords words) (blocks words) a b closed.fields found) e in
      let root : IsRootWord words w = subst (λ raw. IsWordOfField raw words w) plain is in
      none_young size words (value_of w) shaped root.start young);
}

-- ---- the heap after a minor collection

module _ (size : ℕ) (front after young survivors roots new_roots : List ℕ) (remembered pairs : List (ℕ × ℕ)) (standing : IsStanding size front young roots remembered) (minor : IsMinor size front after young survivors roots new_roots remembered pairs) (all : AreReplicas (length front) survivors pairs) where
  kept_walked : IsOk (walk true 0 (length after) survivors)
  kept_walked = subst (λ n. IsOk (walk true 0 n survivors)) (sym minor.rewritten.as_long) minor.certified.new_walked

  each_paired : (b : ℕ) (block : Block) → block_at (after ++ survivors) b ≡ Some block → (a : ℕ) × (paired (identity front ++ pairs) a b ≡ true)
  each_paired b block found = go (block_at after b) refl
    where
      both : blocks (after ++ survivors) ≡ blocks after ++ young_blocks (length after) survivors
      both = whole_blocks size after survivors minor.shaped kept_walked

      go : (o : Option Block) → block_at after b ≡ o → (a : ℕ) × (paired (identity front ++ pairs) a b ≡ true)
      go (Some c) e =
          let there : (d : Block) × (block_at front b ≡ Some d) × (d.header ≡ c.header) = block_of_header front b c.header (sym (minor.rewritten.headers b) ∙ ap header_of e) in
          (b, any_left (λ p. (p.0 == b) && (p.1 == b)) (identity front) pairs (self_paired (blocks front) b there.0 there.1))
      go None e =
          let young_there : block_in (young_blocks (length after) survivors) b ≡ Some block = sym (found_right (blocks after) (young_blocks (length after) survivors) b e) ∙ sym (ap (λ bs. block_in bs b) both) ∙ found in
          let right : (a : ℕ) × (paired pairs a b ≡ true) = pair_of_second pairs b (all b block (subst (λ n. block_in (young_blocks n survivors) b ≡ Some block) minor.rewritten.as_long young_there)) in
          (right.0, any_right (λ p. (p.0 == right.0) && (p.1 == b)) (identity front) pairs right.1)

  shaped_after : HasShape true size (length (after ++ survivors)) (after ++ survivors)
  shaped_after = whole_shaped size after survivors minor.shaped kept_walked minor.fits

  closed_after : IsClosed (after ++ survivors) new_roots
  closed_after = replicas_are_closed (whole size front young roots) (whole size after survivors new_roots) (identity front ++ pairs)
      (certified size front after young survivors roots new_roots remembered pairs standing minor) standing.closed shaped_after each_paired

  pub stands : IsStanding size (after ++ survivors) [] new_roots []
  stands = record {
    shaped = shaped_after;
    walked = refl;
    fits = subst (λ (ws : List ℕ). length ws ≤ size) (sym (append-nil (after ++ survivors))) minor.fits;
    closed = subst (λ (ws : List ℕ). IsClosed ws new_roots) (sym (append-nil (after ++ survivors))) closed_after;
    complete = closed_is_complete size (after ++ survivors) new_roots shaped_after closed_after;
  }

-- ---- every young object becomes old where it lies

pub in_place : (size : ℕ) (front young roots : List ℕ) (remembered : List (ℕ × ℕ)) → IsStanding size front young roots remembered → IsStanding size (front ++ young) [] roots []
in_place size front young roots remembered standing = record {
  shaped = shaped;
  walked = refl;
  fits = subst (λ (ws : List ℕ). length ws ≤ size) (sym (append-nil (front ++ young))) standing.fits;
  closed = subst (λ (ws : List ℕ). IsClosed ws roots) (sym (append-nil (front ++ young))) standing.closed;
  complete = closed_is_complete size (front ++ young) roots shaped standing.closed;
}
  where
    shaped : HasShape true size (length (front ++ young)) (front ++ young)
    shaped = whole_shaped size front young standing.shaped standing.walked standing.fits

-- ---- a heap that was just opened

pub opened : (size count : ℕ) → 1 ≤ size → size ≤ 4294967295 → IsStanding size (0 ∷ []) [] (replicate count 0) []
opened size count low high = grind (arith, common_steps, closed_empty, closed_is_complete)
