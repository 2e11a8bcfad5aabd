-- What commands do to the words of a heap keeps it standing.
use Rattle.std.proofs.Common.{◌≡◌, ℕ, zero, suc, ◌+◌, ◌-◌, ◌<◌, ◌≤◌, true, List, [], ◌∷◌, ◌++◌, length, Some, Ok, is_some, slice_get, refl, ap, sym, ◌∙◌, subst, arith, length-append, length-set, append_assoc}
use Rattle.std.specs.Prelude.{IsOk, IsSome, slice_set}
use Rattle.std.proofs.lemmas.List.{length-replicate}
use Rattle.gc_graph.specs.Graph.{Ref}
use Rattle.gc_words.specs.Word.{word_of}
use Rattle.gc_words.specs.Layout.{field_place}
use Rattle.gc_words.specs.Spelling.{block_words}
use Rattle.gc_words.specs.Image.{Block, walk, block_in, block_at, field_in, field_at, fresh_block, set_block}
use Rattle.gc_words.specs.Space.{IsSpace, CanPlace}
use Rattle.gc_words.specs.Closed.{IsClosed, IsFieldWord}
use Rattle.gc_words.proofs.Public.{StandsIn, Walked, walk_placed, walk_field, BlockHasField, ok_is, stands_in, stands, StandsAt, field_written, closed_field, closed_root, closed_placed, placed_reference}
use Rattle.gc_words.specs.declared.header.Header.{Header}
use Rattle.gc_nursery.specs.Minor.{young_blocks, IsStanding, remember}
use Rattle.gc_nursery.proofs.Fronts.{whole_blocks, whole_shaped, not_old, young_above}
use Rattle.gc_nursery.proofs.Lists.{found_left, found_right}
use Rattle.gc_nursery.proofs.Complete.{complete_after}

set_left : (xs ys : List ℕ) (p w : ℕ) → p < length xs → slice_set (xs ++ ys) p w ≡ slice_set xs p w ++ ys
set_left [] ys p w h = absurd (omega arith)
set_left (x ∷ xs) ys zero w h = refl
set_left (x ∷ xs) ys (suc p) w h = ap (λ zs. x ∷ zs) (set_left xs ys p w (omega arith))

set_right : (xs ys : List ℕ) (p q w : ℕ) → p ≡ length xs + q → slice_set (xs ++ ys) p w ≡ xs ++ slice_set ys q w
set_right [] ys p q w e = ap (λ n. slice_set ys n w) (let same : p ≡ q = omega arith in same)
set_right (x ∷ xs) ys zero q w e = absurd (omega arith)
set_right (x ∷ xs) ys (suc p) q w e = ap (λ zs. x ∷ zs) (set_right xs ys p q w (omega arith))

get_below : (xs : List ℕ) (i x : ℕ) → slice_get xs i ≡ Some x → i < length xs
get_below [] i x e = absurd cc
get_below (y ∷ xs) zero x e = omega arith
get_below (y ∷ xs) (suc i) x e = (let l : i < length xs = get_below xs i x e in omega arith)

module _ (size : ℕ) (front young roots : List ℕ) (remembered : List (ℕ × ℕ)) (standing : IsStanding size front young roots remembered) where
  whole_space : IsSpace (record { size = size; words = front ++ young })
  whole_space = whole_shaped size front young standing.shaped standing.walked standing.fits

  walked_young : Walked 0 (length front) young (young_blocks (length front) young)
  walked_young = ok_is (walk true 0 (length front) young) standing.walked

  pub made : (h : Header) (place : ℕ) → CanPlace (record { size = size; words = front ++ young }) h
      → IsStanding size front (young ++ block_words 0 (fresh_block h)) (slice_set roots place (word_of (Ref (length (front ++ young))))) remembered
  made h place can = record {
    shaped = standing.shaped;
    walked = subst IsOk (sym walked) refl;
    fits = omega (arith, standing.fits, can.room, ap length assoc, length-append (front ++ young) (block_words 0 (fresh_block h)), length-replicate {A = ℕ} h.len 0);
    closed = subst (λ ws. IsClosed ws (slice_set roots place (word_of (Ref (length (front ++ young)))))) assoc
        (closed_root ((front ++ young) ++ block_words 0 (fresh_block h)) roots place (word_of (Ref (length (front ++ young))))
        (placed_reference (record { size = size; words = front ++ young }) h can)
        (closed_placed (record { size = size; words = front ++ young }) h can roots standing.closed));
    complete = standing.complete;
  }
    where
      assoc : (front ++ young) ++ block_words 0 (fresh_block h) ≡ front ++ (young ++ block_words 0 (fresh_block h))
      assoc = append_assoc front young (block_words 0 (fresh_block h))

      walked : walk true 0 (length front) (young ++ block_words 0 (fresh_block h)) ≡ Ok (young_blocks (length front) young ++ (length front + length young, fresh_block h) ∷ [])
      walked = walk_placed young 0 (length front) (young_blocks (length front) young) h 0 (fresh_block h).fields can.header (length-replicate h.len 0) (omega arith) walked_young

  pub old_field : (a i old w : ℕ) (b : Block) → block_at front a ≡ Some b → slice_get b.fields i ≡ Some old → IsFieldWord (front ++ young) b.header w
      → IsStanding size (slice_set front (field_place a i) w) young roots (remember (length front) old w a i remembered)
  old_field a i old w b found get is = record {
    shaped = (let s : IsSpace (record { size = size; words = slice_set front (field_place a i) w }) = (field_written (record { size = size; words = front }) a i w standing.shaped has_field).0 in s);
    walked = subst (λ n. IsOk (walk true 0 n young)) (sym as_long) standing.walked;
    fits = omega (arith, standing.fits, length-append front young, length-append (slice_set front (field_place a i) w) young, as_long);
    closed = subst (λ ws. IsClosed ws roots) (set_left front young (field_place a i) w inside)
        (closed_field (record { size = size; words = front ++ young }) a i w b roots whole_space (ap is_some (ap (λ o. field_in o i) there ∙ get)) there is standing.closed);
    complete = complete_after size front remembered a i old w b standing.shaped standing.complete found get;
  }
    where
      as_long : length (slice_set front (field_place a i) w) ≡ length front
      as_long = length-set front (field_place a i) w

      has_field : IsSome (field_at front a i)
      has_field = ap is_some (ap (λ o. field_in o i) found ∙ get)

      there : block_at (front ++ young) a ≡ Some b
      there = ap (λ bs. block_in bs a) (whole_blocks size front young standing.shaped standing.walked) ∙ found_left _ (young_blocks (length front) young) a b found

      inside : field_place a i < length front
      inside =
          let s : StandsIn front a b = stands_in front a b standing.shaped.walked found in
          omega (arith, s.fits, s.whole.fields, get_below b.fields i old get)

  pub young_field : (a i old w : ℕ) (b : Block) → block_in (young_blocks (length front) young) a ≡ Some b → slice_get b.fields i ≡ Some old → IsFieldWord (front ++ young) b.header w
      → IsStanding size front (slice_set young (field_place a i - length front) w) roots remembered
  young_field a i old w b found get is = record {
    shaped = standing.shaped;
    walked = subst IsOk (sym walked) refl;
    fits = omega (arith, standing.fits, length-append front young, length-append front (slice_set young (field_place a i - length front) w), length-set young (field_place a i - length front) w);
    closed = subst (λ ws. IsClosed ws roots) (set_right front young (field_place a i) (field_place a i - length front) w place)
        (closed_field (record { size = size; words = front ++ young }) a i w b roots whole_space (ap is_some (ap (λ o. field_in o i) there ∙ get)) there is standing.closed);
    complete = standing.complete;
  }
    where
      low : length front ≤ a
      low = young_above (length front) young a b standing.walked found

      place : field_place a i ≡ length front + (field_place a i - length front)
      place = (let l : length front ≤ a = low in omega arith)

      there : block_at (front ++ young) a ≡ Some b
      there = ap (λ bs. block_in bs a) (whole_blocks size front young standing.shaped standing.walked) ∙ found_right _ (young_blocks (length front) young) a (not_old size front a standing.shaped low) ∙ found

      has_field : BlockHasField (block_in (young_blocks (length front) young) a) i
      has_field = subst (λ o. BlockHasField o i) (sym found)
          (let s : StandsAt young (length front) a b = stands young 0 (length front) (young_blocks (length front) young) a b walked_young found in
          (let m : i < b.header.len = omega (arith, s.whole.fields, get_below b.fields i old get) in m))

      walked : Walked 0 (length front) (slice_set young (field_place a i - length front) w) (set_block (young_blocks (length front) young) a i w)
      walked = walk_field young 0 (length front) (young_blocks (length front) young) a i (field_place a i - length front) w (sym place) has_field walked_young
