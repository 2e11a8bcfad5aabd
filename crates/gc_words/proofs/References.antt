-- Images in which every reference refers to a start.
use Rattle.std.proofs.lemmas.Grind.{common_steps}
use Rattle.std.proofs.Common.{◌≡◌, ℕ, suc, zero, true, false, cond, ◌==◌, List, [], ◌∷◌, ◌++◌, replicate, Some, None, is_some, refl, sym, ◌∙◌, ap, subst, arith}
use Rattle.std.specs.Prelude.{slice_get, slice_set, IsSome}
use Rattle.std.specs.List.{All}
use Rattle.std.proofs.lemmas.Bool.{eq-eqb}
use Rattle.std.proofs.lemmas.List.Elements.{All-nil, All-cons, All-head, All-tail, All-replicate, All-set, All-weaker}
use Rattle.gc_graph.specs.Graph.{Value, Ref}
use Rattle.gc_words.specs.Word.{HasAddress, word_of}
use Rattle.gc_words.specs.Image.{Block, fresh_block, blocks, block_in, block_at, field_in, field_at, is_start, with_field_word, set_block}
use Rattle.gc_words.specs.Layout.{field_place}
use Rattle.gc_words.specs.Space.{SpaceWords, IsSpace, empty_space, end_of, CanPlace, with_object, with_word}
use Rattle.gc_words.specs.Closed.{RefersToStart, IsRootWord, IsFieldWord, HasFieldWords, IsClosed}
use Rattle.gc_words.specs.declared.header.Header.{Header}
use Rattle.gc_words.proofs.Writes.{placed, field_written}
use Rattle.gc_words.proofs.Graphs.{meaning_back}

-- ---- the words of values

value_refers : (words : List ℕ) (v : Value) → HasAddress v → RefersToStart words v → IsRootWord words (word_of v)
value_refers words v has refers = grind (arith, common_steps, meaning_back)

-- ---- words keep their meaning while starts stay

abbrev KeepsStarts : List ℕ → List ℕ → Type 0
KeepsStarts words others = (a : ℕ) → is_start words a ≡ true → is_start others a ≡ true

kept_field : (words others : List ℕ) → KeepsStarts words others → (h : Header) (w : ℕ) → IsFieldWord words h w → IsFieldWord others h w
kept_field words others keeps h w is = grind (arith, common_steps)

abbrev Has : List ℕ → ℕ × Block → Type 0
Has words entry = HasFieldWords words entry.1

kept_blocks : (words others : List ℕ) → KeepsStarts words others → (bs : List (ℕ × Block)) → All (Has words) bs → All (Has others) bs
kept_blocks words others keeps bs all = grind (arith, common_steps, All-weaker, kept_field)

kept_roots : (words others roots : List ℕ) → KeepsStarts words others → All (IsRootWord words) roots → All (IsRootWord others) roots
kept_roots words others roots keeps all = grind (arith, common_steps, All-weaker)

-- ---- a placed object

start_push : (bs : List (ℕ × Block)) (x : ℕ × Block) (a : ℕ) → is_some (block_in bs a) ≡ true → is_some (block_in (bs ++ x ∷ []) a) ≡ true
start_push [] x a e = absurd (let no : false ≡ true = e in cc)
start_push (entry ∷ bs) x a e = grind (arith, common_steps, is_some, start_push bs x a)

start_last : (bs : List (ℕ × Block)) (a : ℕ) (b : Block) → is_some (block_in (bs ++ (a, b) ∷ []) a) ≡ true
start_last [] a b = ap (λ t. is_some (cond t (Some b) None)) (eq-eqb a a refl)
start_last (entry ∷ bs) a b = grind (arith, common_steps, eq-eqb, start_last bs a b)

module _ (s : SpaceWords) (h : Header) (can : CanPlace s h) where
  abbrev after : List ℕ
  after = (with_object s h).words

  objects_after : blocks after ≡ blocks s.words ++ (end_of s, fresh_block h) ∷ []
  objects_after = (placed s h can).1

  pub closed_placed : (roots : List ℕ) → IsClosed s.words roots → IsClosed after roots
  closed_placed roots closed = grind (arith, common_steps, objects_after, kept_blocks, is_some, start_push, kept_roots)

  pub placed_reference : IsRootWord after (word_of (Ref (end_of s)))
  placed_reference = grind (arith, common_steps, value_refers, objects_after, start_last)

-- ---- a written field

start_set : (bs : List (ℕ × Block)) (a i w x : ℕ) → is_some (block_in (set_block bs a i w) x) ≡ is_some (block_in bs x)
start_set [] a i w x = refl
start_set (entry ∷ bs) a i w x = grind (arith, common_steps, start_set bs a i w x)

set_has : (words : List ℕ) (b : Block) (i w : ℕ) → IsFieldWord words b.header w → HasFieldWords words b → HasFieldWords words (with_field_word b i w)
set_has words b i w is has = All-set (IsFieldWord words b.header) b.fields i w is has

blocks_have : (words : List ℕ) (bs : List (ℕ × Block)) (a i w : ℕ) (b : Block) → block_in bs a ≡ Some b → IsFieldWord words b.header w → All (Has words) bs → All (Has words) (set_block bs a i w)
blocks_have words [] a i w b e is all = All-nil (Has words)
blocks_have words (entry ∷ bs) a i w b e is all =
    elim (entry.0 == a) as (λ t. cond t (Some entry.1) (block_in bs a) ≡ Some b → All (Has words) (cond t ((entry.0, with_field_word entry.1 i w) ∷ bs) (entry ∷ set_block bs a i w))) [
      | true ↦ λ e. (let same : b ≡ entry.1 = cc in
          All-cons (Has words) (entry.0, with_field_word entry.1 i w) bs
          (set_has words entry.1 i w (subst (λ (b : Block). IsFieldWord words b.header w) same is) (All-head (Has words) entry bs all)) (All-tail (Has words) entry bs all))
      | false ↦ λ e. All-cons (Has words) entry (set_block bs a i w) (All-head (Has words) entry bs all) (blocks_have words bs a i w b e is (All-tail (Has words) entry bs all))
    ] e

pub closed_field : (s : SpaceWords) (a i w : ℕ) (b : Block) (roots : List ℕ) → IsSpace s → IsSome (field_at s.words a i) → block_at s.words a ≡ Some b → IsFieldWord s.words b.header w
    → IsClosed s.words roots → IsClosed (with_word s (field_place a i) w).words roots
closed_field s a i w b roots space some found is closed =
    let after : List ℕ = slice_set s.words (field_place a i) w in
    let objects : blocks after ≡ set_block (blocks s.words) a i w = (field_written s a i w space some).1 in
    let keeps : KeepsStarts s.words after = λ x start. ap (λ bs. is_some (block_in bs x)) objects ∙ start_set (blocks s.words) a i w x ∙ start in
    record {
      fields = subst (All (Has after)) (sym objects) (kept_blocks s.words after keeps (set_block (blocks s.words) a i w) (blocks_have s.words (blocks s.words) a i w b found is closed.fields));
      roots = kept_roots s.words after roots keeps closed.roots;
    }

-- ---- the same objects, and roots

pub closed_objects : (words others roots : List ℕ) → blocks others ≡ blocks words → IsClosed words roots → IsClosed others roots
closed_objects words others roots same closed = grind (arith, common_steps, kept_blocks, kept_roots)

pub closed_root : (words roots : List ℕ) (place w : ℕ) → IsRootWord words w → IsClosed words roots → IsClosed words (slice_set roots place w)
closed_root words roots place w is closed = record { fields = closed.fields; roots = All-set (IsRootWord words) roots place w is closed.roots }

pub closed_empty : (size count : ℕ) → IsClosed (empty_space size).words (replicate count 0)
closed_empty size count = record { fields = All-nil (Has (0 ∷ [])); roots = All-replicate (IsRootWord (0 ∷ [])) count 0 (record { value = refl; start = tt }) }

-- ---- every word that is read refers to a start or to nothing

found_has : (words : List ℕ) (bs : List (ℕ × Block)) (a : ℕ) (b : Block) → block_in bs a ≡ Some b → All (Has words) bs → HasFieldWords words b
found_has words [] a b e all = absurd (let no : None ≡ Some b = e in cc)
found_has words (entry ∷ bs) a b e all =
    elim (entry.0 == a) as (λ t. cond t (Some entry.1) (block_in bs a) ≡ Some b → HasFieldWords words b) [
      | true ↦ λ e. (let same : entry.1 ≡ b = cc in subst (HasFieldWords words) same (All-head (Has words) entry bs all))
      | false ↦ λ e. found_has words bs a b e (All-tail (Has words) entry bs all)
    ] e

listed : (P : ℕ → Type 0) (ws : List ℕ) (i w : ℕ) → slice_get ws i ≡ Some w → All P ws → P w
listed P [] i w e all = absurd (let no : None ≡ Some w = e in cc)
listed P (v ∷ ws) zero w e all = (let same : v ≡ w = cc in subst P same (All-head P v ws all))
listed P (v ∷ ws) (suc i) w e all = listed P ws i w e (All-tail P v ws all)

pub closed_field_read : (words roots : List ℕ) (a i w : ℕ) (b : Block) → IsClosed words roots → block_at words a ≡ Some b → field_at words a i ≡ Some w → IsFieldWord words b.header w
closed_field_read words roots a i w b closed found read =
    listed (IsFieldWord words b.header) b.fields i w (sym (ap (λ o. field_in o i) found) ∙ read) (found_has words (blocks words) a b found closed.fields)

pub closed_root_read : (words roots : List ℕ) (place w : ℕ) → IsClosed words roots → slice_get roots place ≡ Some w → IsRootWord words w
closed_root_read words roots place w closed read = listed (IsRootWord words) roots place w read closed.roots
