-- A write changes the object that it writes to, and no other.
use Rattle.std.proofs.lemmas.Grind.{common_steps}
use Rattle.std.proofs.Common.{◌≡◌, ℕ, suc, zero, ◌+◌, ◌<◌, ◌≤◌, cond, ◌==◌, List, [], ◌∷◌, ◌++◌, length, Option, Some, None, refl, ◌∙◌, ap, arith}
use Rattle.std.specs.Prelude.{slice_get, slice_set, IsSome}
use Rattle.std.proofs.lemmas.Bool.{eqb-true, eq-eqb, ne_eqb}
use Rattle.gc_words.specs.Image.{Block, fresh_block, blocks, block_in, block_at, field_in, field_at, with_field_word, set_block}
use Rattle.gc_words.specs.Layout.{field_place}
use Rattle.gc_words.specs.Space.{SpaceWords, IsSpace, end_of, CanPlace, with_block, with_object, with_word}
use Rattle.gc_words.specs.Internal.Walking.{StandsIn}
use Rattle.gc_words.specs.declared.header.Header.{Header}
use Rattle.gc_words.proofs.Starts.{stands_in}
use Rattle.gc_words.proofs.Writes.{CanPlaceBlock, FieldRead, field_read, block_placed, can_place_fresh, field_written}

-- ---- no object starts at the end

pub none_at_end : (s : SpaceWords) → IsSpace s → block_at s.words (end_of s) ≡ None
none_at_end s space = from (block_at s.words (end_of s)) refl
  where
    from : (o : Option Block) → block_at s.words (end_of s) ≡ o → o ≡ None
    from None e = refl
    from (Some b) e =
        absurd (let stands : StandsIn s.words (end_of s) b = stands_in s.words (end_of s) b space.walked e in
        let fits : length s.words + (b.header.len + 2) ≤ length s.words = stands.fits in omega arith)

-- ---- a placed object

at_push : (bs : List (ℕ × Block)) (a : ℕ) (b : Block) → block_in bs a ≡ None → block_in (bs ++ (a, b) ∷ []) a ≡ Some b
at_push [] a b none = ap (λ t. cond t (Some b) None) (eq-eqb a a refl)
at_push (entry ∷ bs) a b none = grind (arith, common_steps, at_push bs a b)

beside_push : (bs : List (ℕ × Block)) (a x : ℕ) (b : Block) → (a ≡ x → ⊥) → block_in (bs ++ (a, b) ∷ []) x ≡ block_in bs x
beside_push [] a x b other = ap (λ t. cond t (Some b) None) (ne_eqb a x other)
beside_push (entry ∷ bs) a x b other = ap (cond (entry.0 == x) (Some entry.1)) (beside_push bs a x b other)

pub block_there : (s : SpaceWords) (b : Block) → CanPlaceBlock s b → block_at (with_block s b).words (end_of s) ≡ Some b
block_there s b can = ap (λ bs. block_in bs (end_of s)) (block_placed s b can).1 ∙ at_push (blocks s.words) (end_of s) b (none_at_end s can.shaped)

block_beside : (s : SpaceWords) (b : Block) (x : ℕ) → CanPlaceBlock s b → (end_of s ≡ x → ⊥) → block_at (with_block s b).words x ≡ block_at s.words x
block_beside s b x can other = ap (λ bs. block_in bs x) (block_placed s b can).1 ∙ beside_push (blocks s.words) (end_of s) x b other

pub placed_block : (s : SpaceWords) (h : Header) → CanPlace s h → block_at (with_object s h).words (end_of s) ≡ Some (fresh_block h)
placed_block s h can = block_there s (fresh_block h) (can_place_fresh s h can)

pub placed_beside : (s : SpaceWords) (h : Header) (x : ℕ) → CanPlace s h → (end_of s ≡ x → ⊥) → block_at (with_object s h).words x ≡ block_at s.words x
placed_beside s h x can other = block_beside s (fresh_block h) x (can_place_fresh s h can) other

-- ---- a written field

at_set : (bs : List (ℕ × Block)) (a i w : ℕ) (b : Block) → block_in bs a ≡ Some b → block_in (set_block bs a i w) a ≡ Some (with_field_word b i w)
at_set [] a i w b found = absurd (let no : None ≡ Some b = found in cc)
at_set (entry ∷ bs) a i w b found = grind (arith, common_steps, at_set bs a i w b)

beside_set : (bs : List (ℕ × Block)) (a i w x : ℕ) → (a ≡ x → ⊥) → block_in (set_block bs a i w) x ≡ block_in bs x
beside_set [] a i w x other = refl
beside_set (entry ∷ bs) a i w x other = grind (arith, common_steps, ne_eqb, eqb-true, beside_set bs a i w x other)

pub field_block : (s : SpaceWords) (a i w : ℕ) (b : Block) → IsSpace s → IsSome (field_at s.words a i) → block_at s.words a ≡ Some b → block_at (with_word s (field_place a i) w).words a ≡ Some (with_field_word b i w)
field_block s a i w b space some found = ap (λ bs. block_in bs a) (field_written s a i w space some).1 ∙ at_set (blocks s.words) a i w b found

pub field_beside : (s : SpaceWords) (a i w x : ℕ) → IsSpace s → IsSome (field_at s.words a i) → (a ≡ x → ⊥) → block_at (with_word s (field_place a i) w).words x ≡ block_at s.words x
field_beside s a i w x space some other = ap (λ bs. block_in bs x) (field_written s a i w space some).1 ∙ beside_set (blocks s.words) a i w x other

-- the field holds the word
pub written_word : (s : SpaceWords) (a i w : ℕ) → IsSpace s → IsSome (field_at s.words a i) → field_at (with_word s (field_place a i) w).words a i ≡ Some w
written_word s a i w space some =
    let f : FieldRead s.words a i = field_read s.words a i space.walked some in
    let inside : i < length f.block.fields = (let n : length f.block.fields ≡ f.block.header.len = (stands_in s.words a f.block space.walked f.found).whole.fields in let small : i < f.block.header.len = f.has_field in omega arith) in
    ap (λ o. field_in o i) (field_block s a i w f.block space some f.found) ∙ get_set f.block.fields i w inside
  where
    get_set : (xs : List ℕ) (i w : ℕ) → i < length xs → slice_get (slice_set xs i w) i ≡ Some w
    get_set [] i w h = absurd (omega arith)
    get_set (x ∷ xs) zero w h = refl
    get_set (x ∷ xs) (suc i) w h = get_set xs i w (omega arith)
