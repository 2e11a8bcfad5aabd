-- What the calls of a space do to its words, and what they read there.
use Rattle.std.proofs.lemmas.Grind.{common_steps}
use Rattle.std.proofs.Common.{◌≡◌, ℕ, suc, ◌+◌, ◌-◌, ◌<◌, ◌≤◌, true, false, List, [], ◌∷◌, ◌++◌, length, get_or, drop, Option, Some, None, Ok, is_some, refl, sym, ◌∙◌, ap, subst, arith, length-append, length-set, length-take, length-drop}
use Rattle.std.specs.Prelude.{slice_index, slice_get, slice_set, IsOk, IsSome}
use Rattle.std.proofs.lemmas.List.{get_or-take, get_or-drop, length-replicate}
use Rattle.std.proofs.lemmas.Option.{slice_get-get_or, slice_get_within}
use Rattle.gc_words.specs.Word.{read_header, header_word}
use Rattle.gc_words.specs.Image.{Block, fresh_block, walk_words, HasShape, blocks, block_at, is_start, header_of, header_at, field_in, field_at, set_block}
use Rattle.gc_words.specs.Layout.{field_place, link_place}
use Rattle.gc_words.specs.Space.{SpaceWords, IsSpace, HasRoomFor, end_of, CanPlace, with_block, with_object, with_word}
use Rattle.gc_words.specs.Internal.Spelling.{IsBlock}
use Rattle.gc_words.specs.Internal.Walking.{StandsIn}
use Rattle.gc_words.specs.declared.header.Header.{Header}
use Rattle.gc_words.proofs.Walks.{walk_placed, walk_field, walk_link, BlockHasField}
use Rattle.gc_words.proofs.Starts.{stands_in, walked_blocks}

-- this object can be placed
pub record CanPlaceBlock (space : SpaceWords) (b : Block) : Type 0 where
  pub shaped : IsSpace space
  pub whole : IsBlock b
  pub room : HasRoomFor space b.header.len

pub some_of : {X : Type 0} (o : Option X) → is_some o ≡ true → (x : X) × (o ≡ Some x)
some_of o e = grind (arith, common_steps)

pub none_of : {X : Type 0} (o : Option X) → is_some o ≡ false → o ≡ None
none_of o e = grind (arith, common_steps)

-- ---- what is read

pub record HeaderRead (words : List ℕ) (a : ℕ) : Type 0 where
  pub header : Header
  pub word : read_header (slice_index words a) ≡ Some header
  pub found : header_at words a ≡ Some header
  pub within : a + 2 ≤ length words

pub header_read : (words : List ℕ) (a : ℕ) → IsOk (walk_words words) → is_start words a ≡ true → HeaderRead words a
header_read words a ok start =
    let b : (b : Block) × (block_at words a ≡ Some b) = some_of (block_at words a) start in
    let s : StandsIn words a b.0 = stands_in words a b.0 ok b.1 in
    record {
      header = b.0.header;
      word = s.header;
      found = ap header_of b.1;
      within = let f : a + (b.0.header.len + 2) ≤ length words = s.fits in omega arith;
    }

pub record FieldRead (words : List ℕ) (a i : ℕ) : Type 0 where
  pub block : Block
  pub found : block_at words a ≡ Some block
  pub has_field : i < block.header.len
  pub low : 1 ≤ a
  pub within : field_place a i < length words
  pub word : field_at words a i ≡ Some (slice_index words (field_place a i))

pub field_read : (words : List ℕ) (a i : ℕ) → IsOk (walk_words words) → IsSome (field_at words a i) → FieldRead words a i
field_read words a i ok some = read (block_at words a) refl some
  where
    read : (o : Option Block) → block_at words a ≡ o → IsSome (field_in o i) → FieldRead words a i
    read None e some = absurd (let no : false ≡ true = some in cc)
    read (Some b) e some =
        let s : StandsIn words a b = stands_in words a b ok e in
        let f : (w : ℕ) × (slice_get b.fields i ≡ Some w) = some_of (slice_get b.fields i) some in
        let fits : a + (b.header.len + 2) ≤ length words = s.fits in
        let all : length b.fields ≡ b.header.len = ap length s.fields ∙ omega (arith, length-take b.header.len (drop (a + 2) words), length-drop (a + 2) words) in
        let small : i < b.header.len = subst (λ n. i < n) all (slice_get_within b.fields i f.0 f.1) in
        let is : get_or b.fields i 0 ≡ slice_index words (field_place a i) = ap (λ xs. get_or xs i 0) s.fields ∙ get_or-take b.header.len (drop (a + 2) words) i 0 small ∙ get_or-drop (a + 2) words i 0 in
        record {
          block = b;
          found = e;
          has_field = small;
          low = s.low;
          within = omega arith;
          word = ap (λ o. field_in o i) e ∙ slice_get-get_or b.fields i 0 (subst (λ n. i < n) (sym all) small) ∙ ap Some is;
        }

-- ---- what is written

-- a space whose walk is known
pub space_of : (size : ℕ) (words : List ℕ) (bs : List (ℕ × Block)) → 1 ≤ length words → length words ≤ size → size ≤ 4294967295 → slice_index words 0 ≡ 0 → walk_words words ≡ Ok bs
    → IsSpace (record { size = size; words = words }) × (blocks words ≡ bs)
space_of size words bs low high bound reserved walked = grind (arith, common_steps)

pub block_placed : (s : SpaceWords) (b : Block) → CanPlaceBlock s b
    → IsSpace (with_block s b) × (blocks (with_block s b).words ≡ blocks s.words ++ (end_of s, b) ∷ [])
block_placed s b can = in_words s.words can.shaped can.room
  where
    h : Header
    h = b.header

    in_words : (words : List ℕ) → HasShape true s.size (length words) words → h.len + 2 ≤ s.size - length words
        → IsSpace (record { size = s.size; words = words ++ header_word h ∷ 0 ∷ b.fields }) × (blocks (words ++ header_word h ∷ 0 ∷ b.fields) ≡ blocks words ++ (length words, b) ∷ [])
    in_words [] shape room = absurd (let low : 1 ≤ 0 = shape.end_low in omega arith)
    in_words (w ∷ ws) shape room =
        let count : length b.fields ≡ h.len = (can.whole).fields in
        let walked : walk_words (w ∷ (ws ++ header_word h ∷ 0 ∷ b.fields)) ≡ Ok (blocks (w ∷ ws) ++ (1 + length ws, b) ∷ [])
        = walk_placed ws 0 1 (blocks (w ∷ ws)) h 0 b.fields (can.whole).header count (omega arith) (walked_blocks (w ∷ ws) shape.walked) in
        let two : suc (suc h.len) ≡ h.len + 2 = omega arith in
        let longer : length (ws ++ header_word h ∷ 0 ∷ b.fields) ≡ length ws + (h.len + 2)
        = length-append ws (header_word h ∷ 0 ∷ b.fields) ∙ ap (λ n. length ws + suc (suc n)) count ∙ ap (λ n. length ws + n) two in
        let high : suc (length ws) ≤ s.size = shape.end_high in
        let there : 1 + length ws ≡ suc (length ws) = omega arith in
        space_of s.size (w ∷ (ws ++ header_word h ∷ 0 ∷ b.fields)) _ (omega arith) (omega arith) shape.size_high shape.reserved
        (walked ∙ ap (λ n. Ok (blocks (w ∷ ws) ++ (n, b) ∷ [])) there)

-- a new object can be placed as a block
pub can_place_fresh : (s : SpaceWords) (h : Header) → CanPlace s h → CanPlaceBlock s (fresh_block h)
can_place_fresh s h can = record { shaped = can.shaped; whole = record { header = can.header; fields = length-replicate h.len 0 }; room = can.room }

pub placed : (s : SpaceWords) (h : Header) → CanPlace s h
    → IsSpace (with_object s h) × (blocks (with_object s h).words ≡ blocks s.words ++ (end_of s, fresh_block h) ∷ [])
placed s h can = block_placed s (fresh_block h) (can_place_fresh s h can)

pub field_written : (s : SpaceWords) (a i w : ℕ) → IsSpace s → IsSome (field_at s.words a i)
    → IsSpace (with_word s (field_place a i) w) × (blocks (with_word s (field_place a i) w).words ≡ set_block (blocks s.words) a i w)
field_written s a i w space some = in_words s.words space (field_read s.words a i space.walked some)
  where
    in_words : (words : List ℕ) → HasShape true s.size (length words) words → FieldRead words a i
        → IsSpace (record { size = s.size; words = slice_set words (field_place a i) w }) × (blocks (slice_set words (field_place a i) w) ≡ set_block (blocks words) a i w)
    in_words [] shape f = absurd (let low : 1 ≤ 0 = shape.end_low in omega arith)
    in_words (v ∷ ws) shape f =
        let place : suc (a + 1 + i) ≡ field_place a i = omega arith in
        let walked : walk_words (v ∷ slice_set ws (a + 1 + i) w) ≡ Ok (set_block (blocks (v ∷ ws)) a i w)
        = walk_field ws 0 1 (blocks (v ∷ ws)) a i (a + 1 + i) w (omega arith) (subst (λ o. BlockHasField o i) (sym f.found) f.has_field) (walked_blocks (v ∷ ws) shape.walked) in
        let same : length (slice_set ws (a + 1 + i) w) ≡ length ws = length-set ws (a + 1 + i) w in
        let high : suc (length ws) ≤ s.size = shape.end_high in
        subst (λ p. IsSpace (record { size = s.size; words = slice_set (v ∷ ws) p w }) × (blocks (slice_set (v ∷ ws) p w) ≡ set_block (blocks (v ∷ ws)) a i w)) place
        (space_of s.size (v ∷ slice_set ws (a + 1 + i) w) _ (omega arith) (omega arith) shape.size_high shape.reserved walked)

pub link_written : (s : SpaceWords) (a w : ℕ) → IsSpace s → is_start s.words a ≡ true
    → IsSpace (with_word s (link_place a) w) × (blocks (with_word s (link_place a) w).words ≡ blocks s.words)
link_written s a w space start = grind (arith, common_steps, walk_link, walked_blocks, space_of)
