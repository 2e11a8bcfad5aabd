-- Links after a write, which changes no other word.
use Rattle.std.proofs.lemmas.Grind.{common_steps}
use Rattle.std.proofs.Common.{◌≡◌, ℕ, ◌+◌, ◌<◌, ◌≤◌, true, false, List, [], ◌∷◌, length, Some, None, is_some, inl, inr, arith}
use Rattle.std.specs.Prelude.{IsSome}
use Rattle.std.proofs.lemmas.Bool.{eqb-true, cases_Bool, cases_lt}
use Rattle.std.proofs.lemmas.List.{get_or_append_left, get_or-append-add, get_or-set_same, get_or-set_other}
use Rattle.gc_words.specs.Image.{Block, blocks, block_in, block_at, is_start, field_at}
use Rattle.gc_words.specs.Spelling.{block_words, link_at}
use Rattle.gc_words.specs.Internal.Spelling.{LaidOut}
use Rattle.gc_words.specs.Layout.{field_place, link_place}
use Rattle.gc_words.specs.Space.{SpaceWords, IsSpace, end_of, with_block, with_word, without_links}
use Rattle.gc_words.proofs.Starts.{stands_in}
use Rattle.gc_words.proofs.Writes.{FieldRead, field_read, some_of}
use Rattle.gc_words.proofs.Spelled.{laid_out_words, link_spelled}

-- ---- objects do not overlap

-- no object starts before the first one
not_before : (entries : List (ℕ × Block)) (at x : ℕ) → LaidOut at entries → is_some (block_in entries x) ≡ true → at ≤ x
not_before [] at x laid e = absurd (let no : false ≡ true = e in cc)
not_before (entry ∷ rest) at x laid e = grind (arith, common_steps, cases_Bool, eqb-true, is_some, not_before rest (at + (entry.1.header.len + 2)) x)

-- the greater of two starts lies after the other's object
pub objects_apart : (entries : List (ℕ × Block)) (at a x : ℕ) (b : Block) → LaidOut at entries → block_in entries a ≡ Some b → is_some (block_in entries x) ≡ true → a < x → a + (b.header.len + 2) ≤ x
objects_apart [] at a x b laid found start less = absurd (let no : None ≡ Some b = found in cc)
objects_apart (entry ∷ rest) at a x b laid found start less = grind (arith, common_steps, cases_Bool, eqb-true, not_before rest (at + (entry.1.header.len + 2)) a, not_before rest (at + (entry.1.header.len + 2)) x, objects_apart rest (at + (entry.1.header.len + 2)) a x b)

link_within : (s : SpaceWords) (x : ℕ) → IsSpace s → is_start s.words x ≡ true → x + 1 < length s.words
link_within s x space start =
    let b : (b : Block) × (block_at s.words x ≡ Some b) = some_of (block_at s.words x) start in
    let fits : x + (b.0.header.len + 2) ≤ length s.words = (stands_in s.words x b.0 space.walked b.1).fits in omega arith

-- ---- a placed object

pub link_placed : (s : SpaceWords) (b : Block) → link_at (with_block s b).words (end_of s) ≡ 0
link_placed s b = get_or-append-add s.words (block_words 0 b) 1 0

pub link_placed_beside : (s : SpaceWords) (b : Block) (x : ℕ) → IsSpace s → is_start s.words x ≡ true → link_at (with_block s b).words x ≡ link_at s.words x
link_placed_beside s b x space start = get_or_append_left s.words (block_words 0 b) 0 (x + 1) (link_within s x space start)

-- ---- a written field

pub link_beside_field : (s : SpaceWords) (a i w x : ℕ) → IsSpace s → IsSome (field_at s.words a i) → is_start s.words x ≡ true → link_at (with_word s (field_place a i) w).words x ≡ link_at s.words x
link_beside_field s a i w x space some start =
    let f : FieldRead s.words a i = field_read s.words a i space.walked some in
    let small : i < f.block.header.len = f.has_field in
    let differs : x + 1 ≡ field_place a i → ⊥ = λ same. elim (cases_lt a x) [
      | inl less ↦ (let past : a + (f.block.header.len + 2) ≤ x = objects_apart (blocks s.words) 1 a x f.block (laid_out_words s.words space.walked) f.found start less in omega arith)
      | inr more ↦ omega arith
    ] in
    get_or-set_other s.words (field_place a i) (x + 1) w 0 differs

-- ---- a written link

pub link_written_there : (s : SpaceWords) (a w : ℕ) → IsSpace s → is_start s.words a ≡ true → link_at (with_word s (link_place a) w).words a ≡ w
link_written_there s a w space start = get_or-set_same s.words (a + 1) w 0 (link_within s a space start)

pub link_written_beside : (s : SpaceWords) (a w x : ℕ) → (a ≡ x → ⊥) → link_at (with_word s (link_place a) w).words x ≡ link_at s.words x
link_written_beside s a w x other = get_or-set_other s.words (a + 1) (x + 1) w 0 (λ same. other (omega arith))

-- ---- cleared links

pub link_cleared : (s : SpaceWords) (x : ℕ) → IsSpace s → is_start s.words x ≡ true → link_at (without_links s).words x ≡ 0
link_cleared s x space start = grind (arith, some_of, link_spelled, laid_out_words)
