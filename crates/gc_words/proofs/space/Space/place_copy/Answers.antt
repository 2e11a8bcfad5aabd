-- A header word, a 0 for the link and the other object's field words, put at the end, are the space with its copy.
use Rattle.std.proofs.lemmas.Grind.{common_steps}
use Rattle.std.proofs.Common.{◌≡◌, ℕ, ◌≤◌, ◌∷◌, ◌++◌, [], List, length, Some, ap, is_ok, arith, append_assoc}
use Rattle.std.specs.Prelude.{IsSome}
use Rattle.gc_words.specs.Word.{header_word}
use Rattle.gc_words.specs.Image.{Block, header_at, header_of, block_at}
use Rattle.gc_words.specs.Internal.Spelling.{IsBlock}
use Rattle.gc_words.specs.Space.{SpaceWords, IsSpace, HasRoomFor, with_block}
use Rattle.gc_words.proofs.Starts.{stands_in}
use Rattle.gc_words.proofs.Writes.{some_of, block_placed}
use Rattle.gc_words.proofs.space.Space.place_copy.Goals as goal

-- the space then has the copy
pub record Copies (s t : SpaceWords) (b : Block) : Type 0 where
  pub space : IsSpace s
  pub words : s ≡ with_block t b

copied : (s t : SpaceWords) (b : Block) (new : List ℕ) → s ≡ t → IsSpace s → IsBlock b → HasRoomFor t b.header.len → new ≡ ((s.words ++ header_word b.header ∷ []) ++ 0 ∷ []) ++ b.fields → Copies (record { size = s.size; words = new }) t b
copied s t b new same space whole room made = grind (arith, common_steps, made, append_assoc, block_placed)

-- the object that is copied, with facts about it
pub record Copied (s : SpaceWords) (a : ℕ) : Type 0 where
  pub block : Block
  pub found : block_at s.words a ≡ Some block
  pub whole : IsBlock block
  pub header : header_at s.words a ≡ Some block.header

copied_object : (s : SpaceWords) (a : ℕ) → IsSpace s → IsSome (block_at s.words a) → Copied s a
copied_object s a space start =
    let b : (b : Block) × (block_at s.words a ≡ Some b) = some_of (block_at s.words a) start in
    record { block = b.0; found = b.1; whole = (stands_in s.words a b.0 space.walked b.1).whole; header = ap header_of b.1 }

pub unwrap-requires : goal.unwrap-requires
unwrap-requires c =
    let o : Copied c.args.from.now c.args.at.0 = copied_object c.args.from.now c.args.at.0 c.fields.ensures.shaped c.requires.start in
    let room : HasRoomFor c.args.self.now o.block.header.len = c.requires.room o.block.header o.header in
    let count : length c.fields.result.now ≡ length o.block.fields = ap length (c.fields.ensures.value o.block o.found) in
    let same : length c.self.inside.words.items ≡ length c.args.self.now.words = ap (λ (s : SpaceWords). length s.words) c.self.view_is in
    let size : c.self.inside.size ≡ c.args.self.now.size = ap (λ (s : SpaceWords). s.size) c.self.view_is in
    let low : 1 ≤ length c.self.inside.words.items = (c.self.invariant.0).end_low in
    let high : length c.self.inside.words.items ≤ c.self.inside.size = (c.self.invariant.0).end_high in
    c.extend_from_slice.ensures.succeeds (omega (arith, room, count, (o.whole).fields, same, size, low, high, c.self.invariant.1, c.self.inside.words.ok.0, c.push_reserved.ensures.len, c.push_reserved-2.ensures.len, c.push_reserved.ensures.capacity, c.push_reserved-2.ensures.capacity))

made : (c : goal.After-unwrap) → (o : Copied c.args.from.now c.args.at.0) → Copies (record { size = c.self.inside.size; words = c.extend_from_slice.new.self.items }) c.args.self.now o.block
made c o = grind (arith, common_steps, copied, is_ok)

pub invariant_of-self : goal.invariant_of-self
invariant_of-self c = ((made c (copied_object c.args.from.now c.args.at.0 c.fields.ensures.shaped c.requires.start)).space, omega (arith, c.self.invariant.1, c.push_reserved.ensures.capacity, c.push_reserved-2.ensures.capacity, c.extend_from_slice.ensures.capacity))

pub returns-clause-shaped : goal.returns-clause-shaped
returns-clause-shaped c = (made c (copied_object c.args.from.now c.args.at.0 c.fields.ensures.shaped c.requires.start)).space

pub returns-clause-words : goal.returns-clause-words
returns-clause-words c = λ b found. grind (arith, common_steps, made, stands_in)
