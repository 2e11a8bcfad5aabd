-- The header is written over the first free word, and the free words are 0.
use Rattle.std.proofs.Common.{◌≡◌, ◌∙◌, ℕ, ◌+◌, List, length, set, Some, ap, sym, subst, arith}
use Rattle.std.specs.Vec.{with_items}
use Rattle.std.proofs.lemmas.List.{with_items_is}
use Rattle.gc_words.specs.Image.{block_at, fresh_block}
use Rattle.gc_words.specs.Marks.{is_marked}
use Rattle.gc_words.specs.Space.{SpaceWords, IsSpace, end_of, with_object}
use Rattle.gc_words.proofs.Public.{placed_block, written_back}
use Rattle.gc_concurrent.proofs.PlainWords.{Becomes, object_put}
use Rattle.gc_concurrent.proofs.next.NextSpace.place.Goals as goal

-- the row is that of the space with the object
put : (c : goal.After-self-3-1) → Becomes (set c.self.inside.words.items c.self.inside.end c.word.result) (c.self.inside.end + c.object_words.result) (with_items c.self.inside.starts c.mark.new.bits).items (with_object c.args.self.now c.args.header)
put c =
    let kept = ap (length {A = ℕ}) c.as_mut_slice.ensures.value in
    object_put c.self.inside.words.items c.self.inside.starts.items _ c.mark.new.bits c.self.inside.end _ c.word.result c.args.self.now c.args.header c.self.view_is c.self.invariant
    (written_back c.word.result c.args.header c.word.ensures.read_back).0 c.requires c.word.ensures.word (omega (arith, c.object_words.ensures))
    (with_items_is c.self.inside.starts c.mark.new.bits (omega (arith, c.mark.ensures.len, c.as_mut_slice.ensures.len, c.self.inside.starts.ok.0)))
    (omega (arith, c.mark.ensures.len, kept)) c.mark.ensures.marked (λ k other. c.mark.ensures.others k other ∙ ap (λ (row : List ℕ). is_marked row k) c.as_mut_slice.ensures.value)

pub invariant_of-self : goal.invariant_of-self
invariant_of-self c = (put c).plain

pub returns-clause-words : goal.returns-clause-words
returns-clause-words c = (put c).is

pub returns-clause-shaped : goal.returns-clause-shaped
returns-clause-shaped c = (put c).plain.space

pub returns-clause-object : goal.returns-clause-object
returns-clause-object c =
    subst (λ (z : SpaceWords). block_at z.words (end_of c.args.self.now) ≡ Some (fresh_block c.args.header)) (sym (put c).is)
    (placed_block c.args.self.now c.args.header (record { shaped = subst IsSpace c.self.view_is c.self.invariant.space; header = (written_back c.word.result c.args.header c.word.ensures.read_back).0; room = c.requires }))
