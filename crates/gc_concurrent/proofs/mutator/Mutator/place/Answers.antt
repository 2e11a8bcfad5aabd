-- The header is written at the end.
use Rattle.std.proofs.Common.{◌≡◌, ◌∙◌, ℕ, List, length, Some, ap, sym, subst, arith}
use Rattle.gc_words.specs.Image.{block_at, fresh_block}
use Rattle.gc_words.specs.Space.{SpaceWords, IsSpace, end_of}
use Rattle.gc_words.specs.Marks.{is_marked}
use Rattle.gc_concurrent.specs.Internal.Starts.{TellsStarts}
use Rattle.gc_words.proofs.Public.{placed, placed_block}
use Rattle.gc_concurrent.specs.Internal.Rule.{Sat}
use Rattle.gc_concurrent.proofs.Marking.{marks_made}
use Rattle.gc_concurrent.proofs.TiedCells.{tied, tied_words}
use Rattle.gc_concurrent.proofs.Writing.{news_at}
use Rattle.std.specs.Vec.{with_items}
use Rattle.std.proofs.lemmas.List.{with_items_is}
use Rattle.gc_concurrent.proofs.mutator.Mutator.place.Goals as goal
use Rattle.gc_concurrent.proofs.mutator.Mutator.place.Goals.{After-mark}

pub store-requires : goal.store-requires
store-requires c = (
  tied _ _ _ c.deref-cells.ensures c.args.self.now.row.0,
  omega (arith, c.requires.end, c.requires.room.shaped.end_high, tied_words _ _ _ _ c.deref-cells.ensures c.args.self.now.row.0 c.args.self.now.row.1, c.args.self.now.sized),
  news_at _ _ _ _ _ _ c.args.header c.requires.end c.word.ensures.word c.args.self.now.writes c.requires.room,
)

pub returns-clause-shaped : goal.returns-clause-shaped
returns-clause-shaped c = subst IsSpace (sym (ap (λ (m : Sat). m.0.mine.space) (c.store.ensures.2.0 c.args.header c.requires.room.header (sym c.word.ensures.word)))) (placed c.args.self.now.seat.me.0.mine.space c.args.header c.requires.room).0

pub returns-clause-object : goal.returns-clause-object
returns-clause-object c =
    subst (λ (z : SpaceWords × ℕ). block_at z.0.words z.1 ≡ Some (fresh_block c.args.header))
    (λ i. (sym (ap (λ (m : Sat). m.0.mine.space) (c.store.ensures.2.0 c.args.header c.requires.room.header (sym c.word.ensures.word))) i, c.requires.end i))
    (placed_block c.args.self.now.seat.me.0.mine.space c.args.header c.requires.room)

-- the words of the row are those that were marked
row : (c : After-mark) → (with_items c.args.self.now.starts c.mark.new.bits).items ≡ c.mark.new.bits
row c = with_items_is c.args.self.now.starts c.mark.new.bits (omega (arith, c.mark.ensures.len, c.as_mut_slice.ensures.len, c.args.self.now.starts.ok.0))

pub invariant_of-self-clause-wide : goal.invariant_of-self-clause-wide
invariant_of-self-clause-wide c =
    let e = (goal.at.invariant_of-self-clause-wide c).After-mark in
    let same : length (with_items c.args.self.now.starts c.mark.new.bits).items ≡ length c.mark.new.bits = ap (length {A = ℕ}) (row e) in
    let was = c.args.self.now.wide in
    let kept = ap (length {A = ℕ}) c.as_mut_slice.ensures.value in
    omega (arith, same, was, kept, c.mark.ensures.len)

pub invariant_of-self-clause-marked : goal.invariant_of-self-clause-marked
invariant_of-self-clause-marked c =
    let e = (goal.at.invariant_of-self-clause-marked c).After-mark in
    let m = c.args.self.now in
    let after = ap (λ (x : Sat). x.0.mine.space) (c.store.ensures.2.0 c.args.header c.requires.room.header (sym c.word.ensures.word)) in
    let at : end_of m.seat.me.0.mine.space ≡ c.args.end = c.requires.end in
    subst (λ (z : List ℕ × SpaceWords). TellsStarts z.0 z.1.words) (λ i. (sym (row e) i, sym after i))
    (marks_made m.starts.items c.mark.new.bits m.seat.me.0.mine.space c.args.header c.requires.room
    (ap (is_marked c.mark.new.bits) at ∙ c.mark.ensures.marked)
    (λ k other. c.mark.ensures.others k (λ e. other (e ∙ sym at)) ∙ ap (λ (row : List ℕ). is_marked row k) c.as_mut_slice.ensures.value)
    m.marked)
