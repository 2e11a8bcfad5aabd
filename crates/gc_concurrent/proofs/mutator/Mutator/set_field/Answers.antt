-- The write and its entry.
use Rattle.std.proofs.Common.{◌≡◌, ℕ, List, ap, sym, subst, arith}
use Rattle.std.specs.Prelude.{IsSome}
use Rattle.gc_words.specs.Image.{field_at}
use Rattle.gc_words.specs.Space.{SpaceWords, IsSpace, with_field_at}
use Rattle.gc_words.proofs.Public.{field_read, field_written}
use Rattle.gc_concurrent.specs.Internal.Rule.{Sat}
use Rattle.gc_concurrent.specs.Internal.Starts.{TellsStarts}
use Rattle.gc_concurrent.proofs.Marking.{marks_written}
use Rattle.gc_concurrent.proofs.TiedCells.{tied, tied_words}
use Rattle.gc_concurrent.proofs.Writing.{puts_at}
use Rattle.gc_concurrent.proofs.mutator.Mutator.set_field.Goals as goal

pub store-requires : goal.store-requires
store-requires c =
    let f = field_read c.args.self.now.seat.me.0.mine.space.words c.args.at.0 c.args.i c.requires.shaped.walked c.requires.there in (
      tied _ _ _ c.deref-cells.ensures c.args.self.now.row.0,
      omega (arith, c.field_index.ensures, f.within, c.requires.shaped.end_high, tied_words _ _ _ _ c.deref-cells.ensures c.args.self.now.row.0 c.args.self.now.row.1, c.args.self.now.sized),
      puts_at _ _ _ _ c.args.at.0 c.args.i _ _ f.block c.field_index.ensures c.args.self.now.writes f.found c.requires.there (c.requires.fits f.block f.found) (c.requires.allowed f.block f.found),
    )

pub returns-then-self-clause-shaped : goal.returns-then-self-clause-shaped
returns-then-self-clause-shaped c = subst IsSpace (sym (ap (λ (m : Sat). m.0.mine.space) (c.store.ensures.2 c.args.at.0 c.args.i c.field_index.ensures c.requires.there))) (field_written c.args.self.now.seat.me.0.mine.space c.args.at.0 c.args.i c.args.word c.requires.shaped c.requires.there).0

pub returns-else-self-clause-shaped : goal.returns-else-self-clause-shaped
returns-else-self-clause-shaped c = subst IsSpace (sym (ap (λ (m : Sat). m.0.mine.space) (c.store.ensures.2 c.args.at.0 c.args.i c.field_index.ensures c.requires.there))) (field_written c.args.self.now.seat.me.0.mine.space c.args.at.0 c.args.i c.args.word c.requires.shaped c.requires.there).0

-- the row still says where objects start
marks : (row : List ℕ) (s s' : SpaceWords) (a i w : ℕ) → s' ≡ with_field_at s a i w → IsSpace s → IsSome (field_at s.words a i) → TellsStarts row s.words → TellsStarts row s'.words
marks row s s' a i w after space has m = subst (λ (z : SpaceWords). TellsStarts row z.words) (sym after) (marks_written row s a i w space has m)

pub invariant_of-self-clause-marked : goal.invariant_of-self-clause-marked
invariant_of-self-clause-marked c =
    marks c.args.self.now.starts.items c.args.self.now.seat.me.0.mine.space _ c.args.at.0 c.args.i c.args.word (ap (λ (m : Sat). m.0.mine.space) (c.store.ensures.2 c.args.at.0 c.args.i c.field_index.ensures c.requires.there)) c.requires.shaped c.requires.there c.args.self.now.marked

pub invariant_of-self-else-self-clause-marked : goal.invariant_of-self-else-self-clause-marked
invariant_of-self-else-self-clause-marked c =
    marks c.args.self.now.starts.items c.args.self.now.seat.me.0.mine.space _ c.args.at.0 c.args.i c.args.word (ap (λ (m : Sat). m.0.mine.space) (c.store.ensures.2 c.args.at.0 c.args.i c.field_index.ensures c.requires.there)) c.requires.shaped c.requires.there c.args.self.now.marked
