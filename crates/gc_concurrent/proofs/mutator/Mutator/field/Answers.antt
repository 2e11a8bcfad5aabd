-- The field lies within the words, and what is found there is the mutator's.
use Rattle.std.proofs.Common.{ℕ, Some, sym, ap, ◌∙◌, arith}
use Rattle.std.specs.Prelude.{slice_index}
use Rattle.gc_words.proofs.Public.{field_read}
use Rattle.gc_concurrent.proofs.TiedCells.{tied, tied_words}
use Rattle.gc_concurrent.proofs.Writing.{gets}
use Rattle.gc_concurrent.proofs.mutator.Mutator.field.Goals as goal

pub load-requires : goal.load-requires
load-requires c =
    let f = field_read c.args.self.now.seat.me.0.mine.space.words c.args.at.0 c.args.i c.requires.shaped.walked c.requires.there in (
      tied _ _ _ c.deref-cells.ensures c.args.self.now.row.0,
      omega (arith, c.field_index.ensures, f.within, c.requires.shaped.end_high, tied_words _ _ _ _ c.deref-cells.ensures c.args.self.now.row.0 c.args.self.now.row.1, c.args.self.now.sized),
      gets _ _ _ _ _ c.args.self.now.writes,
    )

pub returns-clause-value : goal.returns-clause-value
returns-clause-value c =
    let f = field_read c.args.self.now.seat.me.0.mine.space.words c.args.at.0 c.args.i c.requires.shaped.walked c.requires.there in
    f.word ∙ ap (λ (w : ℕ). Some w) (ap (λ (p : ℕ). slice_index c.args.self.now.seat.me.0.mine.space.words p) (sym c.field_index.ensures) ∙ sym (c.load.ensures.2.1 (omega (arith, c.field_index.ensures, f.within))))
