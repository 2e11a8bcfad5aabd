-- The first word of an object lies within the words, and is the word of its header.
use Rattle.std.proofs.Common.{refl, sym, ap, ◌∙◌, subst, arith}
use Rattle.std.specs.Prelude.{IsSome}
use Rattle.gc_words.specs.Word.{read_header}
use Rattle.gc_words.proofs.Public.{header_read}
use Rattle.gc_concurrent.proofs.TiedCells.{tied, tied_words}
use Rattle.gc_concurrent.proofs.Writing.{gets}
use Rattle.gc_concurrent.proofs.mutator.Mutator.header.Goals as goal

pub load-word-requires : goal.load-word-requires
load-word-requires c =
    let r = header_read c.args.self.now.seat.me.0.mine.space.words c.args.at.0 c.requires.shaped.walked c.requires.start in (
      tied _ _ _ c.deref-cells.ensures c.args.self.now.row.0,
      omega (arith, r.within, c.requires.shaped.end_high, tied_words _ _ _ _ c.deref-cells.ensures c.args.self.now.row.0 c.args.self.now.row.1, c.args.self.now.sized),
      gets _ _ _ _ _ c.args.self.now.writes,
    )

pub of_word-requires : goal.of_word-requires
of_word-requires c =
    let r = header_read c.args.self.now.seat.me.0.mine.space.words c.args.at.0 c.requires.shaped.walked c.requires.start in
    subst IsSome (sym (ap read_header (c.load-word.ensures.2.1 (omega (arith, r.within))) ∙ r.word)) refl

pub returns-clause-value : goal.returns-clause-value
returns-clause-value c =
    let r = header_read c.args.self.now.seat.me.0.mine.space.words c.args.at.0 c.requires.shaped.walked c.requires.start in
    r.found ∙ sym r.word ∙ sym (ap read_header (c.load-word.ensures.2.1 (omega (arith, r.within)))) ∙ c.of_word.ensures
