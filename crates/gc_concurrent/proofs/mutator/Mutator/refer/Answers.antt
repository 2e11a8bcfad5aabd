-- The first word of an object lies within the words.
use Rattle.std.proofs.Common.{arith}
use Rattle.gc_words.proofs.Public.{header_read}
use Rattle.gc_concurrent.proofs.TiedCells.{tied, tied_words}
use Rattle.gc_concurrent.proofs.Writing.{refers}
use Rattle.gc_concurrent.proofs.mutator.Mutator.refer.Goals as goal

pub load-requires : goal.load-requires
load-requires c =
    let r = header_read c.args.self.now.seat.me.0.mine.space.words c.args.at.0 c.requires.shaped.walked c.requires.start in (
      tied _ _ _ c.deref-cells.ensures c.args.self.now.row.0,
      omega (arith, r.within, c.requires.shaped.end_high, tied_words _ _ _ _ c.deref-cells.ensures c.args.self.now.row.0 c.args.self.now.row.1, c.args.self.now.sized),
      refers _ _ _ _ _ c.args.self.now.writes,
    )
