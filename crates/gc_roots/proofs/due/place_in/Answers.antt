-- The lowest bit of a word is its first mark.
use Rattle.gc_roots.proofs.Marks.{no_mark_in}
use Rattle.gc_roots.proofs.due.place_in.Goals as goal

pub returns-clause-before : goal.returns-clause-before
returns-clause-before c i at less = no_mark_in c.args.bits.now c.args.word c.lowest.result i at less c.lowest.ensures.before
