-- The word that is asked for is one of those that the fields take.
use Rattle.std.proofs.Common.{arith}
use Rattle.gc_collected.proofs.bytes.BytesNumberRow.number.Goals as goal

pub spelled_word-requires : goal.spelled_word-requires
spelled_word-requires c = let count = c.texts_are_read_again.ensures.fields c.args.self.now.bytes.now in omega (arith, c.requires.inside, c.from.ensures)
