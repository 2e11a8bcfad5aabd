-- The code of a place is that of its word.
use Rattle.std.proofs.Common.{arith}
use Rattle.gc_monitor.proofs.Packed.{word_within, seen_within, code_read}
use Rattle.gc_monitor.proofs.code_row.CodeRow.get.Goals as goal

pub index-requires : goal.index-requires
index-requires c = omega (arith, c.self.inside.words.ok.0, word_within _ _ _ c.self.invariant.0 (seen_within _ _ _ _ _ c.self.view_is c.requires))

pub returns : goal.returns
returns c = code_read _ _ _ _ _ _ _ c.self.view_is c.requires c.index.ensures (word_within _ _ _ c.self.invariant.0 (seen_within _ _ _ _ _ c.self.view_is c.requires)) c.code_in.ensures
