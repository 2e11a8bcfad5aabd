-- A word's bytes, the lowest first, are its digits.
use Rattle.std.proofs.Common.{ap, take, ◌∙◌}
use Rattle.gc_bytes.proofs.Digits.{seven_lowest}
use Rattle.gc_bytes.proofs.reading.write_whole.Goals as goal

pub returns : goal.returns
returns c = c.copy_from_slice.ensures.after ∙ ap (take 7) c.to_le_bytes-bytes.ensures ∙ seven_lowest c.args.word
