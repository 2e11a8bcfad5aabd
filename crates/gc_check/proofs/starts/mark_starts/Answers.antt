-- Once the walk has reached the end, it has no fault, and each start has its mark.
use Rattle.std.proofs.Common.{arith}
use Rattle.std.proofs.lemmas.Grind.{common_steps}
use Rattle.std.proofs.lemmas.List.{drop_all}
use Rattle.gc_words.proofs.Public.{same_walk, at_end, has_start_from}
use Rattle.gc_check.proofs.starts.mark_starts.Goals as goal

pub returns : goal.returns
returns c = grind (arith, common_steps, same_walk, drop_all, at_end, has_start_from)
