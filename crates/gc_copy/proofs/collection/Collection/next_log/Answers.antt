-- The first log with an entry is the one at which the loop stops, because no log before it has one.
use Rattle.std.proofs.lemmas.List.{drop_all}
use Rattle.std.proofs.lemmas.Grind.{common_steps}
use Rattle.std.proofs.Common.{ap, arith}
use Rattle.gc_model.specs.Steps.{first_log}
use Rattle.gc_copy.specs.Words.{CollectionWords, collection_in}
use Rattle.gc_copy.proofs.Logs.{there_in, first_here, first_later}
use Rattle.gc_copy.proofs.collection.Collection.next_log.Goals as goal

pub loop-m-init : goal.loop-m-init
loop-m-init c = ap (λ (y : CollectionWords). first_log 0 (collection_in y).logs) c.self.view_is

pub returns-then-not-is_empty : goal.returns-then-not-is_empty
returns-then-not-is_empty c = grind (arith, common_steps, first_here, there_in)

pub loop-m-preserved : goal.loop-m-preserved
loop-m-preserved c = grind (arith, common_steps, first_later, there_in)

pub returns : goal.returns
returns c = grind (arith, common_steps, drop_all)
