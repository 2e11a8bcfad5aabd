-- If the least number is the number of pairs, no pair has a fault.
use Rattle.gc_par.proofs.Least.{none_has_no_fault}
use Rattle.gc_par.proofs.checker.first_pair_fault.Goals as goal

pub returns-else-first-count : goal.returns-else-first-count
returns-else-first-count g c =
    none_has_no_fault c.args.tables.now c.args.count c.first_faulty-first.result c.requires c.first_faulty-first.ensures c.if-first-count.false
