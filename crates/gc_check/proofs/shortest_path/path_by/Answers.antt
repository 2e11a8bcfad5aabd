-- The first reference in the order of visits has the least depth, and if no visit refers to the address, no path leads there.
use Rattle.std.proofs.Common.{◌≤◌, length, sym, subst}
use Rattle.gc_check.proofs.Breadth.{least, unreachable}
use Rattle.gc_check.proofs.shortest_path.path_by.Goals as goal

pub returns-in_ok-path_back-in-Some-clause-shortest : goal.returns-in_ok-path_back-in-Some-clause-shortest
returns-in_ok-path_back-in-Some-clause-shortest c = λ place fields e.
    subst (λ n. n ≤ length fields) (sym (c.in_ok-path_back-in-Some.ensures.path c.args.starts.now c.args.address c.requires.visits c.in-Some.ensures.refers).1)
    (least c.args.starts.now c.args.visits.now c.requires.visits c.requires.all c.in-Some.reference c.args.address place fields c.in-Some.ensures e)

pub returns-in-None-clause-none : goal.returns-in-None-clause-none
returns-in-None-clause-none c = λ none reachable. unreachable c.args.starts.now c.args.visits.now c.requires.visits c.requires.all c.args.address c.in-None.ensures reachable
