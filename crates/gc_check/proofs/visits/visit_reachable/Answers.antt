-- The walk begins with the visit of the roots, and there are no more visits than a `u32` can number.
use Rattle.gc_check.proofs.Meetings.{taken_few}
use Rattle.std.proofs.lemmas.Grind.{common_steps}
use Rattle.std.proofs.Common.{rules, ◌≡◌, ◌≤◌, ◌∷◌, [], suc, length, arith}
use Rattle.std.specs.Prelude.{vec_capacity}
use Rattle.gc_check.specs.Internal.Starts.{starts_from}
use Rattle.gc_check.specs.Internal.Visits.{roots_visit}
use Rattle.gc_check.proofs.Breadth.{begun, few_starts}
use Rattle.gc_check.proofs.visits.visit_reachable.Goals as goal

pub overflow_add-count : goal.overflow_add-count
overflow_add-count c = grind (arith, common_steps, few_starts)

pub visit_nodes-requires-clause-held : goal.visit_nodes-requires-clause-held
visit_nodes-requires-clause-held c =
    let one : c.push_reserved.new.self.items ≡ roots_visit ∷ [] = search rules in
    let room : suc (starts_from c.args.starts.now.words 0 (length c.args.starts.now.words)) ≤ vec_capacity c.push_reserved.new.self = search rules in
    begun c.args.starts.now (record { list = c.push_reserved.new.self; numbers = c.in_ok-numbers.numbers }) c.in_ok-numbers.ensures.entries c.requires.few one c.in_ok-numbers.ensures.zeros room

pub returns-clause-few : goal.returns-clause-few
returns-clause-few c = grind (arith, common_steps, taken_few)
