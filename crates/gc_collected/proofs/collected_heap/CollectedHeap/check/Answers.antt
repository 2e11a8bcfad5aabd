-- Taking the mark from the links does not change the pair, so what the checker says of it holds of the open collection's pair.
use Rattle.std.proofs.lemmas.Grind.{common_steps}
use Rattle.std.proofs.Common.{Result, arith}
use Rattle.std.specs.Prelude.{IfOk}
use Rattle.gc_collected.specs.Flip.{IsCertified}
use Rattle.gc_collected.proofs.Core.{core_is}
use Rattle.gc_collected.proofs.KeptPair.{pair_unmarked}
use Rattle.gc_collected.proofs.collected_heap.CollectedHeap.check.Goals as goal

-- what holds of each value that is returned, holds if something else does
if_ok : {X Y : Type 0} (P Q : X → Type 0) (r : Result X Y) → ((x : X) → P x → Q x) → IfOk r P → IfOk r Q
if_ok P Q r f h = grind (arith, common_steps)

pub returns-clause-asked : goal.returns-clause-asked
returns-clause-asked g c = if_ok _ _ c.found_by.result (λ found said pairs told. pair_unmarked (g.C.Checks.says_yes c.args.checker.now) c.self.inside.heap c.unmark.new.heap c.self.inside.collection c.in-Some-collection.collection c.unmark.new.self c.args.self.now.core c.in-Some-collection.is (core_is c.self.view_is) c.unmark.ensures.state c.unmark.ensures.unmarked said) c.found_by.ensures.asked

pub returns-clause-sound : goal.returns-clause-sound
returns-clause-sound g c = if_ok _ _ c.found_by.result (λ found holds pairs told. pair_unmarked IsCertified c.self.inside.heap c.unmark.new.heap c.self.inside.collection c.in-Some-collection.collection c.unmark.new.self c.args.self.now.core c.in-Some-collection.is (core_is c.self.view_is) c.unmark.ensures.state c.unmark.ensures.unmarked holds) c.found_by.ensures.certified
