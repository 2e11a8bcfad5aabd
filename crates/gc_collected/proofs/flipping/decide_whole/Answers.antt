-- Taking the mark from the links does not change the pair, so what the checker accepts is the open collection's pair.
use Rattle.gc_collected.specs.Flip.{IsCertified}
use Rattle.gc_collected.proofs.KeptPair.{same_pair}
use Rattle.gc_collected.proofs.flipping.decide_whole.Goals as goal

pub returns-in-Room-clause-certified : goal.returns-in-Room-clause-certified
returns-in-Room-clause-certified g c = same_pair IsCertified c.args.heap.now c.unmark.new.heap c.args.collection.now c.unmark.new.self c.unmark.ensures.state c.unmark.ensures.unmarked c.in_ok-found_by.ensures.certified

pub returns-in_ok-copy-in-Pair-clause-certified : goal.returns-in_ok-copy-in-Pair-clause-certified
returns-in_ok-copy-in-Pair-clause-certified g c = same_pair IsCertified c.args.heap.now c.unmark.new.heap c.args.collection.now c.unmark.new.self c.unmark.ensures.state c.unmark.ensures.unmarked c.in_ok-found_by.ensures.certified
