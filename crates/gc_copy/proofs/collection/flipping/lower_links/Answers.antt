-- The loop meets each object of the heap once and lowers its link, and no other word changes.
use Rattle.std.proofs.lemmas.Grind.{common_steps}
use Rattle.std.proofs.Common.{arith}
use Rattle.gc_copy.proofs.ObjectWalks.{start_met}
use Rattle.gc_copy.proofs.Lowering.{lowers_none, lowers_more}
use Rattle.gc_copy.proofs.collection.flipping.lower_links.Goals as goal

pub loop-at-init : goal.loop-at-init
loop-at-init c = lowers_none c.args.mark c.args.heap.now c.space.ensures.sound

pub next_start-next-requires : goal.next_start-next-requires
next_start-next-requires c = grind (arith, common_steps, start_met)

pub link-requires : goal.link-requires
link-requires c = grind (arith, common_steps, start_met)

pub set_link_word-requires : goal.set_link_word-requires
set_link_word-requires c = grind (arith, common_steps, start_met)

pub loop-at-preserved : goal.loop-at-preserved
loop-at-preserved c = grind (arith, common_steps, lowers_more)
