-- The roots are done, so each root word's target has a replica and can be moved.
use Rattle.std.proofs.lemmas.Grind.{common_steps}
use Rattle.std.proofs.Common.{append-nil, arith, length-append}
use Rattle.std.proofs.lemmas.List.{drop_all, length-map, length-drop}
use Rattle.gc_copy.proofs.RootWalks.{all_moved, moved_to, root_has_replica}
use Rattle.gc_copy.proofs.collection.Collection.new_roots.Goals as goal

pub unwrap-requires : goal.unwrap-requires
unwrap-requires c = grind (arith, common_steps, root_has_replica)

pub push_reserved-requires : goal.push_reserved-requires
push_reserved-requires c = grind (arith, common_steps, length-map, moved_to, length-drop, length-append)

pub returns : goal.returns
returns c = grind (arith, common_steps, all_moved, append-nil, drop_all)
