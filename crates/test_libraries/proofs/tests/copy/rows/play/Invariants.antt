-- After the rows so far, the collection belongs to the heap, which has as many mutators as before, and its links have the same mark.
use Rattle.std.proofs.Common.{◌≡◌}
use Rattle.gc_copy.specs.Words.{BelongsTo}
use Rattle.test_libraries.proofs.tests.copy.rows.play.Given as goal

abbrev pub invariant-loop-place : goal.invariant-loop-place
invariant-loop-place g l = BelongsTo l.heap l.collection × l.heap.mutators ≡ l.initial.heap.mutators × l.collection.epoch ≡ l.initial.collection.epoch
