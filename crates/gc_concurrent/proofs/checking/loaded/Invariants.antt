-- The words so far are the first ones of the mutator's space, and the seat knows what it knew.
use Rattle.std.proofs.Common.{◌≡◌, take}
use Rattle.gc_concurrent.proofs.checking.loaded.Given as goal

abbrev pub invariant-loop-k : goal.invariant-loop-k
invariant-loop-k l = record {
  words : l.words.items ≡ take l.k l.fn.seat.me.0.mine.space.words;
  same : l.seat.me ≡ l.fn.seat.me;
  row : l.seat.table_id ≡ l.fn.seat.table_id;
}
