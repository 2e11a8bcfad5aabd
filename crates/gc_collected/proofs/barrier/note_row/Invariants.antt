-- The fields so far are logged, and the log has room for the rest.
use Rattle.std.proofs.Common.{◌≡◌, ◌≤◌, ◌+◌, length}
use Rattle.gc_copy.specs.Words.{spare_of}
use Rattle.gc_collected.specs.Internal.Together.{Logs, fields_from}
use Rattle.gc_collected.proofs.barrier.note_row.Given as goal

abbrev pub invariant-loop-k : goal.invariant-loop-k
invariant-loop-k l = record {
  so_far : Logs l.fn.collection l.m (fields_from l.object.0 l.first l.k) l.collection;
  logs : length l.collection.logs ≡ length l.fn.collection.logs;
  room : spare_of l.fn.collection l.m ≤ spare_of l.collection l.m + l.k;
}
