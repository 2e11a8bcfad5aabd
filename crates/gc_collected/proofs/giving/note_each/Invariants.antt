-- The fields so far are logged, unless they take nothing, and the log has room for the rest.
use Rattle.std.proofs.Common.{◌≡◌, ◌≤◌, ◌+◌, length, drop}
use Rattle.gc_copy.specs.Words.{CollectionWords, spare_of}
use Rattle.gc_collected.specs.Internal.Given.{fields_given}
use Rattle.gc_collected.specs.Internal.Together.{Logs}
use Rattle.gc_collected.proofs.giving.note_each.Given as goal

abbrev pub invariant-loop-i : goal.invariant-loop-i
invariant-loop-i g l = record {
  rest : (new : CollectionWords) → Logs l.collection l.m (fields_given l.object.0 l.i (drop l.i (g.R.ValueRow.values l.fields))) new → Logs l.fn.collection l.m (fields_given l.object.0 0 (g.R.ValueRow.values l.fields)) new;
  logs : length l.collection.logs ≡ length l.fn.collection.logs;
  room : length (g.R.ValueRow.values l.fields) ≤ spare_of l.collection l.m + l.i;
}
