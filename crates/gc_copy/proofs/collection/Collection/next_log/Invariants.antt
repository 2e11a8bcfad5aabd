-- The first log with an entry, from this log on, is the first of all logs with one.
use Rattle.std.proofs.Common.{◌≡◌}
use Rattle.gc_model.specs.Steps.{first_log}
use Rattle.gc_copy.specs.Words.{collection_in}
use Rattle.gc_copy.proofs.Logs.{first_from}
use Rattle.gc_copy.proofs.collection.Collection.next_log.Given as goal

-- no log so far has an entry
abbrev pub invariant-loop-m : goal.invariant-loop-m
invariant-loop-m l = first_from l.self-inside.logs.items l.m ≡ first_log 0 (collection_in l.self).logs
