-- So many numbers have been read, and the others are as they were.
use Rattle.std.proofs.Common.{◌≡◌, ◌++◌, drop, take, length, map}
use Rattle.gc_graph.specs.Graph.{fields_of, number_of}
use Rattle.gc_concurrent.specs.Bulk.{object_of_root}
use Rattle.gc_concurrent.specs.Holders.{beginning_of, cells_of, heap_in, log_length, moves_in}
use Rattle.gc_concurrent.proofs.commands.Commander.read_each.Given as goal

abbrev pub invariant-loop-k : goal.invariant-loop-k
invariant-loop-k l =
    let told = take (length l.fn.numbers) (drop l.first (map number_of (fields_of (object_of_root (heap_in l.fn.self) l.s)))) in
    record {
      read : l.numbers ≡ take l.k told ++ drop l.k l.fn.numbers;
      heap : heap_in l.self ≡ heap_in l.fn.self;
      log : log_length l.self ≡ log_length l.fn.self;
      cells : cells_of l.self ≡ cells_of l.fn.self;
      moves : moves_in l.self ≡ moves_in l.fn.self;
      begun : beginning_of l.self ≡ beginning_of l.fn.self;
    }
