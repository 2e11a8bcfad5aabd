-- The fields so far hold numbers, so all do exactly if the rest do.
use Rattle.std.proofs.Common.{◌≡◌, ◌+◌, ◌-◌, drop, take}
use Rattle.std.specs.List.{list_all}
use Rattle.gc_graph.specs.Graph.{fields_of}
use Rattle.gc_graph.specs.Machine.{is_number}
use Rattle.gc_concurrent.specs.Bulk.{object_of_root}
use Rattle.gc_concurrent.specs.Holders.{beginning_of, cells_of, heap_in, log_length, logs_writes, moves_in}
use Rattle.gc_concurrent.proofs.commands.Commander.are_numbers_at.Given as goal

abbrev pub invariant-loop-k : goal.invariant-loop-k
invariant-loop-k l =
    let fields = fields_of (object_of_root (heap_in l.fn.self) l.s) in
    record {
      all : list_all is_number (take (l.count - l.k) (drop (l.from + l.k) fields)) ≡ list_all is_number (take l.count (drop l.from fields));
      heap : heap_in l.self ≡ heap_in l.fn.self;
      logs : logs_writes l.self ≡ logs_writes l.fn.self;
      log : log_length l.self ≡ log_length l.fn.self;
      cells : cells_of l.self ≡ cells_of l.fn.self;
      moves : moves_in l.self ≡ moves_in l.fn.self;
      begun : beginning_of l.self ≡ beginning_of l.fn.self;
    }
