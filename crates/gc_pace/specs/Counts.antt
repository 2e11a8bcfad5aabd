-- What can be counted of a heap, for decisions on when to collect and how fast.
use Rattle.std.specs.Prelude.{ℕ, min}
use Rattle.std.specs.Option.{option_map_or}
use Rattle.gc_model.specs.State.{State, Collection, new_end, heap_end, extra_roots_of}
use Rattle.gc_model.specs.Progress.{entries_left}
use Rattle.gc_collected.specs.Collected.{Collected}
use Rattle.gc_pace.specs.declared.counts.Counts.{Counts}

-- the entries in all logs, up to the largest number of 32 bits
abbrev pub logged_in : State → ℕ
logged_in s = min (entries_left s) 4294967295

-- The counts that follow from the state. The members that tell of the open collection are 0 if there is none.
abbrev pub counts_of : State → Counts
counts_of s = let told : (Collection → ℕ) → ℕ = λ f. option_map_or f s.collection 0 in record {
  size = s.size;
  end = heap_end s;
  free = s.heap.free;
  mutators = s.mutators;
  extra_roots = extra_roots_of s;
  is_open = told (λ _. 1);
  new_size = told (λ c. c.size);
  new_end = told new_end;
  scan_place = told (λ c. c.scan_place);
  scan_field = told (λ c. c.scan_field);
  logged = logged_in s;
  roots_left = 0;
}

-- all counts of a heap, with the looks that are left
abbrev pub counts_in : Collected → Counts
counts_in h = record (counts_of h.core) { roots_left = h.roots_left }
