-- Both ends of a heap that was opened.
use Rattle.std.specs.Prelude.{◌≡◌, ◌≤◌, ℕ, Option}
use Rattle.gc_heap.specs.ExtraRoots.{most_extra_roots}
use Rattle.gc_heap.specs.Heap.{HeapWords, empty_heap}
use Rattle.gc_concurrent.specs.Ends.{opening_theirs}
use Rattle.gcflip_beside_c.specs.declared.end.End.{End}
use Rattle.gcflip_beside_c.specs.declared.opening.GcflipBesideOptions.{GcflipBesideOptions}
use Rattle.gcflip_beside_c.specs.HandleStage.{stage, runs, works, cells_at}

-- a heap can have so many words and extra roots
abbrev pub CanOpenBeside : ℕ → ℕ → Type 0
CanOpenBeside size extra = (1 ≤ size) × (extra ≤ most_extra_roots)

-- the number of bytes of the record of options
abbrev pub beside_options_bytes : ℕ
beside_options_bytes = 16

-- the record is this library's, and a heap can have so many words and extra roots
abbrev pub CanOpenBesideWith : GcflipBesideOptions → Type 0
CanOpenBesideWith options = (options.bytes ≡ beside_options_bytes) × CanOpenBeside options.size options.extra_roots

-- the empty heap of this many words, with 32 roots and so many extra ones, which are all nil
abbrev pub empty_beside : ℕ → ℕ → HeapWords
empty_beside size extra = empty_heap (record { size = size; mutators = 1; extra_roots = extra })

-- A mutator runs in the empty heap. Its collector has just begun, in a new space of the same size, and reads the same cells.
pub record AreOpened (size extra : ℕ) (one other : Option End) : Type 0 where
  pub mutator : stage one ≡ runs (empty_beside size extra)
  pub collector : stage other ≡ works (opening_theirs (empty_beside size extra) size size)
  pub cells : cells_at one ≡ cells_at other
