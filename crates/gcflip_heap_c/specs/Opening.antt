-- The options with which a heap can be opened.
use Rattle.std.specs.Prelude.{◌≡◌, ℕ, ◌≤◌, ◌==◌, if◌then◌else◌}
use Rattle.gc_graph.specs.Limits.{most_mutators}
use Rattle.gc_heap.specs.ExtraRoots.{most_extra_roots}
use Rattle.gc_heap.specs.declared.options.HeapOptions.{HeapOptions}
use Rattle.gc_collected.specs.declared.checks.Checking.{Checking}
use Rattle.gc_collected.specs.declared.checks.Checking.TheVariants.{AtFlip, Along}
use Rattle.gcflip_heap_c.specs.declared.opening.GcflipOptions.{GcflipOptions}

-- the number of bytes of the record of options
abbrev pub options_bytes : ℕ
options_bytes = 20

-- the record is this library's, and its members are in range
abbrev pub CanOpenWith : GcflipOptions → Type 0
CanOpenWith options = (options.bytes ≡ options_bytes) × (1 ≤ options.size) × (1 ≤ options.mutators) × (options.mutators ≤ most_mutators)
    × (options.extra_roots ≤ most_extra_roots) × (options.checking ≤ 1)

abbrev pub options_in : GcflipOptions → HeapOptions
options_in options = record { size = options.size; mutators = options.mutators; extra_roots = options.extra_roots }

-- how the flips are checked: 0 stands for a checker that goes along, and 1 for whole checks alone
abbrev pub checking_in : GcflipOptions → Checking
checking_in options = if options.checking == 0 then Along options.whole_each else AtFlip
