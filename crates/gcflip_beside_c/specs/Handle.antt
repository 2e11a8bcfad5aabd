-- What a handle owns: nothing if it is null, otherwise the box of an end.
use Rattle.std.specs.Prelude.{Option, Some, None}
use base.Fml.{Fml, feq}
use base.Stored.{Coded}
use denote.RawPtr.{Ptr, null_ptr}
use Rattle.std.specs.Coded.{coded_option}
use Rattle.std.specs.Box.Ownership.{box_owns}
use Rattle.std.specs.declared.alloc.Global.{Global}
use Rattle.std.specs.contracts.impls.GlobalAllocator.TheImpl.{ghosts}
use Rattle.gcflip_beside_c.specs.declared.end.End.{End}
use Rattle.gcflip_beside_c.specs.contracts.end.End.{the_row}

-- the end in the box is this one
abbrev pub owns_end : Global → Ptr → Option End → Fml
owns_end alloc at None = feq Ptr at null_ptr
owns_end alloc at (Some end) = box_owns (ghosts.dealloc_token alloc) the_row at end

abbrev pub coded_end : Coded (Option End)
coded_end = coded_option the_row.coded
