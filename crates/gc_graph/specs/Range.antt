-- Commands whose numbers are in the ranges of the program's types.
use Rattle.std.specs.Prelude.{◌<◌, ◌^◌}
use Rattle.gc_graph.specs.Limits.{slots_each, kinds, lengths}
use Rattle.gc_graph.specs.Slots.{SlotName}
use Rattle.gc_graph.specs.declared.command.Op.{Op}
use Rattle.gc_graph.specs.declared.command.Op.TheVariants as ops

abbrev pub IsSlot : SlotName → Type 0
IsSlot s = s.index < slots_each

abbrev pub IsCommand : Op → Type 0
IsCommand (ops.New d kind len) = IsSlot d × (kind < kinds) × (len < lengths)
IsCommand (ops.NewRaw d kind len) = IsSlot d × (kind < kinds) × (len < lengths)
IsCommand (ops.Num d n) = IsSlot d × (n < 2 ^ 63)
IsCommand (ops.Nil d) = IsSlot d
IsCommand (ops.Move d s) = IsSlot d × IsSlot s
IsCommand (ops.Get d s i) = IsSlot d × IsSlot s × (i < lengths)
IsCommand (ops.Put s i t) = IsSlot s × (i < lengths) × IsSlot t
IsCommand (ops.Same s t) = IsSlot s × IsSlot t
IsCommand (ops.Look s) = IsSlot s
