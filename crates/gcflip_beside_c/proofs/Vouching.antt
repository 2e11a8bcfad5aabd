-- A flip for which a standing checker vouched, or another checker said yes, is one for which some standing checker vouched, or that one said yes.
use Rattle.std.proofs.Common.{Bool, true, false}
use Rattle.gc_heap.specs.Heap.{HeapWords}
use Rattle.gc_concurrent.specs.declared.copier.Copier.{Copier}
use Rattle.gc_concurrent.specs.Checking.{IsVouchedBy, IsVouchedFor}
use Rattle.gc_concurrent.specs.Turns.{IfAsked, TurnsBy}
use Rattle.gc_concurrent.specs.declared.turns.Turns.{Turns}

by_some : (asked : Bool) (said : Type 0) (copier : Copier) (old base : HeapWords) → IfAsked asked said (IsVouchedBy copier.standing old base) → IfAsked asked said (IsVouchedFor old base)
by_some true said copier old base by = by
by_some false said copier old base by = (copier.standing, by)

pub turned_by_some : (said : Type 0) (copier : Copier) (old base : HeapWords) (before after : Turns)
    → TurnsBy said (IsVouchedBy copier.standing old base) before after → TurnsBy said (IsVouchedFor old base) before after
turned_by_some said copier old base before after by = record { asked = by.asked; turned = by.turned; due = by.due; by = by_some by.asked said copier old base by.by }
