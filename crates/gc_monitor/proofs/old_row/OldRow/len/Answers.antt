-- There is a code for each place.
use Rattle.std.proofs.Common.{length, ap, sym, ◌∙◌}
use Rattle.gc_monitor.specs.Internal.InWords.{OldCodes}
use Rattle.gc_monitor.proofs.Freed.{length-now}
use Rattle.gc_monitor.proofs.old_row.OldRow.len.Goals as goal

pub returns : goal.returns
returns c = c.len.ensures ∙ sym (length-now c.self.inside.epochs.items c.self.inside.epoch 0 c.self.inside.row.codes) ∙ ap (λ (t : OldCodes). length t.codes) c.self.view_is
