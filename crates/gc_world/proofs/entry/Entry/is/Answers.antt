-- Two entries are the same exactly if their forms are, because each event with its answer has one form.
use Rattle.std.proofs.Common.{ap, sym, ◌∙◌}
use Rattle.gc_world.specs.Forms.{meaning}
use Rattle.gc_world.proofs.Equality.{same_form, one_form}
use Rattle.gc_world.proofs.entry.Entry.is.Goals as goal

pub returns : goal.returns
returns c =
    let same = same_form c.self.inside.form c.other.inside.form in (
      λ yes. sym c.self.view_is ∙ ap meaning (same.0 (sym c.eq.ensures ∙ yes)) ∙ c.other.view_is,
      λ e. c.eq.ensures ∙ same.1 (one_form c.self.inside.form c.other.inside.form (c.self.view_is ∙ e ∙ sym c.other.view_is)),
    )
