-- The seats are right exactly if the size, the mutators and the numbers of the seats are.
use Rattle.std.proofs.Common.{sym, ◌∙◌}
use Rattle.gc_shared.proofs.closing.is_seated.Goals as goal

pub returns : goal.returns
returns c = (
  λ h.
      let once = c.has_each_once.ensures.0 h in
      record { size = sym c.size.ensures ∙ c.if-size.false; mutators = sym c.mutators.ensures ∙ c.if-mutators.false; count = once.0; once = once.1 },
  λ h. c.has_each_once.ensures.1 (h.count, h.once),
)
