-- A slot holds the last number, or what its root holds.
use Rattle.std.proofs.Common.{sym, ◌∙◌}
use Rattle.gc_collected.proofs.Sources.{slot_numbered}
use Rattle.gc_collected.proofs.mixed.held.Goals as goal

pub returns : goal.returns
returns g c = slot_numbered c.args.t c.args.p c.in-Some.n _ c.if-p-t.true (sym c.last_number.ensures ∙ c.in-Some.is)
