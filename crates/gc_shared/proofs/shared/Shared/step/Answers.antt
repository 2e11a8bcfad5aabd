-- After the step the world's last entry has it with its reply, so some world can give the receipt.
use Rattle.std.proofs.Common.{◌-◌, length, refl, subst, rules}
use Rattle.gc_world.specs.History.{IsHistory}
use Rattle.gc_shared.proofs.PossibleReceipts.{last_is_possible}
use Rattle.gc_shared.proofs.shared.Shared.step.Goals as goal

pub returns-clause-answered : goal.returns-clause-answered
returns-clause-answered g c = record {
  place = length c.history.result.now - 1;
  added = rw (c.push_reserved.ensures.items, c.in_ok-reserve.ensures.items, c.step-entry.ensures, ← c.seat.view_is) refl;
  possible = (_, _, last_is_possible _ _ c.deref_mut.result.now.entries _ _ c.history.result.now c.in_ok-reply.ensures.collected.answered refl (search rules) (subst (λ w. IsHistory w.size w.mutators w.entries) c.deref-2.ensures c.history.ensures.history));
}
