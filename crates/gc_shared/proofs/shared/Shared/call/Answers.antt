-- After the command the world's last entry has it with its reply, so a world of the same size and mutators can give the receipt.
use Rattle.std.proofs.Common.{◌-◌, length, refl, subst, rules}
use Rattle.gc_world.specs.History.{IsHistory}
use Rattle.gc_shared.proofs.PossibleReceipts.{last_is_possible, possible_along}
use Rattle.gc_shared.proofs.shared.Shared.call.Goals as goal

pub returns-clause-answered : goal.returns-clause-answered
returns-clause-answered g c = record {
  place = length c.history.result.now - 1;
  added = rw (c.push_reserved.ensures.items, c.in_ok-reserve.ensures.items, c.command-entry.ensures, ← c.seat.view_is) refl;
  possible = possible_along c.mutate.new.self.size c.mutate.new.self.mutators _ _ _
      (search rules)
      (search rules)
      (rw (← c.seat.view_is) (last_is_possible _ _ c.deref_mut.result.now.entries _ _ c.history.result.now c.in_ok-reply.ensures.answered refl (search rules) (subst (λ w. IsHistory w.size w.mutators w.entries) c.deref-2.ensures c.history.ensures.history)));
}
