-- The tables of a checker that is not lost agree with one another, so what the code tests is what a yes needs.
use Rattle.std.proofs.Common.{rules, ◌∙◌, sym, ap, subst}
use Rattle.gc_monitor.specs.Tables.{Tables, RowsAgree}
use Rattle.gc_monitor.proofs.RowsAgree.{agree_of}
use Rattle.gc_monitor.proofs.monitor.Monitor.has_seen_all.Goals as goal

pub returns : goal.returns
returns c = record {
  exact = (
    λ t. record {
      found = sym (ap (λ (t : Tables). t.lost) c.self.view_is) ∙ c.if-self.false;
      none_due = search rules;
      old_seen = search rules;
      new_seen = search rules;
      old_sized = c.is_sized.ensures.0 c.if-not-is_sized.false;
      new_sized = c.is_sized-2.ensures.0 t;
    },
    λ h. c.is_sized-2.ensures.1 h.new_sized,
  );
  agree = λ t. subst RowsAgree c.self.view_is (agree_of _ c.self.invariant.5 c.if-self.false);
}
