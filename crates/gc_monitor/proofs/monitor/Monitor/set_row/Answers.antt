-- So many places are due, and the count goes up by those that were not.
use Rattle.std.proofs.Common.{◌≡◌, ◌+◌, ◌-◌, ◌≤◌, true, length, inr, ap, subst, sym, ◌∙◌, arith}
use Rattle.gc_monitor.specs.Tables.{Tables, RowsAgree}
use Rattle.gc_monitor.specs.Internal.Rows.{with_due_row}
use Rattle.gc_monitor.specs.contracts.monitor.Monitor.{the_view}
use Rattle.gc_monitor.proofs.RowsAgree.{agree_of}
use Rattle.gc_monitor.proofs.RowsDue.{dues_few, agree_row, row_made}
use Rattle.gc_monitor.proofs.monitor.Monitor.set_row.Goals as goal

pub overflow_sub-self : goal.overflow_sub-self
overflow_sub-self c = omega (arith, c.count_from-dues.ensures, dues_few c.args.count c.args.place c.self.inside.news.codes)

agree : (c : goal.After-self-2-1) → RowsAgree (the_view c.self.inside)
agree c = agree_of _ c.self.invariant.5 (ap (λ (t : Tables). t.lost) c.self.view_is ∙ c.requires.found)

-- the tables have so many places due
made : (c : goal.After-self-2-1) → record (the_view c.self.inside) { news = c.set_from.new.self.codes; missing = c.self.inside.missing + (c.args.count - c.count_from-dues.result) } ≡ with_due_row true (the_view c.self.inside) c.args.place c.args.count
made c =
    let few : c.count_from-dues.result ≤ c.args.count = omega (arith, c.count_from-dues.ensures, dues_few c.args.count c.args.place c.self.inside.news.codes) in
    row_made true (the_view c.self.inside) c.args.place c.args.count c.count_from-dues.result (c.self.inside.missing + (c.args.count - c.count_from-dues.result)) c.set_from.new.self.codes (agree c)
    (omega (arith, c.if-place-count.false, c.len.ensures)) c.set_from.ensures.codes c.count_from-dues.ensures (omega (arith, few))

pub invariant_of-self-2 : goal.invariant_of-self-2
invariant_of-self-2 c = (
  c.self.invariant.0,
  c.self.invariant.1,
  c.self.invariant.2,
  omega (arith, c.self.invariant.3, c.set_from.ensures.room),
  c.self.invariant.4,
  inr (subst RowsAgree (sym (made c)) (agree_row true c.args.count c.args.place (the_view c.self.inside) (agree c))),
)

pub returns-clause-wrote : goal.returns-clause-wrote
returns-clause-wrote c = λ found. (
  omega (arith, c.if-place-count.false, c.len.ensures, ap (λ (t : Tables). length t.news) c.self.view_is),
  made c ∙ ap (λ (t : Tables). with_due_row true t c.args.place c.args.count) c.self.view_is,
)
