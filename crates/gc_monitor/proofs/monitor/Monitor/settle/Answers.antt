-- So many places are no longer due, all of which were.
use Rattle.std.proofs.Common.{◌≡◌, ◌+◌, ◌-◌, ◌≤◌, false, length, inr, ap, subst, sym, ◌∙◌, arith}
use Rattle.gc_monitor.specs.Tables.{Tables, RowsAgree, missing_in}
use Rattle.gc_monitor.specs.Internal.Rows.{dues_from, with_due_row}
use Rattle.gc_monitor.specs.contracts.monitor.Monitor.{the_view}
use Rattle.gc_monitor.proofs.RowsAgree.{agree_of}
use Rattle.gc_monitor.proofs.RowsDue.{dues_missing, agree_row, row_made}
use Rattle.gc_monitor.proofs.monitor.Monitor.settle.Goals as goal

pub overflow_sub-self : goal.overflow_sub-self
overflow_sub-self c =
    let agree : RowsAgree (the_view c.self.inside) = agree_of _ c.self.invariant.5 (ap (λ (t : Tables). t.lost) c.self.view_is ∙ c.requires.found) in
    let view : length c.self.inside.news.codes ≡ length c.args.self.now.news = ap (λ (t : Tables). length t.news) c.self.view_is in
    let some : dues_from c.self.inside.news.codes c.args.place c.args.count ≤ missing_in c.self.inside.news.codes = dues_missing c.args.count c.args.place c.self.inside.news.codes (omega (arith, c.requires.within, view)) in
    omega (arith, some, c.settle.ensures.due c.if-not-settle.false, agree.counted)

agree : (c : goal.After-self-1) → RowsAgree (the_view c.self.inside)
agree c = agree_of _ c.self.invariant.5 (ap (λ (t : Tables). t.lost) c.self.view_is ∙ c.requires.found)

-- the tables with so many places settled
made : (c : goal.After-self-1) → record (the_view c.self.inside) { news = c.settle.new.self.codes; missing = c.self.inside.missing - c.args.count } ≡ with_due_row false (the_view c.self.inside) c.args.place c.args.count
made c =
    let view : length c.self.inside.news.codes ≡ length c.args.self.now.news = ap (λ (t : Tables). length t.news) c.self.view_is in
    let within : c.args.place + c.args.count ≤ length c.self.inside.news.codes = omega (arith, c.requires.within, view) in
    let all = c.settle.ensures.due c.if-not-settle.false in
    let some : dues_from c.self.inside.news.codes c.args.place c.args.count ≤ missing_in c.self.inside.news.codes = dues_missing c.args.count c.args.place c.self.inside.news.codes within in
    row_made false (the_view c.self.inside) c.args.place c.args.count c.args.count (c.self.inside.missing - c.args.count) c.settle.new.self.codes (agree c) within (c.settle.ensures.settled c.if-not-settle.false) (sym all)
    (omega (arith, some, all, (agree c).counted))

pub invariant_of-self-2 : goal.invariant_of-self-2
invariant_of-self-2 c = (
  c.self.invariant.0,
  c.self.invariant.1,
  c.self.invariant.2,
  omega (arith, c.self.invariant.3, c.settle.ensures.room),
  c.self.invariant.4,
  inr (subst RowsAgree (sym (made c)) (agree_row false c.args.count c.args.place (the_view c.self.inside) (agree c))),
)

pub returns-clause-settled : goal.returns-clause-settled
returns-clause-settled c = λ yes. made c ∙ ap (λ (t : Tables). with_due_row false t c.args.place c.args.count) c.self.view_is
