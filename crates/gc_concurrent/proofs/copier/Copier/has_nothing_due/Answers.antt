-- The entries of a raw object come first, and then those of the log.
use Rattle.std.proofs.Common.{◌≤◌, ◌<◌, ap, ◌∙◌, arith}
use Rattle.std.proofs.lemmas.Bool.{leb-true, leb-false}
use Rattle.gc_model.specs.Steps.{is_empty}
use Rattle.gc_concurrent.proofs.InHand.{none_left, some_left}
use Rattle.gc_concurrent.proofs.copier.Copier.has_nothing_due.Goals as goal

pub returns-clause-none : goal.returns-clause-none
returns-clause-none c past =
    let a = c.args.self.now in
    let end : c.len.result ≤ a.next = leb-true c.len.result a.next past in
    a.dues.0 ∙ none_left a.fill a.fill_next a.fill_left a.next a.due.items (omega arith) (omega (arith, c.len.ensures))

pub returns-clause-some : goal.returns-clause-some
returns-clause-some c past =
    let a = c.args.self.now in
    let less : a.next < c.len.result = leb-false c.len.result a.next past in
    ap is_empty a.dues.0 ∙ some_left a.fill a.fill_next a.fill_left a.next a.due.items (omega arith) (omega (arith, c.len.ensures))
