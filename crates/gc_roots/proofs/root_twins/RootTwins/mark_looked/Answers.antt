-- One mark more is below the front.
use Rattle.std.proofs.Common.{sym, ◌∙◌, arith}
use Rattle.gc_roots.proofs.Counted.{marks_bounded, one_mark_more}
use Rattle.gc_roots.proofs.root_twins.RootTwins.mark_looked.Goals as goal

pub overflow_add-self : goal.overflow_add-self
overflow_add-self c = let row = c.self.inside in let few = marks_bounded row.due row.front in grind (arith, few, c.self.invariant)

pub invariant_of-self : goal.invariant_of-self
invariant_of-self c =
    let row = c.self.inside in
    let more = one_mark_more row.due c.mark.new.self c.args.k row.front c.mark.ensures.others (sym c.contains.ensures ∙ c.if-not-contains.true) c.mark.ensures.marked c.if-k-self.true in
    grind (arith, more, c.self.invariant, c.mark.ensures.len)
