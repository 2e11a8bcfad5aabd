-- The walk goes on as long as it is before the place, so an object starts there exactly if the walk stops there.
use Rattle.std.proofs.lemmas.Bool.{cases_eq, eq-eqb, ne_eqb}
use Rattle.std.proofs.lemmas.Grind.{common_steps}
use Rattle.std.proofs.Common.{sym, ◌∙◌, arith}
use Rattle.gc_words.proofs.Steps.{behind, start_behind, start_here, no_start_below}
use Rattle.gc_words.proofs.layout.has_start.Goals as goal

pub loop-at-preserved : goal.loop-at-preserved
loop-at-preserved c =
    let words = c.args.words.now in
    let next = sym c.next_start.ensures ∙ c.unwrap-at.ensures in
    record {
      walked = (behind words c.loop-at.at c.unwrap-at.result c.loop-at-test.true c.loop-at.invariant.walked next).walked;
      same = c.loop-at.invariant.same ∙ start_behind words c.loop-at.at c.unwrap-at.result c.args.place c.loop-at-test.true c.if-at-place.true c.loop-at.invariant.walked next;
    }

pub returns-then-at-words : goal.returns-then-at-words
returns-then-at-words c = grind (arith, common_steps, cases_eq, eq-eqb, start_here, ne_eqb, no_start_below)
