-- The codes of a run of places in one word change, and no others.
use Rattle.std.proofs.Common.{get_or, sym, ◌∙◌, ap, arith}
use Rattle.gc_monitor.specs.Events.{code_of}
use Rattle.gc_monitor.specs.Internal.InWords.{Codes}
use Rattle.gc_monitor.proofs.Packed.{HasRun, run_set, seen_length, length-codes}
use Rattle.gc_monitor.proofs.code_row.CodeRow.set_in_word.Goals as goal
use Rattle.gc_monitor.proofs.code_row.CodeRow.set_in_word.Goals.{After-with_run}

run : (c : After-with_run) → HasRun (code_of c.args.due) c.self.inside.words.items c.self.inside.len c.args.from c.args.count c.with_run.result
run c = run_set _ _ _ _ _ _ _ _ _ c.self.invariant.0 c.self.view_is c.requires.within c.requires.some c.requires.word c.index.ensures c.with_run.ensures.run c.with_run.ensures.others

pub index-requires : goal.index-requires
index-requires c = omega (arith, c.self.invariant.0.count, c.self.inside.words.ok.0, seen_length _ _ _ _ c.self.view_is)

pub index_mut-requires : goal.index_mut-requires
index_mut-requires c = omega (arith, c.self.invariant.0.count, c.self.inside.words.ok.0, seen_length _ _ _ _ c.self.view_is)

pub invariant_of-self : goal.invariant_of-self
invariant_of-self c = ((run (goal.at.invariant_of-self c).After-with_run).has, c.self.invariant.1)

pub returns-clause-len : goal.returns-clause-len
returns-clause-len c = length-codes _ c.self.inside.len ∙ sym (seen_length _ _ _ _ c.self.view_is)

pub returns-clause-run : goal.returns-clause-run
returns-clause-run c = (run (goal.at.returns-clause-run c).After-with_run).run

pub returns-clause-others : goal.returns-clause-others
returns-clause-others c = λ place out. (run (goal.at.returns-clause-others c).After-with_run).others place out ∙ ap (λ (t : Codes). get_or t.codes place 0) c.self.view_is
