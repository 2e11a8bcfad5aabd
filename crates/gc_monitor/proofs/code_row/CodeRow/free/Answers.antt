-- The codes of one word are freed, if there is such a word, and no others change.
use Rattle.gc_monitor.proofs.Packed.{code_seen}
use Rattle.std.proofs.lemmas.Grind.{common_steps}
use Rattle.std.proofs.Common.{◌<◌, length, ◌∙◌, ap, arith}
use Rattle.std.proofs.lemmas.List.{get_or_default}
use Rattle.gc_monitor.specs.Internal.InWords.{code_in, freed}
use Rattle.gc_monitor.proofs.Freed.{IsFreed, is_freed}
use Rattle.gc_monitor.proofs.code_row.CodeRow.free.Goals as goal

pub returns-then-word-len-clause-freed : goal.returns-then-word-len-clause-freed
returns-then-word-len-clause-freed c = λ place here. grind (arith, common_steps, code_seen)

pub invariant_of-self : goal.invariant_of-self
invariant_of-self c =
    let inside : c.args.word < length c.self.inside.words.items = omega (arith, c.if-word-len.false) in
    let f : IsFreed c.self.inside.words.items c.self.inside.len c.args.word c.freed.result
    = is_freed _ _ _ _ c.self.invariant.0 inside (λ k within. c.freed.ensures k within ∙ ap (λ n. freed (code_in n k)) (c.index.ensures ∙ get_or_default c.self.inside.words.items c.args.word c.index.result.now 0 inside)) in
    (f.has, c.self.invariant.1)

pub returns-clause-len : goal.returns-clause-len
returns-clause-len c = grind (arith, common_steps, is_freed, get_or_default)

pub returns-clause-freed : goal.returns-clause-freed
returns-clause-freed c = grind (arith, common_steps, is_freed, get_or_default)

pub returns-clause-others : goal.returns-clause-others
returns-clause-others c = grind (arith, common_steps, is_freed, get_or_default)
