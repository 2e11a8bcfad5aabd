-- The difference with threes at these places takes each three there to 0, and no other code changes.
use Rattle.std.proofs.Common.{sym, ap, ◌∙◌, bit_xor}
use Rattle.std.specs.Int.Bits.{xor_zero_r}
use Rattle.gc_monitor.specs.Events.{code_of}
use Rattle.gc_monitor.specs.Internal.InWords.{code_in}
use Rattle.gc_monitor.proofs.Digits.{code_xor}
use Rattle.gc_monitor.proofs.Packed.{no_code}
use Rattle.gc_monitor.proofs.code_row.with_run.Goals as goal

pub returns-clause-run : goal.returns-clause-run
returns-clause-run c = λ k low high.
    code_xor c.filled-all.result c.filled.result k
    ∙ (λ i. bit_xor (c.filled-all.ensures.filled k low high i) (c.filled.ensures.filled k low high i))
    ∙ ap code_of (sym c.if-due.false)

pub returns-clause-others : goal.returns-clause-others
returns-clause-others c = λ k out.
    code_xor c.filled-all.result c.filled.result k
    ∙ (λ i. bit_xor (c.filled-all.ensures.others k out i) ((c.filled.ensures.others k out ∙ no_code k) i))
    ∙ xor_zero_r (code_in c.args.word k)
