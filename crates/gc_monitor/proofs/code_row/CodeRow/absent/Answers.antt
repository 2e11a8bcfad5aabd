-- No words are a row of no places.
use Rattle.std.proofs.Common.{sym, ◌∙◌, ap, subst, arith}
use Rattle.gc_monitor.specs.Internal.InWords.{HasCodes, codes_in, room_of}
use Rattle.gc_monitor.proofs.Packed.{has_none, no_codes}
use Rattle.gc_monitor.proofs.code_row.CodeRow.absent.Goals as goal

pub invariant_of-result : goal.invariant_of-result
invariant_of-result c = (subst (λ words. HasCodes words 0) (sym c.new.ensures.items) has_none, omega arith)

pub returns : goal.returns
returns c = (λ i. record { codes = (ap (λ words. codes_in words 0) c.new.ensures.items ∙ no_codes) i; room = room_of (c.new.ensures.capacity i) })
