-- If the input ends, the rest of the text waits, and a byte that waits is a bad line.
use Rattle.std.proofs.Common.{rules, arith, ◌≢◌, [], sym, ◌∙◌}
use Rattle.gc_text.proofs.Public.{no_byte}
use Rattle.gc_cert.proofs.ReadPieces.{cannot_read, cannot_go_on}
use Rattle.gc_cert.proofs.pair_lines.end.Goals as goal

pub returns-then-is_empty-clause-place : goal.returns-then-is_empty-clause-place
returns-then-is_empty-clause-place g c text p h =
    let last = c.in-Ok.ensures.place text p h in
    (last.rest_is ∙ no_byte c.read_to_end.new.self.waiting (search rules), omega (arith, last.short, c.read_to_end.ensures.limit, c.requires.limit))

pub returns-else-is_empty-clause-place : goal.returns-else-is_empty-clause-place
returns-else-is_empty-clause-place g c text p h =
    let last = c.in-Ok.ensures.place text p h in
    let some : c.read_to_end.new.self.waiting ≢ [] = search rules in
    ((λ empty. some (sym last.rest_is ∙ empty)), omega (arith, last.taken_is, c.taken.ensures.value), omega (arith, last.short, c.read_to_end.ensures.limit, c.requires.limit))

pub returns-in-Err-clause-place : goal.returns-in-Err-clause-place
returns-in-Err-clause-place g c text p h = cannot_go_on _ text p _ (rw c.from.ensures (cannot_read c.in-Err.fault c.args.lines.now.limit text _ c.requires.limit (c.in-Err.ensures.place text p h)))
