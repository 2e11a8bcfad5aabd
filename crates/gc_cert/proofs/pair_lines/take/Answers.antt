-- A line that was taken is the section of one line; where there is none, the fault is that of the next line.
use Rattle.std.proofs.Common.{◌∙◌}
use Rattle.gc_cert.specs.Internal.Sections.{alone, Spelled}
use Rattle.gc_cert.proofs.Forms.{line_taken}
use Rattle.gc_cert.proofs.ReadPieces.{cannot_read, cannot_end, line_ends}
use Rattle.gc_cert.proofs.pair_lines.take.Goals as goal

pub returns-in-Ok-Some-clause-place : goal.returns-in-Ok-Some-clause-place
returns-in-Ok-Some-clause-place g c text p h =
    let next = rw c.in-Ok-Some.field-0-is at c.in-Ok-Some.ensures.place text p h in
    (next.0, next.1, line_taken (g.K.LineKind.line c.args.kind.now c.in-Ok-Some.value) p next.0 next.2)

pub returns-in-Ok-None-clause-place : goal.returns-in-Ok-None-clause-place
returns-in-Ok-None-clause-place g c text p h =
    let none = rw c.in-Ok-None.field-0-is at c.in-Ok-None.ensures.place text p h in
    line_ends (g.K.LineKind.fits c.args.kind.now) (g.K.LineKind.line c.args.kind.now) text p c.take.new.self _ _ c.requires.some (c.take.ensures.limit ∙ c.requires.limit) none.0 none.1 c.fault_of_next.ensures

pub returns-in-Err-clause-place : goal.returns-in-Err-clause-place
returns-in-Err-clause-place g c text p h =
    cannot_end (Spelled (g.K.LineKind.fits c.args.kind.now) (alone (g.K.LineKind.line c.args.kind.now))) _ text p _ (rw c.from.ensures (cannot_read c.in-Err.fault c.args.lines.now.limit text _ c.requires.limit (c.in-Err.ensures.place text p h)))
