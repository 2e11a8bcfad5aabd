-- The first seven of eight digits.
use Rattle.std.proofs.Common.{arith}
use Rattle.gc_bytes.proofs.Digits.{number_seven}
use Rattle.gc_bytes.proofs.spelling.whole_word.Goals as goal

pub returns-clause-word : goal.returns-clause-word
returns-clause-word c =
    let is = number_seven c.args.bytes.now (omega (arith, c.requires)) in
    let b0 = c.type_inv.bytes 0 in
    let b1 = c.type_inv.bytes 1 in
    let b2 = c.type_inv.bytes 2 in
    let b3 = c.type_inv.bytes 3 in
    let b4 = c.type_inv.bytes 4 in
    let b5 = c.type_inv.bytes 5 in
    let b6 = c.type_inv.bytes 6 in
    omega (arith, is, c.from_le_bytes-eight.ensures, b0, b1, b2, b3, b4, b5, b6)
