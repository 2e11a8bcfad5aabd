-- The words have all the bytes.
use Rattle.std.proofs.Common.{length, ap, sym, ◌∙◌, arith}
use Rattle.std.proofs.lemmas.List.{length-take-le}
use Rattle.gc_bytes.specs.Text.{bytes_of}
use Rattle.gc_bytes.proofs.Digits.{length-bytes_of}
use Rattle.gc_bytes.proofs.text.Text.len.Goals as goal

pub returns : goal.returns
returns c =
    let words = c.self.inside.words.now in
    let all = length-bytes_of words in
    sym (length-take-le c.self.inside.count (bytes_of words) (omega (arith, c.self.invariant.0))) ∙ ap length c.self.view_is
