-- The top bit is one of those of a field behind the words.
use Rattle.std.proofs.Common.{◌≡◌, ◌+◌, ◌*◌, ◌/◌, ◌%◌, ◌^◌, get_or, length, ap, sym, ◌∙◌, arith}
use Rattle.std.specs.Int.{bit_at}
use Rattle.gc_bytes.specs.Vector.{low_bits, tops_of, words_in}
use Rattle.gc_bytes.proofs.Vectors.{top_in}
use Rattle.gc_bytes.proofs.vector.word.Goals as goal

pub returns : goal.returns
returns c =
    let f = c.args.fields.now in
    let i = c.args.i in
    let bit = get_or f c.args.tops 0 / 2 ^ c.args.bit % 2 in
    let top : bit ≡ get_or (tops_of f) i 0 = ap (λ k. bit_at (get_or f k 0) c.args.bit) c.requires.field ∙ ap (bit_at (get_or f (words_in (length f) + i / 63) 0)) c.requires.bit ∙ sym (top_in f i) in
    (let low = get_or f i 0 % 2 ^ 63 in let e : low + bit * 2 ^ 63 % 2 ^ 64 ≡ low + 2 ^ 63 * bit = omega arith in e)
    ∙ ap (λ b. low_bits (get_or f i 0) + 2 ^ 63 * b) top
