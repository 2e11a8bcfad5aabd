-- All words are copied.
use Rattle.std.proofs.Common.{◌+◌, ◌-◌, length, take, drop, sym, ◌∙◌, arith}
use Rattle.std.proofs.lemmas.List.{ext_get_or, get_or-drop, get_or-take, length-drop, length-take}
use Rattle.gc_bytes.specs.Vector.{words_of}
use Rattle.gc_bytes.proofs.Vectors.{words_per_fields, word_is}
use Rattle.gc_bytes.proofs.vector.read_words.Goals as goal

pub returns : goal.returns
returns c =
    let f = c.args.fields.now in
    let at = c.args.at in
    let n = length c.args.out.now in
    let all = words_per_fields f in
    let back = length-drop at (words_of f) in
    let part = length-take (at + n - at) (drop at (words_of f)) in
    ext_get_or 0 c.loop-k.out (take (at + n - at) (drop at (words_of f))) (omega (arith, c.loop-k.auto.out, c.requires.inside)) (λ i less.
    c.loop-k.invariant.copied i (omega (arith, c.loop-k.auto.out, c.loop-k-test.false, c.loop-k.auto.k-end))
    ∙ sym (word_is f (at + i) (omega (arith, c.loop-k.auto.out, c.requires.inside)))
    ∙ sym (get_or-take (at + n - at) (drop at (words_of f)) i 0 (omega (arith, c.loop-k.auto.out)) ∙ get_or-drop at (words_of f) i 0))
