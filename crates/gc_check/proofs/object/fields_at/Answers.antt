-- The object with this header lies within the words, and its fields follow its link.
use Rattle.std.proofs.Common.{◌≡◌, ◌+◌, ◌∙◌, ap, arith, take, drop, Some}
use Rattle.gc_check.proofs.StartMarks.{header_stands}
use Rattle.gc_check.proofs.object.fields_at.Goals as goal

pub slice_bounds-result-end : goal.slice_bounds-result-end
slice_bounds-result-end c =
    let fits = (header_stands c.args.words.now c.args.start c.args.header c.requires.walked c.requires.header).0 in
    let first : c.field_index-first.result ≡ c.args.start + 2 = omega (arith, c.field_index-first.ensures) in
    let len = c.from.ensures ∙ c.len.ensures in
    omega arith

pub returns-clause-object : goal.returns-clause-object
returns-clause-object c =
    let len = c.from.ensures ∙ c.len.ensures in
    (header_stands c.args.words.now c.args.start c.args.header c.requires.walked c.requires.header).1
    ∙ ap (λ at. Some (record { header = c.args.header; fields = take c.args.header.len (drop at c.args.words.now) })) (omega (arith, c.field_index-first.ensures))
    ∙ ap (λ n. Some (record { header = c.args.header; fields = take n (drop c.field_index-first.result c.args.words.now) })) (omega arith)
