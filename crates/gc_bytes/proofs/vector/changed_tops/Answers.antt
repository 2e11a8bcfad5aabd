-- The first and the last of the fields are read.
use Rattle.std.proofs.Common.{◌+◌, ◌/◌, ◌%◌, ◌^◌, length, get_or, ap, ◌∙◌}
use Rattle.gc_bytes.specs.ChangedTops.{changed_tops_in}
use Rattle.gc_bytes.specs.Vector.{words_in}
use Rattle.gc_bytes.proofs.ChangedVectors.{tops_are}
use Rattle.gc_bytes.proofs.vector.changed_tops.Goals as goal

pub returns : goal.returns
returns c =
    let f = c.args.fields.now in
    let skip = c.args.at % 63 in
    ap (λ j. changed_tops_in (get_or f j 0 % 2 ^ 63) (get_or f c.first_top-2.result 0 % 2 ^ 63) skip c.args.words.now) c.first_top.ensures.index
    ∙ ap (λ j. changed_tops_in (get_or f (words_in (length f) + c.args.at / 63) 0 % 2 ^ 63) (get_or f j 0 % 2 ^ 63) skip c.args.words.now) c.first_top-2.ensures.index
    ∙ tops_are f c.args.words.now c.args.at c.requires.some c.requires.inside
