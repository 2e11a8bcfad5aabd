-- The pairs in the front of the caller's array are the inferred ones, of which the same paths find both objects.
use Rattle.std.proofs.Common.{rules, ◌≡◌, ◌++◌, length, take, drop, sym, ◌∙◌, subst}
use Rattle.std.proofs.Math.Seq.{take-append_seam}
use Rattle.gc_check.specs.Infer.{AreTogether}
use Rattle.gc_check.specs.Verdict.{pairs_of}
use Rattle.gcflip_c.specs.Images.{image}
use Rattle.gcflip_c.proofs.inference.gcflip_infer.Goals as goal
use Rattle.gcflip_c.proofs.inference.gcflip_infer.Goals.{After-copy_from_slice}

together : (c : After-copy_from_slice) → AreTogether (image c.args.old_size c.args.old_end c.args.old_raws c.args.old_words.now c.args.old_roots.now) (image c.args.new_size c.args.new_end c.args.new_raws c.args.new_words.now c.args.new_roots.now)
    (pairs_of (take c.len-found.result (c.copy_from_slice.new.self ++ drop c.len-found.result c.args.pairs.now)))
together c =
    let items = c.in-Ok.comparison.pairs.items in
    let rest = drop c.len-found.result c.args.pairs.now in
    let copied : c.copy_from_slice.new.self ≡ items = c.copy_from_slice.ensures.after ∙ c.as_slice.ensures.value in
    let count : c.len-found.result ≡ length items = search rules in
    let same : take c.len-found.result (c.copy_from_slice.new.self ++ rest) ≡ items = (λ i. take (count i) (copied i ++ rest)) ∙ take-append_seam items rest in
    subst (λ row. AreTogether (image c.args.old_size c.args.old_end c.args.old_raws c.args.old_words.now c.args.old_roots.now) (image c.args.new_size c.args.new_end c.args.new_raws c.args.new_words.now c.args.new_roots.now) (pairs_of row)) (sym same) c.in-Ok.ensures.together

pub returns-in-Yes-clause-together : goal.returns-in-Yes-clause-together
returns-in-Yes-clause-together c = λ answered. together (goal.at.returns-in-Yes-clause-together c).After-copy_from_slice

pub returns-clause-together : goal.returns-clause-together
returns-clause-together c = λ answered. together (goal.at.returns-clause-together c).After-copy_from_slice
