-- The words are zeros, and no object starts there.
use Rattle.std.proofs.Common.{rules, ◌≡◌, ◌+◌, ◌/◌, replicate, arith}
use Rattle.gc_concurrent.proofs.PlainWords.{zeros_plain}
use Rattle.gc_concurrent.proofs.next.NextSpace.new.Goals as goal

pub invariant_of-result : goal.invariant_of-result
invariant_of-result c =
    let zeros : c.in_ok-words.words.items ≡ replicate c.args.size 0 = search (rules, c.in_ok-words.ensures.items_if_clones_equal) in
    let none : c.in_ok-starts.starts.items ≡ replicate (c.args.size / 64 + 1) 0 = search (rules, c.in_ok-starts.ensures.items_if_clones_equal) in
    zeros_plain c.args.size _ _ c.requires.low (omega arith) zeros none
