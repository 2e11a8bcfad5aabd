-- A turn sets the link of one object to 0 and leaves the words behind it, so the rest of the walk is as before.
use Rattle.std.proofs.Common.{◌≡◌, sym, ◌∙◌, subst}
use Rattle.std.specs.Prelude.{slice_set, IsOk}
use Rattle.gc_words.specs.Spelling.{no_links}
use Rattle.gc_words.specs.Internal.Walking.{walk_from}
use Rattle.gc_words.proofs.Steps.{relinked_step, relinked_from}
use Rattle.gc_words.proofs.layout.clear_links.Goals as goal

pub loop-at-preserved : goal.loop-at-preserved
loop-at-preserved c =
    let at = c.loop-at.at in
    let words = c.loop-at.words in
    let next = relinked_step no_links words at c.unwrap-next.result c.loop-at-test.true c.loop-at.invariant.walked (sym c.next_start.ensures ∙ c.unwrap-next.ensures) in
    let written = subst (λ p. IsOk (walk_from (slice_set words p 0) c.unwrap-next.result) × (relinked_from no_links words at ≡ relinked_from no_links (slice_set words p 0) c.unwrap-next.result)) (sym c.link_index.ensures) next in
    record { walked = written.0; cleared = c.loop-at.invariant.cleared ∙ written.1 }
