-- A turn lowers the link of one object and leaves the words behind it, so their links are still those of the start.
use Rattle.std.proofs.Common.{◌≡◌, ◌+◌, ◌-◌, ℕ, Some, get_or, sym, ◌∙◌, ap, subst, arith}
use Rattle.std.specs.Prelude.{slice_set, IsOk}
use Rattle.std.proofs.lemmas.List.{get_or-set_other}
use Rattle.gc_words.specs.Spelling.{link_at}
use Rattle.gc_words.specs.Walking.{next_of}
use Rattle.gc_words.specs.Internal.Walking.{walk_from}
use Rattle.gc_words.proofs.Steps.{Behind, behind, relinked_step, relinked_from}
use Rattle.gc_words.proofs.layout.lower_links.Goals as goal

pub loop-at-preserved : goal.loop-at-preserved
loop-at-preserved c =
    let at = c.loop-at.at in
    let words = c.loop-at.words in
    let next = c.unwrap-next.result in
    let links : ℕ → ℕ = λ a. link_at c.args.words.now a - c.args.mark in
    let found : next_of words at ≡ Some next = sym c.next_start.ensures ∙ c.unwrap-next.ensures in
    let place : c.link_index-place.result ≡ at + 1 = c.link_index-place.ensures in
    let same : get_or words c.link_index-place.result 0 ≡ get_or c.args.words.now c.link_index-place.result 0 = c.loop-at.invariant.rest c.link_index-place.result (omega arith) in
    let low : c.saturating_sub.result ≡ links at = c.saturating_sub.ensures ∙ ap (λ w. w - c.args.mark) (same ∙ ap (λ p. get_or c.args.words.now p 0) place) in
    let step = relinked_step links words at next c.loop-at-test.true c.loop-at.invariant.walked found in
    let placed = subst (λ p. IsOk (walk_from (slice_set words p (links at)) next) × (relinked_from links words at ≡ relinked_from links (slice_set words p (links at)) next)) (sym place) step in
    let written = subst (λ w. IsOk (walk_from (slice_set words c.link_index-place.result w) next) × (relinked_from links words at ≡ relinked_from links (slice_set words c.link_index-place.result w) next)) (sym low) placed in
    let b : Behind words at next = behind words at next c.loop-at-test.true c.loop-at.invariant.walked found in
    let on = b.step.place in
    record {
      walked = written.0;
      lowered = c.loop-at.invariant.lowered ∙ written.1;
      rest = λ p less. get_or-set_other words c.link_index-place.result p c.saturating_sub.result 0 (λ e. omega arith) ∙ c.loop-at.invariant.rest p (omega arith);
    }
