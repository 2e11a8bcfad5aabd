-- The oldest entry comes after those that are gone, in the first full segment or, if there is none, in the last segment.
use Rattle.std.proofs.lemmas.Grind.{common_steps}
use Rattle.std.proofs.Common.{◌+◌, ◌/◌, ◌%◌, ◌≡◌, length, Some, refl, ap, sym, ◌∙◌, arith}
use Rattle.std.specs.Prelude.{slice_get}
use Rattle.std.specs.Option.{option_map}
use Rattle.std.proofs.lemmas.Option.{slice_get_read}
use Rattle.gc_copy.specs.Words.{Log}
use Rattle.gc_copy.specs.Entries.{entry_in}
use Rattle.gc_copy.specs.Internal.Segments.{segment}
use Rattle.gc_copy.proofs.Segments.{full_within, copied, entry_in_full, entry_in_last}
use Rattle.gc_copy.proofs.log.MutationLog.oldest.Goals as goal

pub returns-else-self-gt0 : goal.returns-else-self-gt0
returns-else-self-gt0 c = grind (arith, common_steps, copied, entry_in_last)

pub returns-then-self-gt0 : goal.returns-then-self-gt0
returns-then-self-gt0 c =
    let l = c.self.inside in
    let w = full_within l.full l.segments.items c.self.invariant.shape in
    let first = c.self.invariant.first in
    let at : 0 ≡ (l.gone + 0) / segment = omega arith in
    let here : l.gone ≡ (l.gone + 0) % segment = omega arith in
    let there : slice_get l.segments.items 0 ≡ Some c.index.result.now = slice_get_read l.segments.items (length l.segments.items) 0 c.index.result.now refl (omega arith) c.index.ensures in
    ap (option_map entry_in) (c.copied.ensures ∙ copied c.deref.result.now l.gone c.get.result c.get.ensures.lookup.3 c.get.ensures.lookup.1 ∙ (λ i. slice_get (c.deref.ensures.value i) (here i)))
    ∙ sym (entry_in_full _ l.full l.last l.gone c.self.invariant 0 c.index.result.now (omega arith) (ap (slice_get l.segments.items) (sym at) ∙ there))
    ∙ ap (λ (log : Log). slice_get log.entries 0) c.self.view_is
