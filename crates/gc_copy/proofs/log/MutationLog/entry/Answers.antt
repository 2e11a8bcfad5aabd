-- Entry `k` lies in the segment that its place, divided by the size of a segment, tells; the full segments come before the last one.
use Rattle.std.proofs.lemmas.Grind.{common_steps}
use Rattle.std.proofs.Common.{◌+◌, ◌/◌, ◌%◌, ◌≡◌, length, Some, refl, ap, sym, ◌∙◌, arith}
use Rattle.std.specs.Prelude.{slice_get}
use Rattle.std.specs.Option.{option_map}
use Rattle.std.proofs.lemmas.Option.{slice_get_read}
use Rattle.gc_copy.specs.Words.{Log}
use Rattle.gc_copy.specs.Entries.{entry_in}
use Rattle.gc_copy.specs.Internal.Segments.{segment}
use Rattle.gc_copy.proofs.Segments.{full_within, bounded, counted, copied, entry_in_full, entry_in_last}
use Rattle.gc_copy.proofs.log.MutationLog.entry.Goals as goal

pub overflow_add-place : goal.overflow_add-place
overflow_add-place c =
    let l = c.self.inside in
    omega (arith, bounded _ l.full l.last l.gone c.self.invariant, counted _ l.full l.last l.gone c.self.invariant ∙ ap (λ (log : Log). length log.entries) c.self.view_is)

pub index-requires : goal.index-requires
index-requires c = let l = c.self.inside in let w = full_within l.full l.segments.items c.self.invariant.shape in let ok = l.segments.ok in omega arith

pub overflow_mul-self-inside : goal.overflow_mul-self-inside
overflow_mul-self-inside c = let l = c.self.inside in let b = bounded _ l.full l.last l.gone c.self.invariant in omega arith

pub returns-then-place-self : goal.returns-then-place-self
returns-then-place-self c =
    let l = c.self.inside in
    let place = l.gone + c.args.k in
    let w = full_within l.full l.segments.items c.self.invariant.shape in
    let there : slice_get l.segments.items (place / segment) ≡ Some c.index.result.now = slice_get_read l.segments.items (length l.segments.items) (place / segment) c.index.result.now refl (omega arith) c.index.ensures in
    ap (option_map entry_in) (c.copied.ensures ∙ copied c.deref.result.now (place % segment) c.get.result c.get.ensures.lookup.3 c.get.ensures.lookup.1 ∙ (λ i. slice_get (c.deref.ensures.value i) (place % segment)))
    ∙ sym (entry_in_full _ l.full l.last l.gone c.self.invariant c.args.k c.index.result.now c.if-place-self.true there)
    ∙ ap (λ (log : Log). slice_get log.entries c.args.k) c.self.view_is

pub returns-else-place-self : goal.returns-else-place-self
returns-else-place-self c = grind (arith, common_steps, copied, entry_in_last)
