-- Where no replica starts there is 0, and where one does the entry of half the place is its original.
use Rattle.std.proofs.lemmas.Grind.{common_steps}
use Rattle.std.proofs.lemmas.Bool.{cases_lt}
use Rattle.std.proofs.Common.{◌≡◌, inl, inr, true, false, ap, sym, ◌∙◌, arith}
use Rattle.gc_words.specs.Marks.{is_marked}
use Rattle.gc_monitor.proofs.Halves.{none_past, none_unmarked, original_read}
use Rattle.gc_monitor.proofs.origin_row.OriginRow.get.Goals as goal

pub returns-then-place-self-clause-origin : goal.returns-then-place-self-clause-origin
returns-then-place-self-clause-origin c = none_past _ _ _ _ c.args.place _ c.self.view_is c.if-place-self.true

pub returns-then-not-is_marked-clause-origin : goal.returns-then-not-is_marked-clause-origin
returns-then-not-is_marked-clause-origin c = none_unmarked _ _ _ _ c.args.place _ c.self.view_is c.if-place-self.false (sym c.if-not-is_marked.true ∙ c.is_marked.ensures ∙ ap (λ bits. is_marked bits c.args.place) c.as_slice.ensures.value)

pub returns-clause-origin : goal.returns-clause-origin
returns-clause-origin c = original_read _ _ _ _ c.args.place _ _ c.self.view_is c.self.invariant.0 c.if-place-self.false (sym c.if-not-is_marked.false ∙ c.is_marked.ensures ∙ ap (λ bits. is_marked bits c.args.place) c.as_slice.ensures.value) c.index.ensures

pub returns-clause-place : goal.returns-clause-place
returns-clause-place c = λ some. (
  elim (cases_lt 0 c.args.place) [
    | inl low ↦ low
    | inr none ↦ absurd (let marked : true ≡ is_marked c.self.inside.starts.items c.args.place = sym c.if-not-is_marked.false ∙ c.is_marked.ensures ∙ ap (λ bits. is_marked bits c.args.place) c.as_slice.ensures.value in
        let at : c.args.place ≡ 0 = omega (arith, none) in
        let both : true ≡ false = marked ∙ ap (is_marked c.self.inside.starts.items) at ∙ c.self.invariant.0.first in cc)
  ],
  grind (arith, common_steps, c.self.invariant.1, c.if-place-self.false),
)
