-- Where one collection is enough, or no other would help, there is no second call of work. It was whole if no collection was open before it.
use Rattle.std.proofs.lemmas.Grind.{common_steps}
use Rattle.std.proofs.Common.{◌≡◌, inl, refl, ◌∙◌, arith}
use Rattle.gc_pace.specs.Work.{no_work}
use Rattle.gcflip_heap_c.specs.Room.{FlipsAnew, full, joined_report}
use Rattle.gcflip_heap_c.proofs.room.collect_for.Goals as goal
use Rattle.gcflip_heap_c.proofs.room.collect_for.Goals.{After-joined, else-anew-2, then-anew-2}

whole : (c : After-joined) → c.answer_of.result ≡ full → FlipsAnew c.args.heap.now c.finish-first.result
whole c is = elim c.if-anew-2.branch [
  | then-anew-2 w ↦ (
    grind (arith, common_steps, w.if-anew-2, c.is_open-anew.ensures),
    grind (arith, common_steps, w.has_flipped-then-anew-2.ensures, w.answer_of-is, c.answer_of.ensures.whole is),
  )
  | else-anew-2 w ↦ absurd (grind (arith, common_steps, w.answer_of-is, c.answer_of.ensures.whole is))
]

pub returns-then-free-words-clause-collects : goal.returns-then-free-words-clause-collects
returns-then-free-words-clause-collects c = record {
  between = c.finish-first.new.heap;
  first = c.finish-first.result;
  second = no_work;
  ends = c.finish-first.ensures;
  anew = inl (refl, refl);
  told = c.joined.ensures ∙ (λ k. joined_report (c.report.ensures k) (c.report-then-free-words.ensures k));
  whole = λ is. inl (whole (goal.at.returns-then-free-words-clause-collects c).After-joined is);
}
