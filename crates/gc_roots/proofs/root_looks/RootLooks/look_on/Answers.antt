-- The words are alike up to the end of the row; or each extra root was looked at as by itself.
use Rattle.std.proofs.Common.{◌≡◌, ◌≢◌, ◌+◌, ◌-◌, ◌≤◌, ⊎_elim, ℕ, true, false, inl, inr, Option, Some, None, is_some, refl, sym, ap, ◌∙◌, subst, arith}
use Rattle.std.specs.Prelude.{slice_index}
use Rattle.std.proofs.lemmas.Bool.{cases_eq, cases_lt}
use Rattle.gc_words.specs.Marks.{is_marked}
use Rattle.gc_words.specs.Word.{words_correspond}
use Rattle.gc_monitor.specs.Origins.{pairs_in}
use Rattle.gc_roots.proofs.root_looks.RootLooks.look_on.Goals as goal

none_there : (o : Option ℕ) → is_some o ≡ false → o ≡ None
none_there None e = refl
none_there (Some x) e = absurd cc

pub returns-then-is_none-clause-compared : goal.returns-then-is_none-clause-compared
returns-then-is_none-clause-compared c alike low high k le less =
    let pairs = pairs_in c.args.standing.now.origins in
    let end = c.alike_until.result in
    let all : c.args.slots + c.args.at.to ≤ end = ⊎_elim
    (λ short. absurd (let back : c.args.slots + (end - c.args.slots) ≡ end = omega (arith, c.alike_until.ensures.low) in
    let bad : true ≡ false = sym (alike (end - c.args.slots) (omega (arith, c.alike_until.ensures.low)) (omega (arith, short, c.alike_until.ensures.low)))
    ∙ ap (λ p. words_correspond pairs (slice_index c.args.roots.now p) (slice_index c.args.twins.now p)) back ∙ c.alike_until.ensures.differs short in cc bad))
    (λ reached. reached)
    (cases_lt end (c.args.slots + c.args.at.to)) in
    (omega (arith, all, less), c.first.ensures.none (none_there c.first.result c.if-is_none.ensures) k)

pub loop-k-preserved : goal.loop-k-preserved
loop-k-preserved c =
    let k = c.loop-k.k in
    let was = c.loop-k.invariant in
    let now = c.look.new.self in
    record {
      room = c.look.ensures.room ∙ was.room;
      looked = λ i le less front none. ⊎_elim
          (λ same. subst (λ q. words_correspond (pairs_in c.args.standing.now.origins) (slice_index c.args.roots.now (c.args.slots + q)) (slice_index c.args.twins.now (c.args.slots + q)) ≡ true) (sym same)
          (c.look.ensures.looked (omega (arith, same, front)) (subst (λ q. is_marked now.marks q ≡ false) same none)))
          (λ differ. (let before = c.look.ensures.others i differ front none in was.looked i le (omega (arith, less, differ)) before.0 before.1))
          (cases_eq i k);
      others = λ i beside front none.
          let differ : i ≢ k = λ same. ⊎_elim (λ low. omega (arith, low, same, c.loop-k.auto.k)) (λ past. omega (arith, past, same)) beside in
          let before = c.look.ensures.others i differ front none in
          was.others i (⊎_elim (λ low. inl low) (λ past. inr (omega (arith, past))) beside) before.0 before.1;
      compared = λ alike low high.
          let before = was.compared alike low high in
          let is = c.look.ensures.compared (alike k c.loop-k.auto.k c.loop-k-test.true) before.0 (omega (arith, c.loop-k-test.true, high, was.room)) in (
            omega (arith, is.front),
            λ i le less. ⊎_elim
                (λ same. subst (λ q. is_marked now.marks q ≡ false) (sym same) is.none)
                (λ differ. is.others i differ ∙ before.1 i le (omega (arith, less, differ)))
                (cases_eq i k),
          );
    }
