-- A turn compares one word more.
use Rattle.std.proofs.Common.{◌≡◌, inl, inr, ◌+◌, IsTrue, sym, subst, ◌∙◌, arith}
use Rattle.std.specs.Prelude.{slice_index}
use Rattle.std.proofs.lemmas.Bool.{cases_lt}
use Rattle.gc_words.specs.Word.{field_words_correspond}
use Rattle.gc_monitor.specs.Origins.{pairs_in}
use Rattle.gc_monitor.proofs.monitor.Monitor.are_alike.Goals as goal

pub loop-k-preserved : goal.loop-k-preserved
loop-k-preserved c = λ j less. elim (cases_lt j c.loop-k.k) [
  | inl earlier ↦ c.loop-k.invariant j earlier
  | inr late ↦ (let last : c.loop-k.k ≡ j = omega (arith, late, less) in
      subst (λ n. IsTrue (field_words_correspond c.args.header (pairs_in c.args.self.now.origins) (slice_index c.args.old.now (c.args.from + n)) (slice_index c.args.new.now (c.args.place + n)))) last
      (subst (λ v. IsTrue (field_words_correspond c.args.header (pairs_in c.args.self.now.origins) v (slice_index c.args.new.now (c.args.place + c.loop-k.k)))) (sym c.word.ensures)
      (sym c.is_alike.ensures ∙ c.if-not-is_alike.false)))
]
