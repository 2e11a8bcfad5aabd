-- Each piece that is read goes on in the same text, and its fault is a fault of the text.
use Rattle.std.proofs.lemmas.Grind.{common_steps}
use Rattle.std.proofs.Common.{◌≡◌, ℕ, false, rules, arith, sym, ap, ◌∙◌, subst}
use Rattle.std.proofs.lemmas.Result.{err_from_is_err_and}
use Rattle.gc_graph.specs.Streams.{bytes_left, source_failed}
use Rattle.gc_text.specs.Reading.{Progress, CannotRead}
use Rattle.gc_text.proofs.lines.Lines.more.Goals as goal

pub returns-in_err-count-clause-place : goal.returns-in_err-count-clause-place
returns-in_err-count-clause-place g c text place h =
    let p = err_from_is_err_and c.from_residual-in_err-count.result c.from_residual-in_err-count.ensures.1 in
    let limit : c.loop-count.self.limit ≡ c.args.self.now.limit = c.loop-count.invariant.limit ∙ ap (λ (s : Progress). s.limit) c.drop_taken.ensures.same in
    rw (p.1, p.2) (subst (λ (n : ℕ). CannotRead c.in_err-count.field-0.0 n text (bytes_left g.R.Read.remaining c.read_piece.new.reader)) limit (c.in_err-count.ensures.place text place (c.loop-count.invariant.place text place (rw (sym c.drop_taken.ensures.same) at h))))

pub overflow_add-count : goal.overflow_add-count
overflow_add-count g c = grind (arith, common_steps)

pub loop-count-preserved : goal.loop-count-preserved
loop-count-preserved g c =
    let i = c.loop-count.invariant in
    let good : source_failed c.read_piece.new.reader ≡ false = search rules in
    record {
      place = λ text place h. c.in_ok-count.ensures.place text place (i.place text place h);
      read = omega (arith, i.read, c.in_ok-count.ensures.counts);
      waiting = omega (arith, i.waiting, c.in_ok-count.ensures.counts);
      limit = c.in_ok-count.ensures.limit ∙ i.limit;
      taken = c.in_ok-count.ensures.taken ∙ i.taken;
      some = i.some;
      enough = i.enough;
      later = λ _. good;
      after_bytes = λ _. good;
      after_end = λ _ _. good;
    }

pub returns-clause-place : goal.returns-clause-place
returns-clause-place g c text place h = c.loop-count.invariant.place text place (rw (sym c.drop_taken.ensures.same) at h)
