-- A piece takes its bytes from the front of what is left of the text, and without bytes the text has ended.
use Rattle.std.proofs.Common.{rules, arith, ℕ, List, Some, true, take, drop, length, ◌≡◌, ◌+◌, ◌-◌, ◌++◌, ap, sym, ◌∙◌, append_assoc}
use Rattle.std.proofs.lemmas.List.{drop-append-le, take-append-le}
use Rattle.std.specs.Result.{is_ok}
use Rattle.gc_text.proofs.ReadingSteps.{moved, at_end}
use Rattle.gc_text.proofs.lines.Lines.read_piece.Goals as goal

pub returns-then-count-self-clause-place : goal.returns-then-count-self-clause-place
returns-then-count-self-clause-place g c text place h =
    let at = rw (sym c.self.view_is) at h in
    let step = moved text place _ _ _ (take c.in-Ok.count c.read.new.buffer) at c.in-Ok.ensures.bytes.0 in
    let count : c.in-Ok.count ≡ c.self.inside.limit + 1 - c.self.inside.read = search rules in
    rw (sym c.self.view_is) (
      omega (arith, step.bound, c.in-Ok.ensures.bound.1, c.if-count-self.true),
      step.left ∙ ap (λ (n : ℕ). Some (drop n text)) (omega (arith, count, c.in-Ok.ensures.bound.1, c.self.invariant)),
    )

pub returns-clause-place : goal.returns-clause-place
returns-clause-place g c text place h =
    let at = rw (sym c.self.view_is) at h in
    let piece = take c.in-Ok.count c.read.new.buffer in
    let step = moved text place _ _ _ piece at c.in-Ok.ensures.bytes.0 in
    let read : c.self.inside.read + length piece ≡ c.self.inside.read + c.in-Ok.count = omega (arith, c.in-Ok.ensures.bound.1) in
    let added : is_ok c.extend_from_slice.result ≡ true = search rules in
    let waiting : drop c.self.inside.at c.extend_from_slice.new.self.items ≡ drop c.self.inside.at c.self.inside.bytes.items ++ piece
    = ap (drop c.self.inside.at) (search (rules, take-append-le)) ∙ drop-append-le c.self.inside.at c.self.inside.bytes.items piece (omega (arith, c.self.invariant)) in
    let left = ap (λ (n : ℕ). drop n text) read in
    record {
      left_is = step.left ∙ ap (λ (l : List ℕ). Some l) left;
      read_is = omega (arith, step.bound, read);
      rest_is = at.rest_is ∙ ap (λ (l : List ℕ). drop c.self.inside.at c.self.inside.bytes.items ++ l) (step.parts ∙ ap (λ (l : List ℕ). piece ++ l) left)
          ∙ sym (append_assoc (drop c.self.inside.at c.self.inside.bytes.items) piece (drop (c.self.inside.read + c.in-Ok.count) text))
          ∙ ap (λ (l : List ℕ). l ++ drop (c.self.inside.read + c.in-Ok.count) text) (sym waiting);
      taken_is = at.taken_is;
      end_is = λ none. at_end text (c.self.inside.read + c.in-Ok.count) _ (step.left ∙ ap (λ (l : List ℕ). Some l) left) (c.in-Ok.ensures.bytes.1 (search rules) (search rules));
    }
