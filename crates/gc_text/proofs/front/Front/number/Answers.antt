-- A text begins with one number at most, so if that is above `most`, it begins with none up to `most`.
use Rattle.std.proofs.Common.{List, ℕ, Some, None, refl, arith, subst}
use Rattle.gc_text.specs.Fronts.{BeginsWithNumber}
use Rattle.gc_text.proofs.DecimalNumbers.{one_front}
use Rattle.gc_text.proofs.FrontNumbers.{number_found}
use Rattle.gc_text.proofs.front.Front.number.Goals as goal

pub returns-then-n-most-clause-taken : goal.returns-then-n-most-clause-taken
returns-then-n-most-clause-taken c = (
  refl,
  λ n rest le begins.
      let found = subst (λ (text : List ℕ). BeginsWithNumber text c.in_ok-n.n c.in_ok-n.rest.now) c.self.view_is c.in_ok-n.ensures in
      omega (arith, le, c.if-n-most.true, (one_front c.args.self.now c.in_ok-n.n n c.in_ok-n.rest.now rest found begins).0),
)

pub returns-then-n-most-clause-found : goal.returns-then-n-most-clause-found
returns-then-n-most-clause-found c n more le ends is = number_found c.args.most n c.args.self.now c.args.self.now more None (omega arith) (returns-then-n-most-clause-taken c) le ends is

pub returns-clause-found : goal.returns-clause-found
returns-clause-found c n more le ends is =
    let found = subst (λ (text : List ℕ). BeginsWithNumber text c.in_ok-n.n c.in_ok-n.rest.now) c.self.view_is c.in_ok-n.ensures in
    number_found c.args.most n c.args.self.now c.in_ok-n.rest.now more (Some c.in_ok-n.n) (omega arith) (omega arith, found) le ends is
