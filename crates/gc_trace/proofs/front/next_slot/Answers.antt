-- The number of a slot before something apart ends where its digits end.
use Rattle.std.proofs.lemmas.Grind.{common_steps}
use Rattle.std.proofs.Common.{arith, ◌∙◌, ◌≡◌, ◌+◌, drop}
use Rattle.gc_trace.specs.Grammar.{slot}
use Rattle.gc_trace.proofs.FrontTokens.{small_found, shared_found, own_found}
use Rattle.gc_trace.proofs.front.next_slot.Goals as goal

pub returns-then-shared-clause-found : goal.returns-then-shared-clause-found
unfolding slot
returns-then-shared-clause-found c s more fits apart is =
    let f = small_found more s.index c.in_ok-index.index c.in_ok-index.count (rw (c.rest-text.ensures, is) at c.in_ok-index.ensures.one) (rw (c.rest-text.ensures, is) at c.in_ok-index.ensures.two) fits apart in
    let cut : c.new.result ≡ drop (2 + c.in_ok-index.count) c.rest-text.result.now = grind (arith, common_steps) in
    (shared_found s _ _ fits f.value (rw (c.rest-text.ensures, is) at c.if-shared.true) c.shared.ensures, cut ∙ rw (c.rest-text.ensures, is) (f.after_two _ _))

pub returns-else-shared-clause-found : goal.returns-else-shared-clause-found
unfolding slot
returns-else-shared-clause-found c s more fits apart is =
    let f = small_found more s.index c.in_ok-index.index c.in_ok-index.count (rw (c.rest-text.ensures, is) at c.in_ok-index.ensures.one) (rw (c.rest-text.ensures, is) at c.in_ok-index.ensures.two) fits apart in
    let cut : c.new.result ≡ drop (2 + c.in_ok-index.count) c.rest-text.result.now = grind (arith, common_steps) in
    (own_found s _ _ fits f.value (rw (c.rest-text.ensures, is) at c.if-shared.false) c.own.ensures, cut ∙ rw (c.rest-text.ensures, is) (f.after_two _ _))
