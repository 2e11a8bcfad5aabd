-- A number before something apart ends where its digits end.
use Rattle.std.proofs.lemmas.Grind.{common_steps}
use Rattle.std.proofs.Common.{arith, ap, ◌∙◌}
use Rattle.std.proofs.Common.{Some, ◌≡◌, ◌+◌, drop}
use Rattle.gc_trace.proofs.FrontTokens.{small_found}
use Rattle.gc_trace.proofs.front.next_small_number.Goals as goal

pub returns-clause-found : goal.returns-clause-found
returns-clause-found c n more small apart is =
    let f = small_found more n c.in_ok-n.n c.in_ok-n.count (rw (c.rest-text.ensures, is) at c.in_ok-n.ensures.one) (rw (c.rest-text.ensures, is) at c.in_ok-n.ensures.two) small apart in
    let cut : c.new.result ≡ drop (1 + c.in_ok-n.count) c.rest-text.result.now = grind (arith, common_steps) in
    (ap Some f.value, cut ∙ rw (c.rest-text.ensures, is) (f.after_one _))
