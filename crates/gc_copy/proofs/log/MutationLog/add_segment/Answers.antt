-- A segment is added behind the others, so the entries stay the same, and the log has room for one segment more of them.
use Rattle.std.proofs.lemmas.Grind.{common_steps}
use Rattle.std.proofs.Common.{sym, subst, arith}
use Rattle.std.proofs.lemmas.List.{length_push}
use Rattle.gc_copy.specs.Internal.Segments.{IsLog}
use Rattle.gc_copy.proofs.Segments.{full_within, log_longer, longer_same, left_in}
use Rattle.gc_copy.proofs.log.MutationLog.add_segment.Goals as goal

pub invariant_of-self-in-Continue-branch-2 : goal.invariant_of-self-in-Continue-branch-2
invariant_of-self-in-Continue-branch-2 c =
    let l = c.self.inside in
    let s = c.in_ok-segment in
    subst (λ ss. IsLog ss l.full l.last l.gone) (sym c.in_ok-push_back.ensures.items)
    (log_longer _ l.full l.last l.gone c.self.invariant s.segment s.ensures.len s.ensures.exact (omega arith) (λ none. omega arith))

pub returns-in_ok-push_back-clause-entries : goal.returns-in_ok-push_back-clause-entries
returns-in_ok-push_back-clause-entries c = grind (arith, common_steps, left_in, longer_same)

pub returns-in_ok-push_back-clause-room : goal.returns-in_ok-push_back-clause-room
returns-in_ok-push_back-clause-room c = grind (arith, common_steps, full_within, length_push)
