-- Without the first segment the joined entries begin after it; a segment that comes back at the end has none.
use Rattle.std.proofs.lemmas.Grind.{common_steps}
use Rattle.std.proofs.Common.{◌-◌, drop, sym, ap, ◌∙◌, subst, arith}
use Rattle.gc_copy.specs.Internal.Segments.{segment, joined, AreSegments}
use Rattle.gc_copy.proofs.Segments.{first_of, pushed}
use Rattle.gc_copy.proofs.log.drop_first.Goals as goal

pub returns-then-len-full-clause-segments : goal.returns-then-len-full-clause-segments
returns-then-len-full-clause-segments c = grind (arith, common_steps, first_of, pushed)

pub returns-then-len-full-clause-joined : goal.returns-then-len-full-clause-joined
returns-then-len-full-clause-joined c =
    let f = first_of c.args.full c.in-Some.first c.pop_front.new.self.items (subst (AreSegments c.args.full) c.in-Some.ensures.items c.requires.segments) c.requires.full in
    let p = pushed (c.args.full - 1) c.pop_front.new.self.items c.clear.new.self f.1 c.clear.ensures.len (c.clear.ensures.capacity ∙ f.0) in
    ap joined c.push_back_reserved.ensures.items ∙ p.1 ∙ f.2 ∙ ap (λ ss. drop segment (joined ss)) (sym c.in-Some.ensures.items)

pub returns-else-len-full-clause-joined : goal.returns-else-len-full-clause-joined
returns-else-len-full-clause-joined c = grind (arith, common_steps, first_of)
