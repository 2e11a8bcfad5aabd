-- The text begins with these bytes if its first bytes, as many, are these.
use Rattle.std.proofs.lemmas.Grind.{common_steps}
use Rattle.std.proofs.Common.{arith, rules, ◌≡◌, ◌-◌, ◌∙◌, sym, refl, take, drop, length}
use Rattle.std.proofs.Math.Seq.{take-append_seam}
use Rattle.std.proofs.lemmas.List.{take-append-drop, take_all, length-drop, append_cancel_left}
use Rattle.std.proofs.lemmas.Slice.Eq.{bytes_eq-Decides}
use Rattle.gc_text.proofs.front.Front.literal.Goals as goal

pub returns-then-ne-clause-found : goal.returns-then-ne-clause-found
returns-then-ne-clause-found c more is =
    let same : take (length c.args.wanted.now) c.self.inside.rest.now ≡ c.args.wanted.now = rw (c.self.view_is, is) (take-append_seam c.args.wanted.now more) in
    absurd (grind (arith, common_steps, bytes_eq-Decides, same))

pub returns-clause-taken : goal.returns-clause-taken
returns-clause-taken c =
    let same : take (length c.args.wanted.now) c.self.inside.rest.now ≡ c.args.wanted.now = search rules in
    let text = c.self.inside.rest.now in
    let all = take_all (length text - length c.args.wanted.now) (drop (length c.args.wanted.now) text) (omega (arith, length-drop (length c.args.wanted.now) text)) in
    sym c.self.view_is ∙ sym (take-append-drop (length c.args.wanted.now) c.self.inside.rest.now) ∙ rw (same, all) refl

pub returns-clause-found : goal.returns-clause-found
returns-clause-found c more is = (refl, append_cancel_left c.args.wanted.now _ more (sym (returns-clause-taken c) ∙ is))
