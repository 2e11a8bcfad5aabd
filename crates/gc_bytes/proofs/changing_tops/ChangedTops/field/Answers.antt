-- The field is the first one, or another.
use Rattle.std.proofs.Common.{◌≡◌, ◌+◌, ◌-◌, ◌*◌, ◌<◌, length, get_or, min, ap, sym, refl, ◌∙◌, arith}
use Rattle.std.proofs.lemmas.List.{take_rest}
use Rattle.gc_bytes.specs.ChangedTops.{changed_top, patched_top}
use Rattle.gc_bytes.specs.Vector.{tops_for}
use Rattle.gc_bytes.proofs.ChangedVectors.{changed_top_at, first_of_all, front_is, later_of_all, length-changed_tops_in}
use Rattle.gc_bytes.proofs.changing_tops.ChangedTops.field.Goals as goal
use Rattle.gc_bytes.proofs.changing_tops.ChangedTops.field.Goals.{After-self}

inside : (c : After-self) → c.args.i < tops_for (c.self.inside.skip + length c.self.inside.words.now)
inside c = let i = c.self.inside in let l = sym (length-changed_tops_in i.first i.last i.skip i.words.now) ∙ ap length c.self.view_is in omega (arith, l, c.requires)

is : (c : After-self) → changed_top c.self.inside.first c.self.inside.last c.self.inside.skip c.self.inside.words.now c.args.i ≡ get_or c.args.self.now c.args.i 0
is c = let x = c.self.inside in sym (changed_top_at x.first x.last x.skip x.words.now c.args.i (inside c)) ∙ ap (λ ws. get_or ws c.args.i 0) c.self.view_is

pub returns-then-i-eq0-clause-field : goal.returns-then-i-eq0-clause-field
returns-then-i-eq0-clause-field c =
    let x = c.self.inside in
    let room : c.min-front.result ≡ min (63 - x.skip) (length x.words.now) = omega (arith, c.min-front.ensures) in
    c.patched_top.ensures.field
    ∙ ap (patched_top x.first x.skip) (front_is x.words.now x.words.now c.min-front.result (63 - x.skip) room refl)
    ∙ sym (first_of_all x.first x.last x.skip x.words.now c.args.i c.if-i-eq0.true)
    ∙ is (goal.at.returns-then-i-eq0-clause-field c).After-self

pub overflow_mul-rest : goal.overflow_mul-rest
overflow_mul-rest c = let i = inside (goal.at.overflow_mul-rest c).After-self in omega (arith, i, c.self.invariant, c.self.told)

pub offset_bounds-self-inside-i : goal.offset_bounds-self-inside-i
offset_bounds-self-inside-i c = let i = inside (goal.at.offset_bounds-self-inside-i c).After-self in omega (arith, i, c.self.invariant, c.self.told)

pub slice_bounds-rest-count : goal.slice_bounds-rest-count
slice_bounds-rest-count c = let i = inside (goal.at.slice_bounds-rest-count c).After-self in omega (arith, i, c.if-i-eq0.false)

pub slice_bounds-rest-start : goal.slice_bounds-rest-start
slice_bounds-rest-start c = let i = inside (goal.at.slice_bounds-rest-start c).After-self in omega (arith, i, c.if-i-eq0.false)

pub returns-clause-field : goal.returns-clause-field
returns-clause-field c =
    let x = c.self.inside in
    let from = 63 * c.args.i - x.skip in
    let few = c.self.invariant.0 in
    c.patched_top-2.ensures.field
    ∙ ap (patched_top x.last 0) (front_is _ _ c.min-count.result 63 (omega (arith, c.min-count.ensures)) (take_rest x.words.now from))
    ∙ sym (later_of_all x.first x.last x.skip x.words.now c.args.i c.if-i-eq0.false few)
    ∙ is (goal.at.returns-clause-field c).After-self
