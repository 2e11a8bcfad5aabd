-- The row has the twins that were written, and no mark is below the front.
use Rattle.std.proofs.Common.{◌≡◌, ◌∙◌, ◌++◌, ◌*◌, ◌-◌, ◌<◌, ◌≤◌, ◌^◌, ℕ, List, false, length, take, drop, ap, sym, subst, arith}
use Rattle.std.proofs.Math.Seq.{take-append_seam}
use Rattle.gc_words.specs.Marks.{is_marked}
use Rattle.gc_roots.specs.Twins.{RootRow, marks_below}
use Rattle.gc_roots.proofs.InRow.{none_below}
use Rattle.gc_roots.proofs.root_twins.RootTwins.write_on.Goals as goal

pub invariant_of-self : goal.invariant_of-self
invariant_of-self c =
    let row = c.self.inside in
    let now = c.write_twins-behind.new.twins in
    let long : row.twins.len ≡ length now = omega (arith, c.write_twins-behind.ensures.len, c.as_mut_slice.ensures.len, row.twins.ok.0) in
    let whole : take row.twins.len (now ++ drop (length now) row.twins.items) ≡ now = ap (λ n. take n (now ++ drop (length now) row.twins.items)) long ∙ take-append_seam now (drop (length now) row.twins.items) in
    let none : (i : ℕ) → is_marked row.due i ≡ false = λ i. ap (λ (r : RootRow). is_marked r.marks i) c.self.view_is ∙ c.requires.none i in
    let was = none_below row.due row.front none in
    let here = none_below row.due (c.write_twins-behind.result - c.args.slots) none in
    subst (λ (xs : List ℕ). (length xs ≤ 64 * length row.due) × (c.write_twins-behind.result - c.args.slots ≤ length xs) × (row.used ≤ length xs) × (row.stale ≤ length xs)
    × (length xs < 2 ^ 32) × (row.again ≡ marks_below row.due (c.write_twins-behind.result - c.args.slots))) (sym whole)
    (grind (arith, long, was, here, c.self.invariant, row.twins.ok.0, c.write_twins-behind.ensures.high, c.requires.within, c.requires.keeps.used_high))
