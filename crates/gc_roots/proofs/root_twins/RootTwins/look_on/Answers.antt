-- Twins are written and nils are taken away, or nothing is done.
use Rattle.std.proofs.Common.{◌-◌, refl, sym, ap, ◌∙◌, subst, arith}
use Rattle.gc_copy.specs.Words.{open_state}
use Rattle.gc_roots.specs.Twins.{RootRow, KeepsTwins, HasLookedOn, looks_left}
use Rattle.gc_roots.proofs.InRow.{left_in_row}
use Rattle.gc_roots.proofs.root_twins.RootTwins.look_on.Goals as goal
use Rattle.gc_roots.proofs.root_twins.RootTwins.look_on.Goals.{then-count-ne0, else-count-ne0}

pub returns-clause-keeps : goal.returns-clause-keeps
returns-clause-keeps c =
    let state = open_state c.args.heap.now c.args.collection.now in
    elim c.if-count-ne0.branch [
      | then-count-ne0 w ↦ subst (λ r. KeepsTwins r state) (sym w.self-is) (w.trim-then-count-ne0.ensures.keeps state refl refl w.write_on.ensures.keeps)
      | else-count-ne0 w ↦ subst (λ r. KeepsTwins r state) (sym w.self-is) c.requires.keeps
    ]

pub returns-clause-less : goal.returns-clause-less
returns-clause-less c =
    let from = ap (λ (r : RootRow). r.front) c.self.view_is in
    let to = ap (λ (r : RootRow). r.front) c.self-2.view_is in
    let looks = c.self-2.inside.front - c.self.inside.front in
    elim c.if-count-ne0.branch [
      | then-count-ne0 w ↦ (let front = ap (λ (r : RootRow). r.front) w.trim.view_is in
          subst (λ r. HasLookedOn looks (looks_left c.args.self.now) (looks_left r)) (sym w.self-is)
          (left_in_row c.args.self.now w.write_on.new.self w.trim-then-count-ne0.new.self c.self.inside.front c.self-2.inside.front from (to ∙ ap (λ (r : RootRow). r.front) w.self-is)
          (c.ahead-count.ensures.none (omega (arith, w.if-count-ne0.true))) w.write_on.ensures.rest w.trim-then-count-ne0.ensures.rest w.write_on.ensures.front.0
          (omega (arith, w.write_on.ensures.front.1, c.ahead-count.ensures.within)) w.trim-then-count-ne0.ensures.used.0 (omega (arith, w.trim-then-count-ne0.ensures.used.1, front, from))))
      | else-count-ne0 w ↦ (let same = ap (λ (r : RootRow). r.front) w.self-is in
          subst (λ r. HasLookedOn looks (looks_left c.args.self.now) (looks_left r)) (sym w.self-is) (record { less = omega (arith, from, to, same); few = omega (arith, from, to, same) }))
    ]
