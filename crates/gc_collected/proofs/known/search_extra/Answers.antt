-- Each look is at the next root.
use Rattle.std.proofs.Common.{◌≡◌, ◌<◌, false, sym, subst, arith}
use Rattle.gc_graph.specs.Slots.{roots_of}
use Rattle.gc_words.specs.Marks.{is_marked}
use Rattle.gc_roots.specs.Twins.{RootRow}
use Rattle.gc_roots.proofs.Public.{looked_compares}
use Rattle.gc_collected.proofs.known.search_extra.Goals as goal

pub returns-in-Err-clause-compares : goal.returns-in-Err-clause-compares
returns-in-Err-clause-compares c h k less none =
    subst (λ (row : RootRow). (k < row.front) × (is_marked row.marks k ≡ false)) (sym c.in-Err.ensures.looked.0) (c.loop-k.invariant.compares h k less none)

pub loop-k-smaller : goal.loop-k-smaller
loop-k-smaller c = let once = c.in-Ok.ensures.less in let on = c.look_on-looks.ensures.looks in omega (arith, once.less, on.less)

-- The row is right after the look, so it is after those in a row.
pub look_on-looks-requires-clause-knows : goal.look_on-looks-requires-clause-knows
look_on-looks-requires-clause-knows c = record { slots_high = c.loop-k.invariant.knows.slots_high; slots = c.loop-k.invariant.knows.slots; keeps = c.look.ensures.keeps }

pub loop-k-preserved : goal.loop-k-preserved
loop-k-preserved c = record {
  knows = c.look_on-looks.ensures.knows;
  compares = λ h. c.look_on-looks.ensures.compares (looked_compares c.loop-k.known.twins c.look.new.self c.loop-k.known.looks c.look-in-Ok.new.self (roots_of c.args.heap.now.mutators) c.in-Some.k c.in-Ok.twin c.in-Ok.ensures.looked c.look-in-Ok.ensures.others
      (c.loop-k.invariant.compares h));
  looked = let was = c.loop-k.invariant.looked in let once = c.in-Ok.ensures.less in let on = c.look_on-looks.ensures.looks in record { less = omega (arith, was.less, once.less, on.less); few = omega (arith, was.few, once.few, on.few) };
  within = let low = c.loop-k.invariant.within in let other = c.if-looks-most.false in let on = c.look_on-looks.ensures.within in omega (arith, low, other, on);
}

pub returns-then-looks-most-clause-unfinished : goal.returns-then-looks-most-clause-unfinished
returns-then-looks-most-clause-unfinished c e = (c.if-looks-most.true, c.in-Some.ensures.left)
