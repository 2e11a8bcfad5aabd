-- A turn fills the next field from the next root.
use Rattle.std.proofs.Common.{◌<◌, get_or, length, sym, ◌∙◌, subst, arith}
use Rattle.gc_graph.specs.Slots.{SlotName, place}
use Rattle.gc_graph.specs.declared.command.Op.TheVariants.{Put}
use Rattle.gc_heap.specs.Commands.{Performs}
use Rattle.gc_heap.specs.Places.{root_at}
use Rattle.gc_collected.proofs.NewFrom.{same_default}
use Rattle.gc_collected.proofs.Together.{no_more, one_put}
use Rattle.gc_collected.proofs.filling.fill_each.Goals as goal

pub fill_root-put-requires-clause-giver : goal.fill_root-put-requires-clause-giver
fill_root-put-requires-clause-giver g c =
    c.place.ensures.within _ (subst (λ roots. g.R.RootRow.is_row c.args.fields.now c.args.m (length roots)) (sym c.loop-i.invariant.roots) c.requires.row)

pub loop-i-preserved : goal.loop-i-preserved
loop-i-preserved g c =
    let put = c.fill_root-put in
    let names = g.R.RootRow.names c.args.fields.now in
    let d = root_at c.args.d in
    let t : SlotName = get_or names c.loop-i.i (root_at 0) in
    let less : c.loop-i.i < length names = omega (arith, c.loop-i-test.true, c.count-i-end.ensures) in
    let by_place : Performs c.loop-i.heap c.args.m (Put d c.loop-i.i (root_at (place t c.args.m))) put.result put.new.self
    = subst (λ q. Performs c.loop-i.heap c.args.m (Put d c.loop-i.i (root_at q)) put.result put.new.self) c.place.ensures.place (put.ensures.performs c.args.m) in
    let performs : Performs c.loop-i.heap c.args.m (Put d c.loop-i.i t) put.result put.new.self
    = record { step = by_place.step; links = by_place.links; size = by_place.size; mutators = by_place.mutators } in
    record {
      rest = λ new more. c.loop-i.invariant.rest new (one_put c.loop-i.heap put.new.self new c.args.m c.loop-i.i c.args.object.0 d t put.result names less (same_default names c.loop-i.i (root_at 0) t less) put.ensures.done c.loop-i.invariant.takes.target performs put.ensures.sound more);
      roots = put.ensures.roots ∙ c.loop-i.invariant.roots;
      mutators = performs.mutators ∙ c.loop-i.invariant.mutators;
      takes = put.ensures.fields _ c.loop-i.invariant.takes;
    }

pub returns-clause-performs : goal.returns-clause-performs
returns-clause-performs g c = c.loop-i.invariant.rest c.loop-i.heap (no_more c.loop-i.heap c.args.m c.loop-i.i c.args.object.0 (root_at c.args.d) (g.R.RootRow.names c.args.fields.now) (omega (arith, c.loop-i-test.false, c.count-i-end.ensures)))
