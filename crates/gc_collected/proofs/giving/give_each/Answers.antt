-- A turn gives one field its value, or none.
use Rattle.std.proofs.Common.{◌<◌, ℕ, List, map, length, ap, sym, ◌∙◌, subst, drop, ◌+◌, arith}
use Rattle.std.specs.Prelude.{slice_get}
use Rattle.std.specs.Option.{unwrap_or}
use Rattle.gc_graph.specs.Graph.{Nil}
use Rattle.gc_words.specs.Word.{value_of}
use Rattle.gc_heap.specs.Heap.{graph_in}
use Rattle.gc_heap.specs.Filling.{PutsAll}
use Rattle.gc_collected.specs.Giving.{IsGiven}
use Rattle.gc_collected.specs.Internal.Given.{given_at, given_from}
use Rattle.gc_collected.proofs.GivenFields.{none_given, opened_given, puts_on}
use Rattle.gc_collected.proofs.giving.give_each.Goals as goal

pub give_one-requires : goal.give_one-requires
give_one-requires g c = record {
  value = subst (λ (rs : List ℕ). IsGiven (length rs) c.value.result) (sym c.loop-i.invariant.roots) (c.value.ensures.within _ c.requires.row);
  target = ap (λ (rs : List ℕ). unwrap_or (slice_get (map value_of rs) c.args.d) Nil) c.loop-i.invariant.roots ∙ c.requires.target;
  header = c.loop-i.invariant.header;
  plain = c.requires.plain;
  field = omega (arith, c.loop-i-test.true, c.count-i-end.ensures, c.requires.long);
}

pub loop-i-preserved : goal.loop-i-preserved
loop-i-preserved g c =
    let one = c.give_one in
    let all = g.R.ValueRow.values c.args.fields.now in
    let i = c.loop-i.i in
    let d = c.args.d in
    let roots = (graph_in c.args.heap.now).roots in
    let less : i < length all = omega (arith, c.loop-i-test.true, c.count-i-end.ensures) in
    record {
      rest = λ new more. c.loop-i.invariant.rest new
          (subst (λ es. PutsAll c.loop-i.heap d es new) (sym (opened_given roots i c.value.result all less c.value.ensures.value))
          (puts_on (given_at roots i c.value.result) (given_from roots (i + 1) (drop (i + 1) all)) c.loop-i.heap one.new.heap new d
          (subst (λ (rs : List ℕ). PutsAll c.loop-i.heap d (given_at (map value_of rs) i c.value.result) one.new.heap) c.loop-i.invariant.roots one.ensures.puts) more));
      roots = one.ensures.roots ∙ c.loop-i.invariant.roots;
      header = one.ensures.header;
    }

pub returns : goal.returns
returns g c = record { puts = c.loop-i.invariant.rest c.loop-i.heap (none_given c.loop-i.heap c.args.d c.loop-i.i (graph_in c.args.heap.now).roots (g.R.ValueRow.values c.args.fields.now) (omega (arith, c.loop-i-test.false, c.count-i-end.ensures))) }
