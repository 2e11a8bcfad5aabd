-- A turn writes one number more.
use Rattle.std.proofs.Common.{◌≡◌, ◌<◌, ◌+◌, ℕ, List, map, length, get_or, ap, refl, sym, ◌∙◌, subst, arith}
use Rattle.std.specs.Prelude.{Bool, if◌then◌else◌, slice_get}
use Rattle.std.specs.Option.{unwrap_or}
use Rattle.gc_graph.specs.Graph.{Nil, Num, Ref, root}
use Rattle.gc_words.specs.Closed.{IsWordOfField}
use Rattle.gc_words.specs.Word.{field_value, value_of}
use Rattle.gc_heap.specs.Filling.{PutsValue}
use Rattle.gc_heap.specs.Heap.{graph_in}
use Rattle.gc_collected.specs.Internal.Numbered.{Sources, sources_at}
use Rattle.gc_collected.proofs.Numbered.{from_number, no_number, one_number, sources_kept}
use Rattle.gc_collected.proofs.numbers.NumberRow.write.Goals as goal

pub loop-k-init : goal.loop-k-init
loop-k-init g c = record {
  rest = λ new all. from_number c.args.heap.now new c.args.s c.args.first _ all;
  roots = refl;
  header = c.requires.header;
  sources = refl;
}

pub number-number-requires-clause-row : goal.number-number-requires-clause-row
number-number-requires-clause-row g c = subst (g.Self.NumberRow.is_row c.args.self.now) (sym c.loop-k.invariant.sources) c.requires.row

pub number-number-requires-clause-inside : goal.number-number-requires-clause-inside
number-number-requires-clause-inside g c =
    let sources = sources_at (graph_in c.args.heap.now) (g.Self.NumberRow.names c.args.self.now) in
    let count = c.count-k-end.ensures sources c.requires.row in
    subst (λ (s : Sources). c.loop-k.k < length (g.Self.NumberRow.numbers c.args.self.now s)) (sym c.loop-k.invariant.sources) (omega (arith, c.loop-k-test.true, count))

pub put_word-requires : goal.put_word-requires
put_word-requires g c =
    let names = g.Self.NumberRow.names c.args.self.now in
    let count = c.count-k-end.ensures (sources_at (graph_in c.args.heap.now) names) c.requires.row in
    record {
      target = ap (λ (rs : List ℕ). unwrap_or (slice_get (map value_of rs) c.args.s) Nil) c.loop-k.invariant.roots ∙ c.requires.target;
      header = c.loop-k.invariant.header;
      field = omega (arith, c.loop-k-test.true, count, c.requires.fields);
      word = subst (λ raw. IsWordOfField raw c.loop-k.heap.space.words c.number-number.result) (sym c.requires.raw) c.number-number.ensures.small;
    }

pub loop-k-preserved : goal.loop-k-preserved
loop-k-preserved g c =
    let put = c.put_word in
    let heap = c.loop-k.heap in
    let names = g.Self.NumberRow.names c.args.self.now in
    let sources = sources_at (graph_in c.args.heap.now) names in
    let numbers = g.Self.NumberRow.numbers c.args.self.now sources in
    let count = c.count-k-end.ensures sources c.requires.row in
    let less : c.loop-k.k < length numbers = omega (arith, c.loop-k-test.true, count) in
    let number : c.number-number.result ≡ get_or numbers c.loop-k.k 0
    = c.number-number.ensures.number ∙ ap (λ (s : Sources). get_or (g.Self.NumberRow.numbers c.args.self.now s) c.loop-k.k 0) c.loop-k.invariant.sources in
    let target : root (graph_in heap) c.args.s ≡ Ref c.args.object.0 = ap (λ (rs : List ℕ). unwrap_or (slice_get (map value_of rs) c.args.s) Nil) c.loop-k.invariant.roots ∙ c.requires.target in
    let value : field_value c.args.header c.number-number.result ≡ Num c.number-number.result
    = ap (λ (raw : Bool). if raw then Num c.number-number.result else value_of c.number-number.result) c.requires.raw in
    let puts : PutsValue heap c.args.s (c.args.first + c.loop-k.k) (Num c.number-number.result) put.new.self = subst (λ v. PutsValue heap c.args.s (c.args.first + c.loop-k.k) v put.new.self) value put.ensures.puts in
    record {
      rest = λ new more. c.loop-k.invariant.rest new (one_number heap put.new.self new c.args.s c.args.first c.loop-k.k c.number-number.result numbers less number puts more);
      roots = put.ensures.puts.roots ∙ c.loop-k.invariant.roots;
      header = put.ensures.headers c.args.object.0 c.args.header c.loop-k.invariant.header;
      sources = sources_kept heap put.new.self c.args.s (c.args.first + c.loop-k.k) c.args.object.0 (Num c.number-number.result) names puts target c.requires.apart ∙ c.loop-k.invariant.sources;
    }

pub returns-clause-puts : goal.returns-clause-puts
returns-clause-puts g c =
    let sources = sources_at (graph_in c.args.heap.now) (g.Self.NumberRow.names c.args.self.now) in
    let count = c.count-k-end.ensures sources c.requires.row in
    c.loop-k.invariant.rest c.loop-k.heap (no_number c.loop-k.heap c.args.s c.args.first c.loop-k.k (g.Self.NumberRow.numbers c.args.self.now sources) (omega (arith, c.loop-k-test.false, count)))
