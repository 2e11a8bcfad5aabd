-- A turn writes the value to one field more.
use Rattle.std.proofs.Common.{ℕ, List, map, ap, refl, ◌∙◌, arith}
use Rattle.std.specs.Prelude.{slice_get}
use Rattle.std.specs.Option.{unwrap_or}
use Rattle.gc_graph.specs.Graph.{Nil}
use Rattle.gc_words.specs.Word.{field_value, value_of}
use Rattle.gc_collected.proofs.Runs.{all_filled, from_first, one_filled}
use Rattle.gc_collected.proofs.copying.fill_each.Goals as goal

pub loop-k-init : goal.loop-k-init
loop-k-init c = record {
  rest = λ new all. from_first c.args.heap.now new c.args.s c.args.from c.args.count (field_value c.args.header c.args.word) all;
  roots = refl;
  header = c.requires.header;
  word = c.requires.word;
}

pub put_word-requires-clause-target : goal.put_word-requires-clause-target
put_word-requires-clause-target c = ap (λ (rs : List ℕ). unwrap_or (slice_get (map value_of rs) c.args.s) Nil) c.loop-k.invariant.roots ∙ c.requires.target

pub put_word-requires-clause-header : goal.put_word-requires-clause-header
put_word-requires-clause-header c = c.loop-k.invariant.header

pub put_word-requires-clause-word : goal.put_word-requires-clause-word
put_word-requires-clause-word c = c.loop-k.invariant.word

pub loop-k-preserved : goal.loop-k-preserved
loop-k-preserved c =
    let put = c.put_word in
    record {
      rest = λ new more. c.loop-k.invariant.rest new (one_filled c.loop-k.heap put.new.self new c.args.s c.args.from c.args.count c.loop-k.k (field_value c.args.header c.args.word) c.loop-k-test.true put.ensures.puts more);
      roots = put.ensures.puts.roots ∙ c.loop-k.invariant.roots;
      header = put.ensures.headers c.args.object.0 c.args.header c.loop-k.invariant.header;
      word = put.ensures.words c.args.header c.args.word c.loop-k.invariant.word;
    }

pub returns : goal.returns
returns c = record { puts = c.loop-k.invariant.rest c.loop-k.heap (all_filled c.loop-k.heap c.args.s c.args.from c.args.count c.loop-k.k (field_value c.args.header c.args.word) (omega (arith, c.loop-k-test.false))) }
