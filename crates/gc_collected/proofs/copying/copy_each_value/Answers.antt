-- A turn copies one field more, and what is left can still be copied.
use Rattle.std.proofs.Common.{◌≡◌, ◌+◌, ◌-◌, ℕ, List, suc, map, ap, refl, ◌∙◌, subst, arith}
use Rattle.std.specs.Prelude.{slice_get}
use Rattle.std.specs.Option.{unwrap_or}
use Rattle.gc_graph.specs.Graph.{Nil, Ref, root}
use Rattle.gc_graph.specs.declared.reply.Reply.TheVariants.{Done}
use Rattle.gc_words.specs.Word.{value_of}
use Rattle.gc_heap.specs.Heap.{graph_in}
use Rattle.gc_heap.specs.Places.{root_at}
use Rattle.gc_collected.specs.Copying.{copy_reply, object_in}
use Rattle.gc_collected.proofs.CopiesDone.{number_taken, value_goes_on}
use Rattle.gc_collected.proofs.Runs.{all_from, none_more, one_copied, takes_from, takes_more}
use Rattle.gc_collected.proofs.copying.copy_each_value.Goals as goal
use Rattle.gc_collected.proofs.copying.copy_each_value.Goals.{In-loop-k}

pub loop-k-init : goal.loop-k-init
loop-k-init c = record {
  rest = λ new all. all_from c.args.heap.now new c.args.d c.args.to c.args.s c.args.from c.args.count all;
  roots = refl;
  taking = c.requires.taking;
  giving = c.requires.giving;
  takes = takes_from c.args.heap.now c.args.d c.args.to c.args.s c.args.from c.args.count c.requires.takes;
}

-- the object of root d, before a turn
target : (c : In-loop-k) → root (graph_in c.loop-k.heap) c.args.d ≡ Ref c.args.target.0
target c = ap (λ (rs : List ℕ). unwrap_or (slice_get (map value_of rs) c.args.d) Nil) c.loop-k.invariant.roots ∙ c.requires.target

-- the fields from here on can be copied
done : (c : In-loop-k) → copy_reply (c.args.to + c.loop-k.k) (c.args.from + c.loop-k.k) (suc (c.args.count - (c.loop-k.k + 1))) (object_in (graph_in c.loop-k.heap) (root_at c.args.d) 0) (object_in (graph_in c.loop-k.heap) (root_at c.args.s) 0) ≡ Done
done c =
    let left : c.args.count - c.loop-k.k ≡ suc (c.args.count - (c.loop-k.k + 1)) = omega (arith, c.loop-k-test.true) in
    subst (λ n. copy_reply (c.args.to + c.loop-k.k) (c.args.from + c.loop-k.k) n (object_in (graph_in c.loop-k.heap) (root_at c.args.d) 0) (object_in (graph_in c.loop-k.heap) (root_at c.args.s) 0) ≡ Done) left c.loop-k.invariant.takes

pub copy_one-requires : goal.copy_one-requires
copy_one-requires c =
    let heap = c.loop-k.heap in
    let turn = (goal.at.copy_one-requires c).In-loop-k in
    record {
      target = target turn;
      source = ap (λ (rs : List ℕ). unwrap_or (slice_get (map value_of rs) c.args.s) Nil) c.loop-k.invariant.roots ∙ c.requires.source;
      taking = c.loop-k.invariant.taking;
      giving = c.loop-k.invariant.giving;
      taken = λ raw. number_taken heap heap c.args.d c.args.s c.args.target.0 (c.args.to + c.loop-k.k) (c.args.from + c.loop-k.k) (c.args.count - (c.loop-k.k + 1)) (target turn) (done turn) c.args.taking c.loop-k.invariant.taking raw;
      fields = (let wide = c.requires.fields.0 in omega (arith, wide, c.loop-k-test.true), let long = c.requires.fields.1 in omega (arith, long, c.loop-k-test.true));
    }

pub loop-k-preserved : goal.loop-k-preserved
loop-k-preserved c =
    let one = c.copy_one in
    let turn = (goal.at.loop-k-preserved c).In-loop-k in
    record {
      rest = λ new more. c.loop-k.invariant.rest new (one_copied c.loop-k.heap one.new.heap new c.args.d c.args.to c.args.s c.args.from c.args.count c.loop-k.k c.loop-k-test.true one.ensures.puts more);
      roots = one.ensures.puts.roots ∙ c.loop-k.invariant.roots;
      taking = one.ensures.headers c.args.target.0 c.args.taking c.loop-k.invariant.taking;
      giving = one.ensures.headers c.args.source.0 c.args.giving c.loop-k.invariant.giving;
      takes = takes_more one.new.heap c.args.d c.args.to c.args.s c.args.from c.args.count c.loop-k.k
          (value_goes_on c.loop-k.heap one.new.heap c.args.d c.args.s c.args.target.0 (c.args.to + c.loop-k.k) (c.args.from + c.loop-k.k) (c.args.count - (c.loop-k.k + 1)) (target turn) (done turn) one.ensures.puts);
    }

pub returns : goal.returns
returns c = record { copies = c.loop-k.invariant.rest c.loop-k.heap (none_more c.loop-k.heap c.args.d c.args.to c.args.s c.args.from c.args.count c.loop-k.k (omega (arith, c.loop-k-test.false))) }
