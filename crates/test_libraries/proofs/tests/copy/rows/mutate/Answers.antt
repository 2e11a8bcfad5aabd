-- A command other than `Put` writes no field, and room in a log changes no entry, so the collection still belongs to the heap.
use Rattle.std.proofs.lemmas.Grind.{common_steps}
use Rattle.std.proofs.Common.{◌≡◌, ℕ, [], refl, arith, subst}
use Rattle.gc_graph.specs.Graph.{Graph}
use Rattle.gc_graph.specs.Slots.{SlotName}
use Rattle.gc_graph.specs.declared.command.Op.{Op}
use Rattle.gc_graph.specs.declared.command.Op.TheVariants as ops
use Rattle.gc_graph.specs.declared.reply.Reply.{Reply}
use Rattle.gc_heap.specs.Heap.{graph_in}
use Rattle.gc_model.specs.Steps.{written}
use Rattle.gc_copy.specs.Words.{BelongsToBut}
use Rattle.test_libraries.proofs.tests.copy.rows.mutate.Goals as goal

nothing_written : (g : Graph) (m : ℕ) (op : Op) (reply : Reply) → ((s : SlotName) (i : ℕ) (t : SlotName) → op ≡ ops.Put s i t → ⊥) → written g m op reply ≡ []
nothing_written g m op reply other = grind (arith, common_steps)

pub returns-in_default : goal.returns-in_default
returns-in_default c = record {
  belongs = c.commands_keep_collections.ensures.none c.apply.new.self c.args.collection.now
      (subst (λ fields. BelongsToBut fields c.apply.new.self c.args.collection.now) (nothing_written (graph_in c.args.heap.now) c.args.m c.args.op.now c.apply.result c.in_default.not-Put)
      (c.commands_keep_collections.ensures.but c.args.heap.now c.apply.new.self c.args.collection.now c.args.m c.args.op.now c.apply.result c.requires.belongs c.apply.ensures.links c.apply.ensures.mutators c.apply.ensures.step));
  mutators = c.apply.ensures.mutators;
  epoch = refl;
}

pub returns-in_err-reserve-clause-belongs : goal.returns-in_err-reserve-clause-belongs
returns-in_err-reserve-clause-belongs c = c.in_err-reserve.ensures.belongs c.args.heap.now c.requires.belongs

pub put-requires-clause-belongs : goal.put-requires-clause-belongs
put-requires-clause-belongs c = c.in_ok-reserve.ensures.belongs c.args.heap.now c.requires.belongs
