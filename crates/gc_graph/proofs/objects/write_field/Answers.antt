-- A field that the record has is written in the graph's object; if there is no such field or object, nothing changes.
use Rattle.std.proofs.lemmas.Grind.{common_steps}
use Rattle.std.proofs.lemmas.Map.Steps.{set_value_same}
use Rattle.std.proofs.Common.{sym, ◌∙◌, ap, arith}
use Rattle.gc_graph.specs.Records.{objects_of}
use Rattle.gc_graph.proofs.Plains.{written_entries, field_there, field_past, record_gone}
use Rattle.gc_graph.proofs.objects.write_field.Goals as goal

pub returns-then-place-len-clause-there : goal.returns-then-place-len-clause-there
returns-then-place-len-clause-there c = field_there c.args.records.now.entries c.args.name c.args.i c.len.result c.in-Some.record.now c.in-Some.ensures.value (c.len.ensures ∙ c.in-Some.record.now.fields.ok.0) c.if-place-len.true

pub returns-then-place-len-clause-objects : goal.returns-then-place-len-clause-objects
returns-then-place-len-clause-objects c = ap objects_of (c.get_mut.follows.holds _).0 ∙ written_entries c.args.records.now.entries c.args.name c.args.i c.in-Some.record.now c.args.value (sym c.in-Some.ensures.value)

pub returns-else-place-len-clause-there : goal.returns-else-place-len-clause-there
returns-else-place-len-clause-there c = field_past c.args.records.now.entries c.args.name c.args.i c.len.result c.in-Some.record.now c.in-Some.ensures.value (c.len.ensures ∙ c.in-Some.record.now.fields.ok.0) c.if-place-len.false

pub returns-else-place-len-clause-objects : goal.returns-else-place-len-clause-objects
returns-else-place-len-clause-objects c = grind (arith, common_steps, set_value_same)

pub returns-in-None-clause-there : goal.returns-in-None-clause-there
returns-in-None-clause-there c = record_gone c.args.records.now.entries c.args.name c.args.i c.in-None.ensures.value
