-- A turn logs one field, or none if it takes nothing.
use Rattle.std.proofs.Common.{◌<◌, length, sym, ◌∙◌, subst, drop, ◌+◌, arith}
use Rattle.gc_collected.specs.Internal.Given.{field_given, fields_given}
use Rattle.gc_collected.specs.Internal.Together.{Logs}
use Rattle.gc_collected.proofs.GivenFields.{none_noted, opened_fields}
use Rattle.gc_collected.proofs.Together.{logs_kept, logs_on}
use Rattle.gc_collected.proofs.giving.note_each.Goals as goal

pub loop-i-preserved : goal.loop-i-preserved
loop-i-preserved g c =
    let one = c.note_one in
    let all = g.R.ValueRow.values c.args.fields.now in
    let i = c.loop-i.i in
    let a = c.args.object.0 in
    let less : i < length all = omega (arith, c.loop-i-test.true, c.count-i-end.ensures) in
    record {
      rest = λ new more. c.loop-i.invariant.rest new
          (subst (λ fs. Logs c.loop-i.collection c.args.m fs new) (sym (opened_fields a i c.value.result all less c.value.ensures.value))
          (logs_on c.loop-i.collection one.new.collection new c.args.m (field_given a i c.value.result) (fields_given a (i + 1) (drop (i + 1) all)) one.ensures.logs more));
      logs = logs_kept c.loop-i.collection one.new.collection c.args.m _ one.ensures.logs.collection ∙ c.loop-i.invariant.logs;
      room = omega (arith, one.ensures.spare, c.loop-i.invariant.room);
    }

pub returns : goal.returns
returns g c = c.loop-i.invariant.rest c.loop-i.collection (none_noted c.loop-i.collection c.args.m c.loop-i.i c.args.object.0 (g.R.ValueRow.values c.args.fields.now) (omega (arith, c.loop-i-test.false, c.count-i-end.ensures)))
