-- A turn appends the next field.
use Rattle.std.proofs.Common.{◌∙◌, refl, arith}
use Rattle.gc_collected.proofs.Together.{noted_next, noted_none, logs_kept}
use Rattle.gc_collected.proofs.barrier.note_row.Goals as goal

pub loop-k-init : goal.loop-k-init
loop-k-init c = record { so_far = noted_none c.args.collection.now c.args.m; logs = refl; room = omega (arith, c.requires.room) }

pub loop-k-preserved : goal.loop-k-preserved
loop-k-preserved c =
    let k = c.loop-k.k in
    record {
      so_far = noted_next c.args.collection.now c.loop-k.collection c.note.new.self c.args.m c.args.object.0 c.args.first k c.loop-k.invariant.so_far (record { collection = c.note.ensures.collection; epoch = c.note.ensures.epoch });
      logs = logs_kept c.loop-k.collection c.note.new.self c.args.m _ c.note.ensures.collection ∙ c.loop-k.invariant.logs;
      room = omega (arith, c.note.ensures.spare, c.loop-k.invariant.room);
    }
