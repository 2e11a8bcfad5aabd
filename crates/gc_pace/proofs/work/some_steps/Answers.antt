-- Scans are a run of useful steps, and so are entries that are applied, and one step of another kind.
use Rattle.std.proofs.Common.{refl, arith}
use Rattle.gc_pace.proofs.Joined.{same_rooms, single}
use Rattle.gc_pace.proofs.work.some_steps.Goals as goal

pub returns-in-Scan-clause-rooms : goal.returns-in-Scan-clause-rooms
returns-in-Scan-clause-rooms c =
    let e = c.some_scans.ensures in
    same_rooms c.args.size c.args.heap.now.core c.args.heap.now.beside c.some_scans.new.heap.beside c.some_scans.result.reply e.open e.beside e.flips

pub returns-in-Apply-clause-rooms : goal.returns-in-Apply-clause-rooms
returns-in-Apply-clause-rooms c =
    let e = c.some_entries.ensures in
    same_rooms c.args.size c.args.heap.now.core c.args.heap.now.beside c.some_entries.new.heap.beside c.some_entries.result.reply e.open e.beside e.flips

pub returns-in_ok-reply-in_default : goal.returns-in_ok-reply-in_default
returns-in_ok-reply-in_default c =
    let e = c.in_ok-reply-in_default.ensures in
    let one = single c.args.size c.args.heap.now c.args.heap.now c.one_step.new.heap c.in_ok-reply-in_default.reply refl e.step e.sound e.leaves e.former e.turns e.rooms c.one_step.ensures.pair in
    record { run = one.0; within = c.requires.some; short = λ k less. absurd (omega arith); former = one.1; turns = one.2; rooms = one.3; pair = one.4; refused = tt; freed = tt; lacked = tt; allocates = tt; looks = e.looks; looked = tt }
