-- Turn by turn, the steps lower the work by as large a part as the commands took of the room, or more.
use Rattle.gc_pace.proofs.KeepsUp.{room_or_end, turns_keep_up, turns_most}
use Rattle.gc_pace.proofs.laws.paced_work_keeps_up.Goals as goal

pub returns : goal.returns
returns c = record { ratio = turns_keep_up; most = turns_most; room = room_or_end }
