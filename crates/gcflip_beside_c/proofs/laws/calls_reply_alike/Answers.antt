-- The calls are a run, whose replies are the machine's.
use Rattle.std.proofs.Common.{ap, ◌∙◌}
use Rattle.gcflip_beside_c.specs.Whole.{numbers_in_c}
use Rattle.gcflip_beside_c.proofs.Whole.{ran_in_c}
use Rattle.gcflip_beside_c.proofs.laws.calls_reply_alike.Goals as goal

pub returns : goal.returns
returns c = λ heap new ops told is ran s shows room.
    let r = ran_in_c heap ops told new ran in
    r.3 ∙ ap (numbers_in_c ops) (c.runs_reply_alike.ensures.replies heap r.0 ops r.1 is r.2 s shows room)
