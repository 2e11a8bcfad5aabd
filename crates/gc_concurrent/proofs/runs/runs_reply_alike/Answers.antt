-- By induction over the commands, from the machine's side as in `mutate`.
use Rattle.gc_concurrent.proofs.Running.{ran_replies, ran_leads, all_ran}
use Rattle.gc_concurrent.proofs.runs.runs_reply_alike.Goals as goal

pub returns : goal.returns
returns c = record { replies = ran_replies; heap = ran_leads; many = all_ran }
