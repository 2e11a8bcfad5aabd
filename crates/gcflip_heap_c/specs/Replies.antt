-- Replies to steps as C sees them: the number that a call returns, and what it writes. Replies to commands have the numbers of gc_in_c.
use Rattle.std.specs.Prelude.{ℕ}
use Rattle.gc_model.specs.declared.step.StepReply.{StepReply}
use Rattle.gc_model.specs.declared.step.StepReply.TheVariants as steps

abbrev pub step_reply_in_c : StepReply → ℕ
step_reply_in_c steps.Busy = 32
step_reply_in_c steps.Begun = 33
step_reply_in_c steps.Idle = 34
step_reply_in_c steps.Clean = 35
step_reply_in_c steps.NoRoom = 36
step_reply_in_c steps.Copied = 37
step_reply_in_c steps.Passed = 38
step_reply_in_c steps.Scanned = 39
step_reply_in_c steps.Applied = 40
step_reply_in_c steps.NotReady = 41
step_reply_in_c steps.Refused = 42
step_reply_in_c (steps.Flipped pairs) = 43
step_reply_in_c steps.Dropped = 44

-- C's variable after a step: the number of pairs, if the step flipped
abbrev pub pairs_after : ℕ → StepReply → ℕ
pairs_after before (steps.Flipped pairs) = pairs
pairs_after before reply = before
