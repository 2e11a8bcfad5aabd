-- Reply lines.
use Rattle.std.specs.Prelude.{ℕ, List, [], ◌∷◌, codes}
use Rattle.std.specs.List.{flat_map}
use Rattle.std.specs.Fmt.{decimal}
use Rattle.gc_text.specs.Lines.{line}
use Rattle.gc_graph.specs.declared.reply.Reply.{Reply}
use Rattle.gc_graph.specs.declared.reply.Reply.TheVariants.{Full, Made, Done, NoObject, NoField, NoNumber, Saw, Yes, No}
use Rattle.gc_graph.specs.declared.reply.View.{View}
use Rattle.gc_graph.specs.declared.reply.View.TheVariants as views
use Rattle.gc_model.specs.declared.event.Answer.{Answer}
use Rattle.gc_model.specs.declared.event.Answer.TheVariants.{Mutator, Collector, Useful}
use Rattle.gc_model.specs.declared.step.StepReply.{StepReply}
use Rattle.gc_model.specs.declared.step.StepReply.TheVariants.{Busy, Begun, Idle, Clean, NoRoom, Copied, Passed, Scanned, Applied, NotReady, Refused, Flipped, Dropped}

unfoldable pub view_tokens : View → List (List ℕ)
view_tokens views.Nil = codes "nil" ∷ []
view_tokens (views.Num n) = codes "num" ∷ decimal n ∷ []
view_tokens (views.Obj kind len) = codes "obj" ∷ decimal kind ∷ decimal len ∷ []
view_tokens (views.RawObj kind len) = codes "raw" ∷ decimal kind ∷ decimal len ∷ []

unfoldable pub reply_tokens : Reply → List (List ℕ)
reply_tokens Full = codes "full" ∷ []
reply_tokens Made = codes "made" ∷ []
reply_tokens Done = codes "done" ∷ []
reply_tokens NoObject = codes "no" ∷ codes "object" ∷ []
reply_tokens NoField = codes "no" ∷ codes "field" ∷ []
reply_tokens NoNumber = codes "no" ∷ codes "number" ∷ []
reply_tokens (Saw view) = codes "saw" ∷ view_tokens view
reply_tokens Yes = codes "yes" ∷ []
reply_tokens No = codes "no" ∷ []

unfoldable pub step_reply_tokens : StepReply → List (List ℕ)
step_reply_tokens Busy = codes "busy" ∷ []
step_reply_tokens Begun = codes "begun" ∷ []
step_reply_tokens Idle = codes "idle" ∷ []
step_reply_tokens Clean = codes "clean" ∷ []
step_reply_tokens NoRoom = codes "no" ∷ codes "room" ∷ []
step_reply_tokens Copied = codes "copied" ∷ []
step_reply_tokens Passed = codes "passed" ∷ []
step_reply_tokens Scanned = codes "scanned" ∷ []
step_reply_tokens Applied = codes "applied" ∷ []
step_reply_tokens NotReady = codes "not" ∷ codes "ready" ∷ []
step_reply_tokens Refused = codes "refused" ∷ []
step_reply_tokens (Flipped pairs) = codes "flipped" ∷ decimal pairs ∷ []
step_reply_tokens Dropped = codes "dropped" ∷ []

unfoldable pub answer_tokens : Answer → List (List ℕ)
answer_tokens (Mutator reply) = reply_tokens reply
answer_tokens (Collector reply) = step_reply_tokens reply
answer_tokens (Useful reply) = step_reply_tokens reply

abbrev pub reply_line : Answer → List ℕ
reply_line answer = line (answer_tokens answer)

-- one line for each answer, in order
abbrev pub reply_text : List Answer → List ℕ
reply_text answers = flat_map reply_line answers
