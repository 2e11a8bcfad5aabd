-- Before the last step the new space ends below the place at which replicas have taken enough words.
use Rattle.std.proofs.Common.{suc, Result, Ok, Err}
use Rattle.std.specs.Prelude.{IfOk}
use Rattle.gc_pace.specs.Work.{after_useful, useful_reply, end_after}
use Rattle.gc_copy.specs.declared.collection.stepping.StepRun.{StepRun}
use Rattle.gc_pace.proofs.work.WithinPerforms.perform.Goals as goal

weaker : {E : Type 0} (r : Result StepRun E) (P Q : StepRun → Type 0) → ((x : StepRun) → P x → Q x) → IfOk r P → IfOk r Q
weaker (Ok x) P Q f h = f x h
weaker (Err e) P Q f h = tt

pub returns-clause-short : goal.returns-clause-short
returns-clause-short c = weaker c.some_steps.result _ _ (λ run short k less. c.place_behind-until.ensures (end_after (after_useful c.args.size (suc k) c.args.heap.now.core) (useful_reply c.args.size k c.args.heap.now.core)) (short k less)) c.some_steps.ensures.short
