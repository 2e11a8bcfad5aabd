-- What a call returns that performs a command which may allocate, or many steps.
use Rattle.std.proofs.lemmas.Grind.{common_steps}
use Rattle.std.proofs.Common.{◌≡◌, inl, inr, ℕ, Option, Some, Result, Ok, Err, sym, ap, subst, arith}
use Rattle.std.specs.Prelude.{IfOk, OnErr}
use Rattle.gc_graph.specs.declared.reply.Reply.{Reply}
use Rattle.gc_check.specs.InC.{done, no_memory, IsRefusal}
use Rattle.gc_model.specs.State.{State}
use Rattle.gc_collected.specs.Collected.{Collected}
use Rattle.gc_pace.specs.Beside.{LeavesBeside, WasRefused}
use Rattle.gc_pace.specs.declared.work.Work.{Work}
use Rattle.gcflip_heap_c.specs.Commands.{IsCall, IsCommandCall, Replies, heap_behind}
use Rattle.gcflip_heap_c.specs.Room.{CollectsAnew, TellsRoom, lack_of, whole_answer}
use Rattle.gcflip_heap_c.specs.Internal.Lending.{with_heap}
use Rattle.gc_in_c.specs.Replies.{reply_in_c}
use Rattle.gcflip_heap_c.specs.Work.{IsWorkCall, Works, work_in_c}
use Rattle.gcflip_heap_c.specs.declared.handle.GcflipHeap.{GcflipHeap}
use Rattle.gcflip_heap_c.specs.declared.work.GcflipWork.{GcflipWork}

-- the arguments are in range: the heap made this of the call, or was refused memory
made_of : {R E : Type 0} (takes : State → Type 0) (did : State → State → Type 0) (old new : State) (made : Result R E) (answer : ℕ) → takes old → IfOk made (λ _. did old new × ¬ IsRefusal answer) → OnErr made ((new ≡ old) × (answer ≡ no_memory))
    → IsCall takes did (Some old) (Some new) answer
made_of takes did old new made answer fits told none = grind (arith, common_steps)

-- of a command, for whose reply C gets the number
pub call_made : {E : Type 0} (takes : State → Type 0) (step : State → Reply × State) (old new : Collected) (made : Result Reply E) (answer : ℕ) → takes old.core → IfOk made (λ reply. step old.core ≡ (reply, new.core)) → OnErr made (new ≡ old)
    → IfOk made (λ reply. (answer ≡ reply_in_c reply) × ¬ IsRefusal answer) → OnErr made (answer ≡ no_memory) → IsCommandCall takes step (Some old.core) (Some new.core) answer
call_made {E} takes step old new (Ok reply) answer fits stepped kept told none = made_of {R = Reply} {E = E} takes (Replies step (λ r. answer ≡ reply_in_c r)) old.core new.core (Ok reply) answer fits ((reply, stepped, told.0), told.1) none
call_made {E} takes step old new (Err e) answer fits stepped kept told none = made_of {R = Reply} {E = E} takes (Replies step (λ r. answer ≡ reply_in_c r)) old.core new.core (Err e) answer fits told (ap (λ (h : Collected). h.core) kept, none)

-- ---- calls on the heap of a handle

-- the handle holds this heap
abbrev pub Holds : GcflipHeap → Collected → Type 0
Holds handle heap = (handle.state ≡ Some heap.core) × (handle.beside ≡ heap.beside) × (handle.roots_left ≡ heap.roots_left)

held : (handle : GcflipHeap) (heap : Collected) → Holds handle heap → heap_behind handle heap.core ≡ heap
held handle heap is = grind (arith, common_steps)

-- the argument is in range, and the heap in the handle made this of the call, or was refused memory
held_made : {R E : Type 0} (takes : Type 0) (did : Collected → Collected → Type 0) (old : GcflipHeap) (before after : Collected) (made : Result R E) (answer : ℕ) → takes → Holds old before → IfOk made (λ _. did before after × ¬ IsRefusal answer)
    → OnErr made ((after.core ≡ before.core) × (answer ≡ no_memory)) → IsCall (λ _. takes) (λ s t. did (heap_behind old s) (heap_behind (with_heap old after) t)) old.state (Some after.core) answer
held_made {R} {E} takes did old before after (Ok x) answer fits is told none =
    subst (λ o. IsCall (λ _. takes) (λ s t. did (heap_behind old s) (heap_behind (with_heap old after) t)) o (Some after.core) answer) (sym is.0)
    (made_of {R = R} {E = E} (λ _. takes) (λ s t. did (heap_behind old s) (heap_behind (with_heap old after) t)) before.core after.core (Ok x) answer fits (subst (λ (h : Collected). did h after) (sym (held old before is)) told.0, told.1) none)
held_made {R} {E} takes did old before after (Err e) answer fits is told none =
    subst (λ o. IsCall (λ _. takes) (λ s t. did (heap_behind old s) (heap_behind (with_heap old after) t)) o (Some after.core) answer) (sym is.0)
    (made_of {R = R} {E = E} (λ _. takes) (λ s t. did (heap_behind old s) (heap_behind (with_heap old after) t)) before.core after.core (Err e) answer fits told none)

-- zero is no refusal
done_unrefused : (answer : ℕ) → answer ≡ done → ¬ IsRefusal answer
done_unrefused answer is refused = grind (arith, common_steps)

-- work
pub work_made : {E : Type 0} (takes : Type 0) (size : Option ℕ) (relates : Collected → Collected → Work → Type 0) (old : GcflipHeap) (before after : Collected) (made : Result Work E) (report was : GcflipWork) (answer : ℕ)
    → takes → Holds old before → IfOk made (relates before after) → IfOk made (LeavesBeside size before after) → OnErr made (WasRefused size before after)
    → IfOk made (λ work. (answer ≡ done) × (report ≡ work_in_c work)) → OnErr made ((answer ≡ no_memory) × (report ≡ was)) → IsWorkCall takes size relates old (with_heap old after) report answer
work_made {E} takes size relates old before after (Ok work) report was answer fits is did beside refused told none =
    held_made {R = Work} {E = E} takes (λ h n. (answer ≡ done) × Works size relates h n report) old before after (Ok work) answer fits is
    ((told.0, record { work = work; did = did; beside = beside; told = told.1 }), done_unrefused answer told.0) none
work_made {E} takes size relates old before after (Err e) report was answer fits is did beside refused told none =
    held_made {R = Work} {E = E} takes (λ h n. (answer ≡ done) × Works size relates h n report) old before after (Err e) answer fits is told (ap (λ (h : Collected). h.core) refused.unchanged, none.0)

-- ---- room

-- none of the answers to a reserve is a refusal
pub tells_unrefused : (words free answer : ℕ) → TellsRoom words free answer → ¬ IsRefusal answer
tells_unrefused words free answer tells refused = grind (arith, common_steps)

-- nor is one of those to a whole collection
lack_unrefused : (work : Work) → ¬ IsRefusal (lack_of work)
lack_unrefused work refused = grind (arith, common_steps)

whole_unrefused : (work : Work) → ¬ IsRefusal (whole_answer work)
whole_unrefused work refused = grind (arith, common_steps)

pub anew_unrefused : (old new : Collected) (report : GcflipWork) (answer : ℕ) → CollectsAnew old new report answer → ¬ IsRefusal answer
anew_unrefused old new report answer c refused = elim c.anew [
  | inl lacks ↦ lack_unrefused c.first (subst IsRefusal lacks.3 refused)
  | inr whole ↦ whole_unrefused c.second (subst IsRefusal whole.2 refused)
]

-- a call that is refused for no other reason
pub heap_made : (takes : Type 0) (did : Collected → Collected → Type 0) (old : GcflipHeap) (before after : Collected) (answer : ℕ) → takes → Holds old before → did before after → ¬ IsRefusal answer
    → IsCall (λ _. takes) (λ s t. did (heap_behind old s) (heap_behind (with_heap old after) t)) old.state (Some after.core) answer
heap_made takes did old before after answer fits is made kept = held_made {R = Unit {0}} {E = Unit {0}} takes did old before after (Ok tt) answer fits is (made, kept) tt
