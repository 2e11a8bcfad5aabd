-- What a call returns, and the state after it; and a call that performs a step of a mutator, such as one of its commands.
use Rattle.std.specs.Prelude.{◌≡◌, ◌⊎◌, ℕ, ◌↔◌, Option, None, IsSomeAnd}
use Rattle.gc_graph.specs.declared.reply.Reply.{Reply}
use Rattle.gc_check.specs.InC.{no_memory, IsRefusal}
use Rattle.gc_model.specs.State.{State}
use Rattle.gc_collected.specs.Collected.{Collected}
use Rattle.gc_in_c.specs.Answers.{out_of_range, closed_handle}
use Rattle.gc_in_c.specs.Replies.{reply_in_c}
use Rattle.gcflip_heap_c.specs.declared.handle.GcflipHeap.{GcflipHeap}

-- What a call returns, and the state after it. `takes` holds of the states in which its arguments are in range. `did` relates the states
-- before and after a call that is not refused.
pub record IsCall (takes : State → Type 0) (did : State → State → Type 0) (old new : Option State) (answer : ℕ) : Type 0 where
  pub done : ¬ IsRefusal answer → IsSomeAnd old (λ s. IsSomeAnd new (did s))
  -- a refused call changes nothing
  pub refused : IsRefusal answer → new ≡ old
  pub answers : IsRefusal answer → (answer ≡ no_memory) ⊎ (answer ≡ out_of_range) ⊎ (answer ≡ closed_handle)
  pub outside : (answer ≡ out_of_range) ↔ IsSomeAnd old (λ s. ¬ takes s)
  pub closed : (answer ≡ closed_handle) ↔ (old ≡ None)

-- in the state `old` the step gets a reply for which `shown` holds, and leads to the state `new`
abbrev pub Replies : {R : Type 0} → (State → R × State) → (R → Type 0) → State → State → Type 0
Replies {R} step shown old new = (reply : R) × (step old ≡ (reply, new)) × shown reply

-- a call that performs a step, and returns the number of its reply
abbrev pub IsCommandCall : (State → Type 0) → (State → Reply × State) → Option State → Option State → ℕ → Type 0
IsCommandCall takes step old new answer = IsCall takes (Replies step (λ reply. answer ≡ reply_in_c reply)) old new answer

-- the heap of a handle that has this state
abbrev pub heap_behind : GcflipHeap → State → Collected
heap_behind handle s = record { core = s; beside = handle.beside; roots_left = handle.roots_left }
