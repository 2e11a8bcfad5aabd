-- What calls on frames return, which are stacks of extra roots.
use Rattle.std.specs.Prelude.{◌≡◌, ◌⊎◌, ℕ, ◌∷◌, [], Option}
use Rattle.gc_graph.specs.declared.reply.Reply.{Reply}
use Rattle.gc_model.specs.State.{State}
use Rattle.gc_pace.specs.Frames.{HasFrame}
use Rattle.gc_pace.specs.declared.frame.Frame.{Frame}
use Rattle.gcflip_heap_c.specs.Commands.{IsCall, Replies}
use Rattle.gc_in_c.specs.Replies.{reply_in_c}
use Rattle.gcflip_heap_c.specs.Slots.{NamesSlots}

-- the state has mutator m and the frame, and this number is that of a slot
abbrev pub NamesFrame : ℕ → ℕ → Frame → State → Type 0
NamesFrame m slot frame s = NamesSlots m (slot ∷ []) s × HasFrame frame s

-- The frame has no place or no value for the call, which tells so and changes nothing; or the step is performed.
abbrev pub RepliesOrLacks : Type 0 → ℕ → (State → Reply × State) → ℕ → State → State → Type 0
RepliesOrLacks lacks lack step answer s s' = (lacks × (answer ≡ lack) × (s' ≡ s)) ⊎ ((lacks → ⊥) × Replies step (λ reply. answer ≡ reply_in_c reply) s s')

-- What a call on a frame returns, and the state after it. `lacks` says that the frame has no place or no value for the call, which then
-- returns `lack`.
abbrev pub IsFrameCall : (State → Type 0) → Type 0 → ℕ → (State → Reply × State) → Option State → Option State → ℕ → Type 0
IsFrameCall takes lacks lack step old new answer = IsCall takes (RepliesOrLacks lacks lack step answer) old new answer
