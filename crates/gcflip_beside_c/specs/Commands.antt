-- What a command returns, and where its handle stands then.
use Rattle.std.specs.Prelude.{◌≡◌, ◌⊎◌, ◌↔◌, ℕ, ◌-◌, length, nat_lt, if◌then◌else◌}
use Rattle.gc_check.specs.InC.{no_memory, IsRefusal}
use Rattle.gc_graph.specs.Limits.{lengths}
use Rattle.gc_graph.specs.declared.command.Op.{Op}
use Rattle.gc_graph.specs.declared.reply.Reply.{Reply}
use Rattle.gc_heap.specs.Heap.{HeapWords, roomy_in}
use Rattle.gc_concurrent.specs.Machines.{Does}
use Rattle.gc_in_c.specs.Answers.{out_of_range, closed_handle}
use Rattle.gc_in_c.specs.Replies.{reply_in_c}
use Rattle.gcflip_beside_c.specs.Answers.{parked_mutator}
use Rattle.gcflip_beside_c.specs.HandleStage.{HandleStage, runs, IsRunning, IsParked}

-- a mutator runs before and after, and its heaps are so related
abbrev pub RunsOn : (HeapWords → HeapWords → Type 0) → HandleStage → HandleStage → Type 0
RunsOn did (runs heap) (runs later) = did heap later
RunsOn did old new = ⊥

-- the number of roots of a mutator that runs
abbrev pub roots_in : HandleStage → ℕ
roots_in (runs heap) = length heap.roots
roots_in s = 0

-- Where a handle stands before and after a command, and its answer. `takes` says of a number of roots whether the arguments are in range. `did` relates the
-- heaps before and after a command that is performed.
pub record IsBesideCall (takes : ℕ → Type 0) (did : HeapWords → HeapWords → Type 0) (old new : HandleStage) (answer : ℕ) : Type 0 where
  pub done : ¬ IsRefusal answer → RunsOn did old new
  -- a refused call changes nothing
  pub refused : IsRefusal answer → new ≡ old
  pub answers : IsRefusal answer → (answer ≡ no_memory) ⊎ (answer ≡ out_of_range) ⊎ (answer ≡ closed_handle) ⊎ (answer ≡ parked_mutator)
  pub outside : (answer ≡ out_of_range) ↔ (IsRunning old × (¬ takes (roots_in old)))
  pub stopped : (answer ≡ parked_mutator) ↔ IsParked old
  pub closed : (answer ≡ closed_handle) ↔ ((¬ IsRunning old) × (¬ IsParked old))

-- gc_graph's machine performs the command with this reply, for which `shown` holds
abbrev pub GetsReply : Op → (Reply → Type 0) → HeapWords → HeapWords → Type 0
GetsReply op shown old new = (reply : Reply) × Does old op reply new × shown reply

-- a call that gets a reply to which its heaps are so related, and returns the number of this reply
abbrev pub IsBesideReply : (ℕ → Type 0) → (HeapWords → Reply → HeapWords → Type 0) → HandleStage → HandleStage → ℕ → Type 0
IsBesideReply takes did old new answer = IsBesideCall takes (λ heap later. (reply : Reply) × did heap reply later × (answer ≡ reply_in_c reply)) old new answer

-- a call that performs the command, and returns the number of its reply
abbrev pub IsBesideCommand : (ℕ → Type 0) → Op → HandleStage → HandleStage → ℕ → Type 0
IsBesideCommand takes op old new answer = IsBesideCall takes (GetsReply op (λ reply. answer ≡ reply_in_c reply)) old new answer

-- the free words of a mutator that runs
abbrev pub room_in : HandleStage → ℕ
room_in (runs heap) = (roomy_in heap).free
room_in s = 0

-- the field with this number. No object has so many fields that its last number has one, which stands for all that follow.
abbrev pub field_numbered : ℕ → ℕ
field_numbered i = if nat_lt i lengths then i else lengths - 1
