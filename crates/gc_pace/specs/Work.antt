-- Useful steps, performed in order by one call, and what is reported of them.
use Rattle.std.specs.Prelude.{◌≡◌, ◌≢◌, ◌⊎◌, ℕ, zero, suc, ◌+◌, ◌-◌, ◌*◌, ◌/◌, ◌<◌, ◌≤◌, ⊤, Bool, true, false, not, Option, Some, None, IfSome, IsSomeAnd}
use Rattle.std.specs.Option.{option_map, option_map_or, option_or}
use Rattle.gc_model.specs.State.{State, new_end, heap_end}
use Rattle.gc_model.specs.Steps.{collect, useful_step}
use Rattle.gc_model.specs.Progress.{work_left, entries_left}
use Rattle.gc_model.specs.declared.step.Step.{Step}
use Rattle.gc_model.specs.declared.step.Step.TheVariants.{Begin, BeginSized}
use Rattle.gc_model.specs.declared.step.StepReply.{StepReply}
use Rattle.gc_model.specs.declared.step.StepReply.TheVariants.{NoRoom, Refused, Flipped}
use Rattle.gc_collected.specs.CollectedHeap.{Allocates}
use Rattle.gc_collected.specs.Flip.{FlipsOnly, IsCertified, PassesIfReady, HasRoomIfLarge}
use Rattle.gc_pace.specs.declared.work.Looks.{Looks}
use Rattle.gc_pace.specs.declared.work.Looks.TheVariants.{Count, CountUpTo, AreFree}
use Rattle.gc_pace.specs.declared.work.Work.{Work}

-- the step, but a begin takes this many words for the new space, if a number is given
abbrev pub with_size : Option ℕ → Step → Step
with_size size Begin = option_map_or BeginSized size Begin
with_size size step = step

-- the useful step of work whose begin takes this size
abbrev pub sized_step : Option ℕ → State → Step
sized_step size s = with_size size (useful_step s)

-- the state that n useful steps lead to
abbrev pub after_useful : Option ℕ → ℕ → State → State
after_useful size zero s = s
after_useful size (suc n) s = (collect (after_useful size n s) (sized_step size (after_useful size n s))).1

-- the reply to useful step n, counted from 0
abbrev pub useful_reply : Option ℕ → ℕ → State → StepReply
useful_reply size n s = (collect (after_useful size n s) (sized_step size (after_useful size n s))).0

-- work continues after this reply; it ends after a flip, and after a step that finds no room
abbrev pub goes_on : StepReply → Bool
goes_on (Flipped pairs) = false
goes_on NoRoom = false
goes_on reply = true

-- the step with this reply is a flip
abbrev pub is_flip : StepReply → Bool
is_flip (Flipped pairs) = true
is_flip reply = false

-- the last step flipped
abbrev pub has_flipped : Work → Bool
has_flipped work = option_map_or is_flip work.last false

-- the last step flipped or found no room
abbrev pub is_over : Work → Bool
is_over work = option_map_or (λ reply. not (goes_on reply)) work.last false

-- The reply to the useful step in this state. The step flips only if the certificate holds, and it is no refused flip. If the
-- collection is ready, it flips. If the new space is at least as large as the heap, it does not lack room.
pub record IsSoundReply (s : State) (reply : StepReply) : Type 0 where
  pub certified : FlipsOnly IsCertified s reply
  pub never_refused : reply ≢ Refused
  pub passes : PassesIfReady s reply
  pub room : HasRoomIfLarge s reply

-- the new space of the open collection, or else the one that a begin takes, is at least as large as the heap
abbrev pub IsLarge : Option ℕ → State → Type 0
IsLarge size s = IfSome (option_or (option_map (λ c. c.size) s.collection) size) (λ words. s.size ≤ words)

-- n useful steps from s lead to t, the last with this reply, and none before it ended the work
pub record IsRun (size : Option ℕ) (n : ℕ) (s t : State) (reply : StepReply) : Type 0 where
  pub some : 1 ≤ n
  pub state : t ≡ after_useful size n s
  pub reply_is : reply ≡ useful_reply size (n - 1) s
  pub going : (k : ℕ) → suc k < n → goes_on (useful_reply size k s) ≡ true
  -- each step's reply is sound, and none lacks room if the new space was large at first
  pub sound : (k : ℕ) → k < n → IsSoundReply (after_useful size k s) (useful_reply size k s)
  pub room : IsLarge size s → (k : ℕ) → k < n → useful_reply size k s ≢ NoRoom
  -- each step lowers the work that is left, unless it ended the work
  pub falls : goes_on reply ≡ true → work_left t + n ≤ work_left s
  -- so the steps, and the entries that remain in the logs, are no more than the work that was left
  pub logs : entries_left t + n ≤ work_left s

-- Why there was no further step: this reply ended the work, or the allocation of the next step failed, or the replicas took as many words as
-- there is a bound for. The step whose allocation failed opens a collection or flips.
abbrev pub IsEnd : Option ℕ → Option ℕ → State → StepReply → ℕ → Type 0
IsEnd size words t reply copied = (goes_on reply ≡ false) ⊎ Allocates t (sized_step size t) ⊎ IsSomeAnd words (λ most. most ≤ copied)

-- the first word of the new space that no replica takes, or 1 if no collection is open
abbrev pub end_in : State → ℕ
end_in s = option_map_or new_end s.collection 1

-- the same after a step with this reply; after a flip the new space is the heap's
abbrev pub end_after : State → StepReply → ℕ
end_after t (Flipped pairs) = heap_end t
end_after t reply = end_in t

-- the number of words that replicas took between these two states
abbrev pub words_copied : State → State → StepReply → ℕ
words_copied s t reply = end_after t reply - end_in s

-- the units of work: the steps, and one for each 32 looks
abbrev pub units : Work → ℕ
units work = work.steps + work.looks / 32

-- A call of at most so many units that took so many looks, and performed so many steps, can do no more.
abbrev pub IsSpent : Looks → ℕ → ℕ → ℕ → Type 0
IsSpent Count most looks steps = most ≤ steps + looks / 32
IsSpent (CountUpTo bound) most looks steps = (most ≤ steps + looks / 32) ⊎ (2 * bound ≤ looks)
IsSpent AreFree most looks steps = most ≤ steps

-- a call of at most so many units takes no more looks
abbrev pub HaveFewLooks : Looks → ℕ → ℕ → Type 0
HaveFewLooks Count most looks = looks ≤ 32 * most
HaveFewLooks (CountUpTo bound) most looks = (looks ≤ 32 * most) × (looks ≤ 2 * bound)
HaveFewLooks AreFree most looks = ⊤

abbrev pub no_work : Work
no_work = record { steps = 0; copied = 0; last = None; looks = 0 }

-- The work performed no step, because looks took its place.
pub record LooksOnly (looks_as : Looks) (most : ℕ) (s t : State) (work : Work) : Type 0 where
  pub state : t ≡ s
  pub told : work ≡ record no_work { looks = work.looks }
  pub spent : IsSpent looks_as most work.looks work.steps

-- The work performed steps, its begin taking this size. If there is a bound for the words, it also ends after the step with which its replicas
-- have taken as many.
pub record IsWorkDone (looks_as : Looks) (size words : Option ℕ) (most : ℕ) (s t : State) (work : Work) : Type 0 where
  pub reply : StepReply
  pub run : IsRun size work.steps s t reply
  pub last : work.last ≡ Some reply
  pub copied : work.copied ≡ words_copied s t reply
  pub within : work.steps ≤ most
  pub ended : IsSpent looks_as most work.looks work.steps ⊎ IsEnd size words t reply work.copied
  -- as many steps as work is left are enough
  pub enough : work_left s ≤ work.steps → IsEnd size words t reply work.copied
  -- before the last step, replicas took fewer words than the bound
  pub short : IfSome words (λ most. (k : ℕ) → suc k < work.steps → words_copied s (after_useful size (suc k) s) (useful_reply size k s) < most)

-- What work reports of at most this many units.
pub record IsWork (looks_as : Looks) (size words : Option ℕ) (most : ℕ) (s t : State) (work : Work) : Type 0 where
  pub none : work.steps ≡ 0 → LooksOnly looks_as most s t work
  pub some : 1 ≤ work.steps → IsWorkDone looks_as size words most s t work
  pub looks : HaveFewLooks looks_as most work.looks
