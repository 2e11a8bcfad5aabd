-- What the calls that lead from one stage to another return, and where the handle stands then.
use Rattle.std.specs.Prelude.{◌≡◌, ◌⊎◌, ℕ, ◌+◌, ◌<◌, ◌≤◌, true, false, map, ⊤, Option, Some}
use Rattle.gc_check.specs.InC.{done, no_memory}
use Rattle.gc_cert.specs.Grammar.{CertifiedPair}
use Rattle.gc_words.specs.Certificate.{Certified}
use Rattle.gc_words.specs.Space.{end_of}
use Rattle.gc_words.specs.Word.{value_of}
use Rattle.gc_heap.specs.Heap.{HeapWords, graph_in}
use Rattle.gc_model.specs.State.{new_graph}
use Rattle.gc_model.specs.Steps.{is_ready, roots_done}
use Rattle.gc_concurrent.specs.Ends.{Theirs, its, opening_theirs}
use Rattle.gc_concurrent.specs.Heaps.{GoesOnIn}
use Rattle.gc_concurrent.specs.Nearing.{steps_ahead}
use Rattle.gc_concurrent.specs.Works.{KeepsBeginning, KeepsOrBegins, StandsOrBegins, TakesLog, WhereDone}
use Rattle.gc_concurrent.specs.Checking.{FlippedBy, CertifiesFlip, IsVouchedFor, flip_shown}
use Rattle.gc_concurrent.specs.Turns.{TurnsBy}
use Rattle.gc_concurrent.specs.declared.turns.Turns.{Turns}
use Rattle.gc_concurrent.specs.declared.copier.Work.TheVariants as work
use Rattle.gc_in_c.specs.Answers.{closed_handle, out_of_range}
use Rattle.gcflip_beside_c.specs.Answers.{parked_mutator, not_yet, not_ready, clean, no_room, flip_made}
use Rattle.gcflip_beside_c.specs.HandleStage.{HandleStage, runs, parked, works, asks, holds, IsCollector}

-- ---- the mutator

-- A safepoint: the mutator runs on in its heap, or has stopped with it.
abbrev pub Stops : HandleStage → HandleStage → ℕ → Type 0
Stops (runs heap) new answer = ((answer ≡ done) × (new ≡ runs heap)) ⊎ ((answer ≡ parked_mutator) × (new ≡ parked heap))
Stops (parked heap) new answer = (answer ≡ parked_mutator) × (new ≡ parked heap)
Stops old new answer = (answer ≡ closed_handle) × (new ≡ old)

-- a mutator runs, in the heap with which it stopped or in one whose graph corresponds to it
abbrev pub RunsAgain : HeapWords → HandleStage → Type 0
RunsAgain heap (runs later) = GoesOnIn heap later
RunsAgain heap new = ⊥

abbrev pub Resumes : HandleStage → HandleStage → ℕ → Type 0
Resumes (runs heap) new answer = (answer ≡ done) × (new ≡ runs heap)
Resumes (parked heap) new answer = ((answer ≡ done) × RunsAgain heap new) ⊎ ((answer ≡ not_yet) × (new ≡ parked heap))
Resumes old new answer = (answer ≡ closed_handle) × (new ≡ old)

-- ---- the collector

-- What work leaves as it is: the stage, how the collection began, and the heap of a mutator that is held.
abbrev pub outline : HandleStage → HandleStage
outline (works t) = works (opening_theirs t.base t.old t.size)
outline (asks t) = asks (opening_theirs t.base t.old t.size)
outline (holds t heap) = holds (opening_theirs t.base t.old t.size) heap
outline s = s

-- The steps ahead of a collector. Beside its mutator it does not know the end of the mutator's space, and the size of the new space is in its place.
abbrev pub ahead : HandleStage → ℕ
ahead (works t) = steps_ahead t.size t
ahead (asks t) = steps_ahead t.size t
ahead (holds t heap) = steps_ahead (end_of heap.space) t
ahead s = 0

-- the collector holds a mutator, and the target of each of its roots has a replica
abbrev pub HasRootsPlaced : HandleStage → Type 0
HasRootsPlaced (holds t heap) = roots_done (its t) (graph_in heap) ≡ true
HasRootsPlaced s = ⊥

-- nothing is due, every replica is scanned, and no object is wanted
abbrev pub IsIdle : HandleStage → Type 0
IsIdle (works t) = WhereDone work.Done t
IsIdle (asks t) = WhereDone work.Done t
IsIdle (holds t heap) = WhereDone work.Done t
IsIdle s = ⊥

-- the new space is smaller than the mutator's
abbrev pub LacksRoom : HandleStage → Type 0
LacksRoom (works t) = t.size < t.old
LacksRoom (asks t) = t.size < t.old
LacksRoom (holds t heap) = t.size < t.old
LacksRoom s = ⊥

-- so many steps, or fewer where nothing is left or a replica found no room
pub record HasWorked (most : ℕ) (old new : HandleStage) (answer : ℕ) : Type 0 where
  pub stays : outline new ≡ outline old
  pub nearer : answer ≡ done → ahead new + most ≤ ahead old
  pub rooted : HasRootsPlaced old → HasRootsPlaced new
  pub idle : answer ≡ clean → IsIdle new
  pub room : answer ≡ no_room → LacksRoom new
  pub answers : (answer ≡ done) ⊎ (answer ≡ clean) ⊎ (answer ≡ no_room)

-- a call of work, whose argument is at least 1
pub record IsBesideWork (most : ℕ) (old new : HandleStage) (answer : ℕ) : Type 0 where
  pub worked : IsCollector old → 1 ≤ most → HasWorked most old new answer
  pub closed : ¬ IsCollector old → (answer ≡ closed_handle) × (new ≡ old)
  pub outside : IsCollector old → most ≡ 0 → (answer ≡ out_of_range) × (new ≡ old)

-- The collection begins anew, in a new space of this size, unless an allocation failed.
abbrev pub PreparesSpace : ℕ → HandleStage → HandleStage → ℕ → Type 0
PreparesSpace size (works t) new answer = ((answer ≡ done) × (new ≡ works (opening_theirs t.base t.old size))) ⊎ ((answer ≡ no_memory) × (new ≡ works t))
PreparesSpace size (asks t) new answer = (answer ≡ not_yet) × (new ≡ asks t)
PreparesSpace size (holds t heap) new answer = (answer ≡ not_yet) × (new ≡ holds t heap)
PreparesSpace size old new answer = (answer ≡ closed_handle) × (new ≡ old)

-- a call of prepare, whose argument is at least 1
pub record IsBesidePrepare (size : ℕ) (old new : HandleStage) (answer : ℕ) : Type 0 where
  pub prepared : IsCollector old → 1 ≤ size → PreparesSpace size old new answer
  pub closed : ¬ IsCollector old → (answer ≡ closed_handle) × (new ≡ old)
  pub outside : IsCollector old → size ≡ 0 → (answer ≡ out_of_range) × (new ≡ old)

abbrev pub Asks : HandleStage → HandleStage → ℕ → Type 0
Asks (works t) new answer = ((answer ≡ done) × (new ≡ asks t)) ⊎ ((answer ≡ not_yet) × (new ≡ works t))
Asks (asks t) new answer = (answer ≡ done) × (new ≡ asks t)
Asks (holds t heap) new answer = (answer ≡ done) × (new ≡ holds t heap)
Asks old new answer = (answer ≡ closed_handle) × (new ≡ old)

-- Nothing was due. Now the entries of the mutator's log are due.
abbrev pub HoldsAfter : Theirs → HandleStage → Type 0
HoldsAfter t (holds u heap) = TakesLog t u
HoldsAfter t new = ⊥

abbrev pub TakesMutator : HandleStage → HandleStage → ℕ → Type 0
TakesMutator (works t) new answer = (answer ≡ not_yet) × (new ≡ works t)
TakesMutator (asks t) new answer = ((answer ≡ done) × HoldsAfter t new) ⊎ ((answer ≡ not_yet) × (new ≡ asks t))
TakesMutator (holds t heap) new answer = (answer ≡ done) × (new ≡ holds t heap)
TakesMutator old new answer = (answer ≡ closed_handle) × (new ≡ old)

-- The mutator may go on, and the collection stays open.
abbrev pub Goes : HandleStage → HandleStage → ℕ → Type 0
Goes (works t) new answer = (answer ≡ done) × (new ≡ works t)
Goes (asks t) new answer = (answer ≡ done) × (new ≡ works t)
Goes (holds t heap) new answer = (answer ≡ done) × (new ≡ works t)
Goes old new answer = (answer ≡ closed_handle) × (new ≡ old)

-- The certificate of a pair of images holds. This is what Sequential's yes says.
abbrev pub IsCertifiedPair : CertifiedPair → Type 0
IsCertifiedPair pair = Certified pair.old pair.new pair.pairs

-- A flip of this heap, after which the next collection has begun: of a heap as large as the new space, with the graph of the replicas, in a new space of one
-- word. A standing checker vouched for it, or a checker said this of it.
pub record IsFlip (says : CertifiedPair → Type 0) (t : Theirs) (heap : HeapWords) (u : Theirs) : Type 0 where
  pub ready : is_ready (its t) (graph_in heap) ≡ true
  pub asked : IsVouchedFor heap u.base ⊎ says (flip_shown heap t)
  pub certified : CertifiesFlip heap t
  pub fresh : u ≡ opening_theirs u.base t.size 1
  pub graph : graph_in u.base ≡ new_graph (its t) (map value_of heap.roots)

-- the mutator is not held any more, and the collector knows what is so related
abbrev pub WorksAfter : (Theirs → Type 0) → HandleStage → Type 0
WorksAfter P (works u) = P u
WorksAfter P new = ⊥

-- the collector still holds the mutator with its heap, and what it knows is so related
abbrev pub HoldsOn : (Theirs → Type 0) → HeapWords → HandleStage → Type 0
HoldsOn P heap (holds u later) = (later ≡ heap) × P u
HoldsOn P heap new = ⊥

-- The target of each root has a replica now. Nothing has changed, or fewer steps are ahead.
pub record IsRooted (t : Theirs) (heap : HeapWords) (u : Theirs) : Type 0 where
  pub rooted : roots_done (its u) (graph_in heap) ≡ true
  pub nearer : (u ≡ t) ⊎ (steps_ahead (end_of heap.space) u < steps_ahead (end_of heap.space) t)
  pub begun : KeepsBeginning t u

abbrev pub PlacesRoots : HandleStage → HandleStage → ℕ → Type 0
PlacesRoots (works t) new answer = (answer ≡ not_yet) × (new ≡ works t)
PlacesRoots (asks t) new answer = (answer ≡ not_yet) × (new ≡ asks t)
PlacesRoots (holds t heap) new answer = ((answer ≡ done) × HoldsOn (IsRooted t heap) heap new) ⊎ ((answer ≡ no_room) × (t.size < t.old) × HoldsOn (KeepsBeginning t) heap new)
PlacesRoots old new answer = (answer ≡ closed_handle) × (new ≡ old)

abbrev pub FlipsHeld : (CertifiedPair → Type 0) → HandleStage → HandleStage → ℕ → Type 0
FlipsHeld says (works t) new answer = (answer ≡ not_yet) × (new ≡ works t)
FlipsHeld says (asks t) new answer = (answer ≡ not_yet) × (new ≡ asks t)
FlipsHeld says (holds t heap) new answer =
    ((answer ≡ flip_made) × WorksAfter (IsFlip says t heap) new) ⊎ ((answer ≡ not_ready) × (is_ready (its t) (graph_in heap) ≡ false) × (new ≡ holds t heap)) ⊎ ((answer ≡ no_memory) × HoldsOn (StandsOrBegins t) heap new)
FlipsHeld says old new answer = (answer ≡ closed_handle) × (new ≡ old)

-- Roots' targets got replicas, and the steps that were left led to such a flip. It is refused only for lack of memory, or if the new space is smaller than the mutator's.
abbrev pub FinishesHeld : (CertifiedPair → Type 0) → HandleStage → HandleStage → ℕ → Type 0
FinishesHeld says (works t) new answer = (answer ≡ not_yet) × (new ≡ works t)
FinishesHeld says (asks t) new answer = (answer ≡ not_yet) × (new ≡ asks t)
FinishesHeld says (holds t heap) new answer =
    ((answer ≡ flip_made) × WorksAfter (λ u. FlippedBy says heap u.base × (u ≡ opening_theirs u.base t.size 1)) new)
    ⊎ ((answer ≡ not_ready) × (t.size < t.old) × HoldsOn (KeepsBeginning t) heap new) ⊎ ((answer ≡ no_memory) × HoldsOn (KeepsOrBegins t) heap new)
FinishesHeld says old new answer = (answer ≡ closed_handle) × (new ≡ old)

-- ---- which flips ask the whole checker

-- Where the collector held its mutator and works beside it now, it has flipped: the whole checker was asked if that was due. Otherwise no flip was counted.
abbrev pub TurnsByFlip : (CertifiedPair → Type 0) → HandleStage → HandleStage → Option Turns → Option Turns → Type 0
TurnsByFlip says (holds t heap) (works u) (Some old) (Some new) = TurnsBy (says (flip_shown heap t)) (IsVouchedFor heap u.base) old new
TurnsByFlip says before after old new = new ≡ old

-- the same after the steps that were left
abbrev pub TurnsByFinish : (CertifiedPair → Type 0) → HandleStage → HandleStage → Option Turns → Option Turns → Type 0
TurnsByFinish says (holds t heap) (works u) (Some old) (Some new) = TurnsBy ((s : Theirs) × says (flip_shown heap s)) (IsVouchedFor heap u.base) old new
TurnsByFinish says before after old new = new ≡ old
