-- What the commands of a whole run return on a mutator's handle.
use Rattle.std.specs.Prelude.{◌≡◌, ℕ, false, List, [], ◌∷◌, ⊤}
use Rattle.gc_graph.specs.Graph.{Graph}
use Rattle.gc_graph.specs.Runs.{is_full}
use Rattle.gc_graph.specs.declared.command.Op.{Op}
use Rattle.gc_graph.specs.declared.command.Op.TheVariants.{Get}
use Rattle.gc_graph.specs.declared.reply.Reply.{Reply}
use Rattle.gc_heap.specs.Heap.{HeapWords, IsHeap}
use Rattle.gc_concurrent.specs.Law.{Shows}
use Rattle.gc_in_c.specs.Replies.{reply_in_c, got_in_c}
use Rattle.gcflip_beside_c.specs.Commands.{RunsOn, GetsReply}
use Rattle.gcflip_beside_c.specs.HandleStage.{HandleStage, runs, parked}

-- the number that the call for a command with this reply returns
abbrev pub number_in_c : Op → Reply → ℕ
number_in_c (Get d s i) reply = got_in_c reply
number_in_c op reply = reply_in_c reply

-- the numbers that the calls for commands with these replies return
abbrev pub numbers_in_c : List Op → List Reply → List ℕ
numbers_in_c [] told = []
numbers_in_c (op ∷ ops) [] = []
numbers_in_c (op ∷ ops) (reply ∷ told) = number_in_c op reply ∷ numbers_in_c ops told

-- The mutator, which runs or has stopped, has a heap with this graph, or with one that corresponds to it.
abbrev pub ShowsAt : Graph → HandleStage → Type 0
ShowsAt g (runs heap) = Shows g heap
ShowsAt g (parked heap) = Shows g heap
ShowsAt g s = ⊥

-- what was shown is shown
abbrev pub StillShows : HandleStage → HandleStage → Type 0
StillShows old new = (g : Graph) → ShowsAt g old → ShowsAt g new

-- the mutator's words are those of a heap, as they are for each handle
abbrev pub HasSoundHeap : HandleStage → Type 0
HasSoundHeap (runs heap) = IsHeap heap
HasSoundHeap s = ⊤

-- Each command was performed where the handle showed what it had shown before, so after any safepoints and any refused calls; its call returned this
-- number, and it found room.
abbrev pub CallsRan : HandleStage → List Op → List ℕ → HandleStage → Type 0
CallsRan s [] [] new = StillShows s new
CallsRan s [] (answer ∷ told) new = ⊥
CallsRan s (op ∷ ops) [] new = ⊥
CallsRan s (op ∷ ops) (answer ∷ told) new = (at mid : HeapWords) × IsHeap at × IsHeap mid × StillShows s (runs at)
    × RunsOn (GetsReply op (λ reply. (answer ≡ number_in_c op reply) × (is_full reply ≡ false))) (runs at) (runs mid) × CallsRan (runs mid) ops told new
