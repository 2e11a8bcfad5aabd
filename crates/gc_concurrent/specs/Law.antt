-- What a mutator's replies are, whatever the collector's thread did.
use Rattle.std.specs.Prelude.{[], ◌≡◌, ◌⊎◌, ◌≤◌, ◌<◌, ℕ, zero, suc, List, ◌∷◌, length, map, take, drop, not, false, IsTrue, ⊤}
use Rattle.std.specs.List.{list_all}
use Rattle.gc_graph.specs.Graph.{Graph, fresh_name}
use Rattle.gc_graph.specs.Machine.{Roomy, roomy_step, words_taken, opening_roomy}
use Rattle.gc_graph.specs.Correspond.{Corresponding}
use Rattle.gc_graph.specs.Runs.{replies, is_full, HasRoom}
use Rattle.gc_graph.specs.declared.command.Op.{Op}
use Rattle.gc_graph.specs.declared.reply.Reply.{Reply}
use Rattle.gc_heap.specs.Heap.{HeapWords, IsHeap, graph_in, roomy_in}
use Rattle.gc_concurrent.specs.Machines.{Does}

-- the commands as the one mutator's
abbrev pub by_one : List Op → List (ℕ × Op)
by_one ops = map (λ op. (0, op)) ops

-- the machine after the first n commands
abbrev pub machine_after : Roomy → ℕ → List (ℕ × Op) → Roomy
machine_after s zero commands = s
machine_after s (suc n) [] = s
machine_after s (suc n) (command ∷ rest) = machine_after (roomy_step s command.0 command.1 (fresh_name s.graph)).1 n rest

-- This is the heap's graph, or one that corresponds to it.
abbrev pub Shows : Graph → HeapWords → Type 0
Shows g heap = (g ≡ graph_in heap) ⊎ ((pairs : List (ℕ × ℕ)) × Corresponding pairs g (graph_in heap))

-- These are the first replies of each machine that has the heap's graph, and room for as many commands.
abbrev pub AreReplies : HeapWords → List Op → List Reply → Type 0
AreReplies heap ops told = (s : Roomy) → Shows s.graph heap → HasRoom s (by_one ops) (length told) → told ≡ take (length told) (replies s (by_one ops))

-- No reply is `Full`.
abbrev pub HasNoFull : List Reply → Type 0
HasNoFull told = IsTrue (list_all (λ reply. not (is_full reply)) told)

-- The first of these commands, if there is one, finds no room in the heap.
abbrev pub FindsNoRoom : HeapWords → List Op → Type 0
FindsNoRoom heap [] = ⊤
FindsNoRoom heap (op ∷ rest) = (roomy_in heap).free < words_taken op

-- n commands were performed: all of them, or the heap has no room for the next one.
abbrev pub EndsAt : HeapWords → List Op → ℕ → Type 0
EndsAt heap ops n = (n ≤ length ops) × FindsNoRoom heap (drop n ops)

-- The graph of each such machine after n commands corresponds to that of the new heap.
abbrev pub ShowsAfter : HeapWords → List Op → ℕ → HeapWords → Type 0
ShowsAfter heap ops n new = (s : Roomy) → Shows s.graph heap → HasRoom s (by_one ops) n → (pairs : List (ℕ × ℕ)) × Corresponding pairs (machine_after s n (by_one ops)).graph (graph_in new)

-- Not all commands were performed. These are the replies to those that were, and the new heap is what they left.
pub record StandsAfter (heap : HeapWords) (ops : List Op) (told : List Reply) (new : HeapWords) : Type 0 where
  pub replies : AreReplies heap ops told
  pub fine : HasNoFull told
  pub fewer : length told < length ops
  pub shown : ShowsAfter heap ops (length told) new

-- The command was performed at last, in a heap that shows what the old one showed.
pub record Serves (old : HeapWords) (op : Op) (reply : Reply) (new : HeapWords) : Type 0 where
  pub at : HeapWords
  pub sound : IsHeap at
  pub shown : (g : Graph) → Shows g old → Shows g at
  pub does : Does at op reply new

-- These are all replies of each machine that has the heap's graph, or one that corresponds to it, and room for all commands.
abbrev pub AreAllReplies : HeapWords → List Op → List Reply → Type 0
AreAllReplies heap ops told = (s : Roomy) → Shows s.graph heap → HasRoom s (by_one ops) (length ops) → told ≡ replies s (by_one ops)

-- These are all replies of each machine that begins without objects, with 32 roots that are nil, in a space of any size that has room for all commands.
abbrev pub AreRepliesFromNothing : List Op → List Reply → Type 0
AreRepliesFromNothing ops told = (size : ℕ) → HasRoom (opening_roomy size 1) (by_one ops) (length ops) → told ≡ replies (opening_roomy size 1) (by_one ops)

-- These are the first replies of each such machine that has room for as many commands, and none is `Full`.
pub record StandsFromNothing (ops : List Op) (told : List Reply) : Type 0 where
  pub replies : (size : ℕ) → HasRoom (opening_roomy size 1) (by_one ops) (length told) → told ≡ take (length told) (replies (opening_roomy size 1) (by_one ops))
  pub fine : HasNoFull told

-- Each command was performed in a heap that shows what was shown before it, so after any number of safepoints and of commands that found no room; and
-- it found room. After the last one there may be safepoints again.
abbrev pub Ran : HeapWords → List Op → List Reply → HeapWords → Type 0
Ran heap [] [] new = (g : Graph) → Shows g heap → Shows g new
Ran heap [] (reply ∷ told) new = ⊥
Ran heap (op ∷ ops) [] new = ⊥
Ran heap (op ∷ ops) (reply ∷ told) new = (mid : HeapWords) × IsHeap mid × Serves heap op reply mid × (is_full reply ≡ false) × Ran mid ops told new
