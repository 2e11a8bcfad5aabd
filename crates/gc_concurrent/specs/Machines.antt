-- A mutator's commands, by gc_graph's machine.
use Rattle.std.specs.Prelude.{◌≡◌, ◌⊎◌, ℕ, List, [], ◌∷◌, ◌++◌, length}
use Rattle.gc_graph.specs.Graph.{Value}
use Rattle.gc_graph.specs.Machine.{Roomy, roomy_step}
use Rattle.gc_graph.specs.declared.command.Op.{Op}
use Rattle.gc_graph.specs.declared.command.Op.TheVariants.{New, Put}
use Rattle.gc_graph.specs.declared.reply.Reply.{Reply}
use Rattle.gc_graph.specs.declared.reply.Reply.TheVariants.{Full, Made}
use Rattle.gc_words.specs.Space.{end_of}
use Rattle.gc_heap.specs.Heap.{HeapWords, IsHeap, roomy_in}
use Rattle.gc_heap.specs.Places.{root_at}

-- The command gets this reply, and leads from the one heap to the other. A new object's name is the end of the space.
abbrev pub Does : HeapWords → Op → Reply → HeapWords → Type 0
Does old op reply new = roomy_step (roomy_in old) 0 op (end_of old.space) ≡ (reply, roomy_in new)

-- The commands get these replies one after another, and lead from the one heap to the other.
abbrev pub DoesAll : HeapWords → List Op → List Reply → HeapWords → Type 0
DoesAll old [] [] new = new ≡ old
DoesAll old [] (reply ∷ told) new = ⊥
DoesAll old (op ∷ ops) [] new = ⊥
DoesAll old (op ∷ ops) (reply ∷ told) new = (mid : HeapWords) × IsHeap mid × Does old op reply mid × DoesAll mid ops told new

-- the commands that make an object of two fields in the root at place d, and give the fields the values of the roots at places s and t
abbrev pub pair_commands : ℕ → ℕ → ℕ → ℕ → List Op
pair_commands d kind s t = New (root_at d) kind 2 ∷ Put (root_at d) 0 (root_at s) ∷ Put (root_at d) 1 (root_at t) ∷ []

-- These three commands are performed. If there is no room, the first one is all.
abbrev pub MakesPair : ℕ → ℕ → ℕ → ℕ → HeapWords → Reply → HeapWords → Type 0
MakesPair d kind s t old reply new =
    ((reply ≡ Full) × Does old (New (root_at d) kind 2) Full new)
    ⊎ ((reply ≡ Made) × (one two : Reply) × DoesAll old (pair_commands d kind s t) (Made ∷ one ∷ two ∷ []) new)

-- the machine with one more root, behind all others, which holds this value
abbrev pub with_root : Value → Roomy → Roomy
with_root v s = record s { graph = record s.graph { roots = s.graph.roots ++ v ∷ [] } }

-- The value is written to field i of the object in the root at place s. This is the `Put` of one more root, behind all others, which holds the value.
-- That root is gone afterwards, and all others are as before.
abbrev pub PutsValue : ℕ → ℕ → Value → HeapWords → Reply → HeapWords → Type 0
PutsValue s i v old reply new =
    roomy_step (with_root v (roomy_in old)) 0 (Put (root_at s) i (root_at (length old.roots))) (end_of old.space) ≡ (reply, with_root v (roomy_in new))
