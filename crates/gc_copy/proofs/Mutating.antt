-- The code of a command with its write barrier does the model's command.
use Rattle.std.proofs.lemmas.Grind.{common_steps}
use Rattle.std.proofs.Common.{◌≡◌, ◌≢◌, inl, ℕ, zero, suc, List, [], ◌∷◌, ◌++◌, Option, refl, sym, subst, arith, append-nil}
use Rattle.std.specs.Prelude.{slice_get, slice_set}
use Rattle.std.specs.Option.{option_to_list, unwrap_or}
use Rattle.gc_graph.specs.Machine.{Roomy, roomy_step}
use Rattle.gc_graph.specs.Graph.{Graph}
use Rattle.gc_graph.specs.declared.command.Op.{Op}
use Rattle.gc_graph.specs.declared.reply.Reply.{Reply}
use Rattle.gc_graph.specs.declared.reply.Reply.TheVariants as replies
use Rattle.gc_words.specs.Space.{end_of}
use Rattle.gc_heap.specs.Heap.{HeapWords, IsHeap, KeepsLinks, graph_in, roomy_in}
use Rattle.gc_heap.specs.Commands.{Performs}
use Rattle.gc_model.specs.State.{Collection}
use Rattle.gc_model.specs.Steps.{log_at, with_log, WritesField, written, mutate}
use Rattle.gc_copy.specs.Internal.Entries.{if_done}
use Rattle.gc_model.specs.Members.{In}
use Rattle.gc_model.specs.Belonging.{HasField}
use Rattle.gc_copy.specs.Words.{CollectionWords, collection_in, idle_state, open_state, LinksNothing, BelongsTo, BelongsToBut}
use Rattle.gc_model.proofs.Public.{field_there}
use Rattle.gc_copy.proofs.LinkedImages.{command_leaves, nothing_left, nothing_linked}

-- appending nothing does not change a log
set_kept : (logs : List (List (ℕ × ℕ))) (m : ℕ) → slice_set logs m (unwrap_or (slice_get logs m) [] ++ []) ≡ logs
set_kept [] m = refl
set_kept (l ∷ logs) zero = let same = append-nil l in λ i. same i ∷ logs
set_kept (l ∷ logs) (suc m) = let rest = set_kept logs m in λ i. l ∷ rest i

pub nothing_noted : (c : Collection) (m : ℕ) → with_log c m (log_at c m ++ []) ≡ c
nothing_noted c m = let logs = set_kept c.logs m in λ i. record c { logs = logs i }

pub mutate_is : (heap new : HeapWords) (c next : CollectionWords) (m : ℕ) (op : Op) (reply : Reply) (entries : List (ℕ × ℕ)) → IsHeap heap → new.space.size ≡ heap.space.size → new.mutators ≡ heap.mutators
    → roomy_step (roomy_in heap) m op (end_of heap.space) ≡ (reply, roomy_in new) → written (graph_in heap) m op reply ≡ entries → collection_in next ≡ with_log (collection_in c) m (log_at (collection_in c) m ++ entries)
    → mutate (open_state heap c) m op ≡ (reply, open_state new next)
mutate_is heap new c next m op reply entries is size mutators step wrote noted = grind (arith, common_steps)

nothing : (g : Graph) (m : ℕ) (op : Op) (reply : Reply) → reply ≢ replies.Done → written g m op reply ≡ []
nothing g m op reply other = grind (arith, common_steps)

-- the entries to log, from the field that the code found and the reply
pub wrote : (g : Graph) (m : ℕ) (op : Op) (reply : Reply) (put found : Option (ℕ × ℕ)) → option_to_list put ≡ written g m op replies.Done → found ≡ if_done reply put → written g m op reply ≡ option_to_list found
wrote g m op reply put found e f = grind (arith, common_steps, nothing)

pub nothing_belongs : (heap new : HeapWords) (c : CollectionWords) (m : ℕ) (op : Op) (reply : Reply) → BelongsTo heap c → KeepsLinks heap.space.words new.space.words → new.mutators ≡ heap.mutators
    → roomy_step (roomy_in heap) m op (end_of heap.space) ≡ (reply, roomy_in new) → written (graph_in heap) m op reply ≡ [] → BelongsTo new c
nothing_belongs heap new c m op reply k links mutators step none = nothing_left new c (subst (λ es. BelongsToBut es new c) none (command_leaves heap new c m op reply k links mutators step))

pub one_but : (heap new : HeapWords) (c : CollectionWords) (m : ℕ) (op : Op) (reply : Reply) (a f : ℕ) → BelongsTo heap c → KeepsLinks heap.space.words new.space.words → new.mutators ≡ heap.mutators
    → roomy_step (roomy_in heap) m op (end_of heap.space) ≡ (reply, roomy_in new) → written (graph_in heap) m op reply ≡ (a, f) ∷ [] → BelongsToBut ((a, f) ∷ []) new c × HasField (graph_in new).objects a f
one_but heap new c m op reply a f k links mutators step one = (
  subst (λ es. BelongsToBut es new c) one (command_leaves heap new c m op reply k links mutators step),
  subst (λ (x : Reply × Roomy). In {X = ℕ × ℕ} (a, f) (written (graph_in heap) m op x.0) → HasField x.1.graph.objects a f) step (field_there (roomy_in heap) m op (end_of heap.space) a f)
      (subst (In {X = ℕ × ℕ} (a, f)) (sym one) (inl refl)),
)

-- ---- commands that write no field

no_put : (g : Graph) (m : ℕ) (op : Op) (reply : Reply) → ¬ WritesField op → written g m op reply ≡ []
no_put g m op reply none = grind (arith, common_steps)

pub open_left : (heap new : HeapWords) (c : CollectionWords) (m : ℕ) (op : Op) (reply : Reply) → IsHeap heap → BelongsTo heap c → ¬ WritesField op → Performs heap m op reply new
    → (mutate (open_state heap c) m op ≡ (reply, open_state new c)) × BelongsTo new c
open_left heap new c m op reply is belongs none performs = (
  mutate_is heap new c c m op reply [] is performs.size performs.mutators performs.step (no_put (graph_in heap) m op reply none) (sym (nothing_noted (collection_in c) m)),
  nothing_belongs heap new c m op reply belongs performs.links performs.mutators performs.step (no_put (graph_in heap) m op reply none),
)

pub idle_left : (heap new : HeapWords) (m : ℕ) (op : Op) (reply : Reply) → IsHeap heap → Performs heap m op reply new → mutate (idle_state heap) m op ≡ (reply, idle_state new)
idle_left heap new m op reply is performs = grind (arith, common_steps)

pub still_unlinked : (epoch : ℕ) (heap new : HeapWords) (m : ℕ) (op : Op) (reply : Reply) → Performs heap m op reply new → LinksNothing epoch heap → LinksNothing epoch new
still_unlinked epoch heap new m op reply performs none = nothing_linked heap new epoch none performs.links
