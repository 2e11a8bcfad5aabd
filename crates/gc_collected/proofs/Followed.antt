-- A monitor that follows a collected heap goes on following it through commands.
use Rattle.std.proofs.lemmas.Grind.{common_steps}
use Rattle.std.proofs.Common.{◌≡◌, ℕ, [], Option, Some, None, false, Bool, refl, ap, sym, subst, arith}
use Rattle.std.specs.Prelude.{IfSome}
use Rattle.std.specs.Option.{option_map}
use Rattle.gc_graph.specs.Graph.{Graph}
use Rattle.gc_graph.specs.Machine.{words_taken}
use Rattle.gc_graph.specs.Slots.{SlotName}
use Rattle.gc_graph.specs.declared.command.Op.{Op}
use Rattle.gc_graph.specs.declared.reply.Reply.{Reply}
use Rattle.gc_words.specs.Image.{Image}
use Rattle.gc_words.specs.Spelling.{link_at}
use Rattle.gc_words.specs.Space.{free_in}
use Rattle.gc_heap.specs.Heap.{HeapWords, IsHeap, graph_in, image_of}
use Rattle.gc_heap.specs.Commands.{Performs}
use Rattle.gc_model.specs.State.{State}
use Rattle.gc_model.specs.Linked.{linked_image}
use Rattle.gc_model.specs.Steps.{WritesField, mutate, written}
use Rattle.gc_model.specs.Members.{In}
use Rattle.gc_model.specs.Belonging.{IsOpened, IsSpaceGraph}
use Rattle.gc_monitor.specs.Claims.{CanMake}
use Rattle.gc_monitor.specs.Events.{Made}
use Rattle.gc_monitor.specs.Tables.{Tables}
use Rattle.gc_copy.specs.Words.{CollectionWords, collection_in, state_of}
use Rattle.gc_copy.proofs.Public.{idle_left}
use Rattle.gc_collected.specs.Internal.Follows.{Follows}
use Rattle.gc_collected.proofs.Monitor.Follows.{follows_closed, follows_new, follows_quiet}
use Rattle.gc_collected.proofs.Monitor.Grown.{new_op}
use Rattle.gc_collected.proofs.Monitor.Ran.{ran_one}
use Rattle.gc_collected.specs.Internal.CollectedHeap.{BelongsIfOpen}
use Rattle.gc_collected.proofs.OtherCommands.{performed}

no_put : (g : Graph) (m : ℕ) (op : Op) (reply : Reply) → ¬ WritesField op → written g m op reply ≡ []
no_put g m op reply none = grind (arith, common_steps)

-- a command that writes no field and makes no object
pub quiet : (now : State) (heap new : HeapWords) (o : Option CollectionWords) (m : ℕ) (op : Op) (reply : Reply) (t : Tables) → state_of heap (option_map collection_in o) ≡ now → IfSome now.collection (IsOpened now)
    → IsHeap heap → ¬ WritesField op → words_taken op ≡ 0 → Performs heap m op reply new → BelongsIfOpen heap o → Follows (state_of heap (option_map collection_in o)) t → Follows (state_of new (option_map collection_in o)) t
quiet now heap new o m op reply t view is_open sound none few performs belongs =
    let s = state_of heap (option_map collection_in o) in
    follows_quiet s (state_of new (option_map collection_in o)) t _ (subst (λ (x : State). IfSome x.collection (IsOpened x)) (sym view) is_open)
    (ran_one s (state_of new (option_map collection_in o)) m op reply (performed heap new o m op reply sound none performs belongs) few)
    (λ a i w. subst (λ ws. In {X = ℕ × ℕ} (a, i) ws) (no_put (graph_in heap) m op reply none) w)

-- a command while no collection is open
pub closed : (heap new : HeapWords) (o : Option CollectionWords) (m : ℕ) (op : Op) (reply : Reply) (t : Tables) → ((c : CollectionWords) → o ≡ Some c → ⊥) → words_taken op ≡ 0 → mutate (state_of heap (option_map collection_in o)) m op ≡ (reply, state_of new (option_map collection_in o))
    → Follows (state_of heap (option_map collection_in o)) t → Follows (state_of new (option_map collection_in o)) t
closed heap new o m op reply t none few said = follows_closed (state_of heap (option_map collection_in o)) (state_of new (option_map collection_in o)) t _ (is_none o none)
    (ran_one (state_of heap (option_map collection_in o)) (state_of new (option_map collection_in o)) m op reply said few)
  where
    is_none : (o : Option CollectionWords) → ((c : CollectionWords) → o ≡ Some c → ⊥) → option_map collection_in o ≡ None
    is_none None n = refl
    is_none (Some c) n = absurd (n c refl)

-- the same, of what the heap alone performs
pub closed_put : (heap new : HeapWords) (o : Option CollectionWords) (m : ℕ) (op : Op) (reply : Reply) (t : Tables) → o ≡ None → words_taken op ≡ 0 → IsHeap heap → Performs heap m op reply new → Follows (state_of heap (option_map collection_in o)) t → Follows (state_of new (option_map collection_in o)) t
closed_put heap new o m op reply t none few sound performs f =
    closed heap new o m op reply t (λ c some. cc) few
    (subst (λ o. mutate (state_of heap (option_map collection_in o)) m op ≡ (reply, state_of new (option_map collection_in o))) (sym none) (idle_left heap new m op reply sound performs)) f

-- a `New` or a `NewRaw`, of which the monitor is told
pub newly : (now : State) (heap new : HeapWords) (o : Option CollectionWords) (m : ℕ) (op : Op) (reply : Reply) (t after : Tables) (raw : Bool) (d : SlotName) (kind len : ℕ) → op ≡ new_op raw d kind len → state_of heap (option_map collection_in o) ≡ now → IfSome now.collection (IsOpened now)
    → IsSpaceGraph now.size now.heap.free now.heap.graph → IsHeap heap → ¬ WritesField op → Performs heap m op reply new → BelongsIfOpen heap o → IsSpaceGraph new.space.size (free_in new.space) (graph_in new) → image_of new ≡ linked_image (link_at new.space.words) new.space.size (graph_in new)
    → (t.lost ≡ false → CanMake new.space.words t → after.lost ≡ false) → (after.lost ≡ false → Made new.space.words t after) → Follows (state_of heap (option_map collection_in o)) t → Follows (state_of new (option_map collection_in o)) after
newly now heap new o m op reply t after raw d kind len is view is_open before sound none performs belongs later shows =
    let s = state_of heap (option_map collection_in o) in
    follows_new s (state_of new (option_map collection_in o)) m op reply raw d kind len (link_at new.space.words) new.space.words t after is (subst (λ (x : State). IfSome x.collection (IsOpened x)) (sym view) is_open)
    (subst (λ (x : State). IsSpaceGraph x.size x.heap.free x.heap.graph) (sym view) before) later (performed heap new o m op reply sound none performs belongs) (ap (λ (image : Image). image.words) shows)
