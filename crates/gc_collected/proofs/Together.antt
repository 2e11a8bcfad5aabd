-- Commands whose fields are logged together lead to the same state as commands that log each field at once.
use Rattle.std.proofs.lemmas.Grind.{common_steps}
use Rattle.std.proofs.Common.{◌≡◌, inl, inr, ⊎_elim, ℕ, zero, suc, ◌+◌, ◌-◌, ◌<◌, ◌≤◌, get_or, drop, false, List, [], ◌∷◌, ◌++◌, length, map, Option, Some, None, refl, ap, sym, ◌∙◌, subst, arith, append-nil, length-set}
use Rattle.std.specs.Prelude.{IfSome, slice_get, slice_set, ⊤}
use Rattle.std.specs.Option.{option_map, unwrap_or}
use Rattle.std.proofs.lemmas.List.{append_assoc, drop_all, drop_more, length-map, map-set}
use Rattle.gc_graph.specs.Machine.{Roomy, words_taken}
use Rattle.gc_graph.specs.Graph.{Object, Ref, names_of, root}
use Rattle.gc_graph.specs.Slots.{SlotName, place}
use Rattle.gc_graph.specs.declared.command.Op.{Op}
use Rattle.gc_graph.specs.declared.command.Op.TheVariants.{New, Put}
use Rattle.gc_graph.specs.declared.reply.Reply.{Reply}
use Rattle.gc_graph.specs.declared.reply.Reply.TheVariants.{Done, Full}
use Rattle.gc_words.specs.Image.{Image}
use Rattle.gc_words.specs.Space.{end_of, free_in}
use Rattle.gc_words.specs.Spelling.{link_at}
use Rattle.gc_heap.specs.Commands.{Performs}
use Rattle.gc_heap.specs.Heap.{HeapWords, IsHeap, graph_in, image_of, roomy_in}
use Rattle.gc_model.specs.State.{Collection, State, heap_end}
use Rattle.gc_model.specs.Steps.{log_at, logged, mutate, with_log, written}
use Rattle.gc_model.specs.Members.{In}
use Rattle.gc_model.specs.Belonging.{Belongs, HasField, IsOpened, IsSpaceGraph}
use Rattle.gc_model.proofs.Public.{WrittenBy, belongs_noted, field_there, in_left, in_right, lookup_in, lookup_laid}
use Rattle.gc_copy.specs.Words.{CollectionWords, BelongsTo, BelongsToBut, LinksNothing, LinksReplicas, collection_in, entries_of, state_of}
use Rattle.gc_copy.proofs.Public.{command_leaves, still_unlinked}
use Rattle.gc_model.specs.Linked.{linked_image}
use Rattle.gc_monitor.specs.Claims.{CanMake}
use Rattle.gc_monitor.specs.Events.{Made}
use Rattle.gc_monitor.specs.Tables.{Tables}
use Rattle.gc_collected.specs.CollectedHeap.{fill_step}
use Rattle.gc_collected.specs.Internal.CollectedHeap.{BelongsIfOpen, Fits, state_in}
use Rattle.gc_collected.specs.Internal.Follows.{Follows}
use Rattle.gc_collected.specs.Internal.Together.{Logs, LogsIfOpen, PerformsAll, fields_from, mutate_all, puts}
use Rattle.gc_collected.proofs.Monitor.CommandsKnown.{Continues, continues_on, continues_one}
use Rattle.gc_collected.proofs.Monitor.Follows.{follows_made}
use Rattle.gc_collected.proofs.Monitor.Grown.{EndsMore, ends_more}
use Rattle.gc_collected.proofs.Monitor.Leads.{leads_on, leads_one}
use Rattle.gc_collected.proofs.OtherCommands.{performed}
use Rattle.gc_collected.proofs.Monitor.Ran.{NoName, Ran, ran_none, ran_on, ran_one}

-- ---- a log

-- what is appended in two parts is appended at once
log_twice : (logs : List (List (ℕ × ℕ))) (m : ℕ) (e f : List (ℕ × ℕ))
    → (let once = slice_set logs m (unwrap_or (slice_get logs m) [] ++ e) in slice_set once m (unwrap_or (slice_get once m) [] ++ f)) ≡ slice_set logs m (unwrap_or (slice_get logs m) [] ++ (e ++ f))
log_twice [] m e f = refl
log_twice (log ∷ logs) zero e f = ap (λ l. l ∷ logs) (append_assoc log e f)
log_twice (log ∷ logs) (suc m) e f = ap (λ ls. log ∷ ls) (log_twice logs m e f)

log_same : (logs : List (List (ℕ × ℕ))) (m : ℕ) → slice_set logs m (unwrap_or (slice_get logs m) [] ++ []) ≡ logs
log_same [] m = refl
log_same (log ∷ logs) zero = ap (λ l. l ∷ logs) (append-nil log)
log_same (log ∷ logs) (suc m) = ap (λ ls. log ∷ ls) (log_same logs m)

abbrev appended : Collection → ℕ → List (ℕ × ℕ) → Collection
appended c m fields = with_log c m (log_at c m ++ fields)

appended_twice : (c : Collection) (m : ℕ) (e f : List (ℕ × ℕ)) → appended (appended c m e) m f ≡ appended c m (e ++ f)
appended_twice c m e f = ap (λ logs. record c { logs = logs }) (log_twice c.logs m e f)

appended_none : (c : Collection) (m : ℕ) → appended c m [] ≡ c
appended_none c m = ap (λ logs. record c { logs = logs }) (log_same c.logs m)

pub logged_twice : (o : Option Collection) (m : ℕ) (e f : List (ℕ × ℕ)) → logged (logged o m e) m f ≡ logged o m (e ++ f)
logged_twice None m e f = refl
logged_twice (Some c) m e f = ap (λ (d : Collection). Some d) (appended_twice c m e f)

pub logged_none : (o : Option Collection) (m : ℕ) → logged o m [] ≡ o
logged_none None m = refl
logged_none (Some c) m = ap (λ (d : Collection). Some d) (appended_none c m)

-- ---- fields are logged one by one

one_further : (a i k : ℕ) → fields_from a i k ++ (a, i + k) ∷ [] ≡ fields_from a i (suc k)
one_further a i zero = ap (λ j. (a, j) ∷ []) (let e : i + 0 ≡ i = omega arith in e)
one_further a i (suc k) = ap (λ fs. (a, i) ∷ fs) (ap (λ j. fields_from a (suc i) k ++ (a, j) ∷ []) (let e : i + suc k ≡ suc i + k = omega arith in e) ∙ one_further a (suc i) k)

pub logs_kept : (c next : CollectionWords) (m : ℕ) (log : List (ℕ × ℕ)) → collection_in next ≡ with_log (collection_in c) m log → length next.logs ≡ length c.logs
logs_kept c next m log same = sym (length-map next.logs entries_of) ∙ (ap (λ (x : Collection). length x.logs) same ∙ (length-set (map entries_of c.logs) m log ∙ length-map c.logs entries_of))

pub noted_none : (c : CollectionWords) (m : ℕ) → Logs c m [] c
noted_none c m = record { collection = sym (appended_none (collection_in c) m); epoch = refl }

-- two parts that are appended one after the other
pub logs_on : (first c next : CollectionWords) (m : ℕ) (e f : List (ℕ × ℕ)) → Logs first m e c → Logs c m f next → Logs first m (e ++ f) next
logs_on first c next m e f before after = record {
  collection = after.collection ∙ (ap (λ (d : Collection). appended d m f) before.collection ∙ appended_twice (collection_in first) m e f);
  epoch = after.epoch ∙ before.epoch;
}

pub noted_next : (first c next : CollectionWords) (m a i k : ℕ) → Logs first m (fields_from a i k) c → Logs c m ((a, i + k) ∷ []) next → Logs first m (fields_from a i (k + 1)) next
noted_next first c next m a i k so_far one =
    subst (λ fs. Logs first m fs next) (one_further a i k ∙ ap (fields_from a i) (let e : suc k ≡ k + 1 = omega arith in e)) (logs_on first c next m (fields_from a i k) ((a, i + k) ∷ []) so_far one)

-- ---- the state

performed_one : (heap new : HeapWords) (o : Option Collection) (m : ℕ) (op : Op) (reply : Reply) → IsHeap heap → Performs heap m op reply new → mutate (state_of heap o) m op ≡ (reply, state_of new (logged o m (written (graph_in heap) m op reply)))
performed_one heap new o m op reply is p = grind (arith, common_steps)

performed_all : (heap new : HeapWords) (o : Option Collection) (m : ℕ) (ops : List Op) (fields : List (ℕ × ℕ)) → IsHeap heap → PerformsAll heap m ops fields new → mutate_all (state_of heap o) m ops ≡ state_of new (logged o m fields)
performed_all heap new o m [] fields is (same, none) = ap (λ (h : HeapWords). state_of h o) same ∙ ap (state_of new) (sym (logged_none o m) ∙ ap (logged o m) (sym none))
performed_all heap new o m (op ∷ ops) fields is (next, reply, rest, p, sound, split, more) =
    ap (λ (x : Reply × State). mutate_all x.1 m ops) (performed_one heap next o m op reply is p)
    ∙ (performed_all next new (logged o m (written (graph_in heap) m op reply)) m ops rest sound more
    ∙ ap (state_of new) (logged_twice o m (written (graph_in heap) m op reply) rest ∙ ap (logged o m) (sym split)))

-- ---- the collection belongs to the heap

-- the words of a collection with these fields appended to a log
abbrev pub noted : CollectionWords → ℕ → List (ℕ × ℕ) → CollectionWords
noted c m fields = record c { logs = slice_set c.logs m (record { entries = log_at (collection_in c) m ++ fields; spare = 0 }) }

pub noted_in : (c : CollectionWords) (m : ℕ) (fields : List (ℕ × ℕ)) → collection_in (noted c m fields) ≡ appended (collection_in c) m fields
noted_in c m fields = ap (λ logs. record (collection_in c) { logs = logs }) (map-set entries_of c.logs m (record { entries = log_at (collection_in c) m ++ fields; spare = 0 }))

one_belongs : (heap new : HeapWords) (c : CollectionWords) (m : ℕ) (op : Op) (reply : Reply) → BelongsTo heap c → m < heap.mutators → Performs heap m op reply new → BelongsTo new (noted c m (written (graph_in heap) m op reply))
one_belongs heap new c m op reply k less p = record {
  belongs = subst (Belongs (graph_in new).objects) (sym (noted_in c m (written (graph_in heap) m op reply))) (belongs_noted (graph_in new).objects (collection_in c) m (written (graph_in heap) m op reply) within but.belongs there);
  links = but.links;
  logs = length-set c.logs m (record { entries = log_at (collection_in c) m ++ written (graph_in heap) m op reply; spare = 0 }) ∙ but.logs;
}
  where
    but : BelongsToBut (written (graph_in heap) m op reply) new c
    but = command_leaves heap new c m op reply k p.links p.mutators p.step

    within : m < length (map entries_of c.logs)
    within = let e : length c.logs ≡ heap.mutators = k.logs in let n = length-map c.logs entries_of in omega arith

    there : (a i : ℕ) → In {X = ℕ × ℕ} (a, i) (written (graph_in heap) m op reply) → HasField (graph_in new).objects a i
    there a i = subst (λ (x : Reply × Roomy). In {X = ℕ × ℕ} (a, i) (written (graph_in heap) m op x.0) → HasField x.1.graph.objects a i) p.step (field_there (roomy_in heap) m op (end_of heap.space) a i)

-- what contracts see of a collection decides whether it belongs to a heap
pub belongs_alike : (heap : HeapWords) (c d : CollectionWords) → collection_in d ≡ collection_in c → d.epoch ≡ c.epoch → BelongsTo heap c → BelongsTo heap d
belongs_alike heap c d same epoch k = record {
  belongs = subst (Belongs (graph_in heap).objects) (sym same) k.belongs;
  links = subst (λ e. LinksReplicas e heap (collection_in d)) (sym epoch) (subst (LinksReplicas c.epoch heap) (sym same) k.links);
  logs = sym (length-map d.logs entries_of) ∙ (ap (λ (x : Collection). length x.logs) same ∙ (length-map c.logs entries_of ∙ k.logs));
}

all_belong : (heap new : HeapWords) (c : CollectionWords) (m : ℕ) (ops : List Op) (fields : List (ℕ × ℕ)) → BelongsTo heap c → m < heap.mutators → PerformsAll heap m ops fields new
    → (d : CollectionWords) × BelongsTo new d × (d.epoch ≡ c.epoch) × (collection_in d ≡ appended (collection_in c) m fields)
all_belong heap new c m [] fields k less (same, none) = (c, subst (λ (h : HeapWords). BelongsTo h c) same k, refl, sym (ap (appended (collection_in c) m) none ∙ appended_none (collection_in c) m))
all_belong heap new c m (op ∷ ops) fields k less (next, reply, rest, p, sound, split, more) =
    let es = written (graph_in heap) m op reply in
    let all = all_belong next new (noted c m es) m ops rest (one_belongs heap next c m op reply k less p) (let e : next.mutators ≡ heap.mutators = p.mutators in omega arith) more in
    (all.0, all.1, all.2, all.3 ∙ (ap (λ (d : Collection). appended d m rest) (noted_in c m es) ∙ (appended_twice (collection_in c) m es rest ∙ ap (appended (collection_in c) m) (sym split))))

none_linked : (epoch : ℕ) (heap new : HeapWords) (m : ℕ) (ops : List Op) (fields : List (ℕ × ℕ)) → PerformsAll heap m ops fields new → LinksNothing epoch heap → LinksNothing epoch new
none_linked epoch heap new m [] fields (same, none) l = subst (LinksNothing epoch) same l
none_linked epoch heap new m (op ∷ ops) fields (next, reply, rest, p, sound, split, more) l = none_linked epoch next new m ops rest more (still_unlinked epoch heap next m op reply p l)

pub together_fits : (epoch : ℕ) (heap new : HeapWords) (o o' : Option CollectionWords) (m : ℕ) (ops : List Op) (fields : List (ℕ × ℕ)) → m < heap.mutators → PerformsAll heap m ops fields new → LogsIfOpen o m fields o' → Fits epoch heap o → Fits epoch new o'
together_fits epoch heap new None None m ops fields less all l fits = none_linked epoch heap new m ops fields all fits
together_fits epoch heap new None (Some d) m ops fields less all l fits = absurd l
together_fits epoch heap new (Some c) None m ops fields less all l fits = absurd l
together_fits epoch heap new (Some c) (Some d) m ops fields less all l fits =
    let found = all_belong heap new c m ops fields fits less all in
    belongs_alike new found.0 d (l.collection ∙ sym found.3) (l.epoch ∙ sym found.2) found.1

-- ---- with the log

pub logged_is : (o o' : Option CollectionWords) (m : ℕ) (fields : List (ℕ × ℕ)) → LogsIfOpen o m fields o' → logged (option_map collection_in o) m fields ≡ option_map collection_in o'
logged_is None None m fields l = refl
logged_is None (Some d) m fields l = absurd l
logged_is (Some c) None m fields l = absurd l
logged_is (Some c) (Some d) m fields l = ap (λ (d : Collection). Some d) (sym l.collection)

pub together_state : (heap new : HeapWords) (o o' : Option CollectionWords) (m : ℕ) (ops : List Op) (fields : List (ℕ × ℕ)) → IsHeap heap → PerformsAll heap m ops fields new → LogsIfOpen o m fields o' → mutate_all (state_in heap o) m ops ≡ state_in new o'
together_state heap new o o' m ops fields is all l = performed_all heap new (option_map collection_in o) m ops fields is all ∙ ap (state_of new) (logged_is o o' m fields l)

-- ---- the monitor

-- none of them makes an object
abbrev pub MakeNothing : List Op → Type 0
MakeNothing [] = ⊤
MakeNothing (op ∷ ops) = (words_taken op ≡ 0) × MakeNothing ops

all_ran : (heap new : HeapWords) (o : Option Collection) (m : ℕ) (ops : List Op) (fields : List (ℕ × ℕ)) → IsHeap heap → MakeNothing ops → PerformsAll heap m ops fields new → Ran (state_of heap o) (state_of new (logged o m fields)) (λ a i. In {X = ℕ × ℕ} (a, i) fields)
all_ran heap new o m [] fields is nothing (same, none) =
    subst (λ (s : State). Ran (state_of heap o) s (λ a i. In {X = ℕ × ℕ} (a, i) fields)) (performed_all heap new o m [] fields is (same, none)) (ran_none (state_of heap o) (λ a i. In {X = ℕ × ℕ} (a, i) fields))
all_ran heap new o m (op ∷ ops) fields is nothing (next, reply, rest, p, sound, split, more) =
    let es = written (graph_in heap) m op reply in
    let mid = state_of next (logged o m es) in
    subst (λ (s : State). Ran (state_of heap o) s (λ a i. In {X = ℕ × ℕ} (a, i) fields)) (ap (state_of new) (logged_twice o m es rest ∙ ap (logged o m) (sym split)))
    (ran_on (state_of heap o) mid (state_of new (logged (logged o m es) m rest)) (λ a i. In {X = ℕ × ℕ} (a, i) es) (λ a i. In {X = ℕ × ℕ} (a, i) rest) (λ a i. In {X = ℕ × ℕ} (a, i) fields)
    (λ a i w. subst (λ (fs : List (ℕ × ℕ)). In (a, i) fs) (sym split) (in_left {X = ℕ × ℕ} (a, i) es rest w)) (λ a i w. subst (λ (fs : List (ℕ × ℕ)). In (a, i) fs) (sym split) (in_right {X = ℕ × ℕ} (a, i) es rest w))
    (ran_one (state_of heap o) mid m op reply (performed_one heap next o m op reply is p) nothing.0)
    (all_ran next new (logged o m es) m ops rest sound nothing.1 more))

together_ran : (heap new : HeapWords) (o o' : Option CollectionWords) (m : ℕ) (ops : List Op) (fields : List (ℕ × ℕ)) → IsHeap heap → MakeNothing ops → PerformsAll heap m ops fields new → LogsIfOpen o m fields o'
    → Ran (state_in heap o) (state_in new o') (λ a i. In {X = ℕ × ℕ} (a, i) fields)
together_ran heap new o o' m ops fields is nothing all l =
    subst (λ (s : State). Ran (state_in heap o) s (λ a i. In {X = ℕ × ℕ} (a, i) fields)) (ap (state_of new) (logged_is o o' m fields l)) (all_ran heap new (option_map collection_in o) m ops fields is nothing all)

-- without room nothing changes
pub full_same : (s s' : State) (m kind len : ℕ) (d : SlotName) (reply : Reply) → mutate s m (New d kind len) ≡ (reply, s') → reply ≡ Full → s' ≡ s
full_same s s' m kind len d reply said full = grind (arith, common_steps, logged_none)

-- a new object, whose fields are written before the monitor is told of it
ends_through : (s mid s' : State) (Written : ℕ → ℕ → Type 0) → IsSpaceGraph mid.size mid.heap.free mid.heap.graph → EndsMore s mid → Ran mid s' Written → EndsMore s s'
ends_through s mid s' Written sound more ran = ⊎_elim
    (λ same. inl (same ∙ ran.end))
    (λ one. (let e : Object = one.0 in
    let end : heap_end s + (length e.fields + 2) ≡ heap_end mid = one.1.1 in
    let x = ran.leads.evolves (heap_end s) e (lookup_laid 1 mid.heap.graph.objects (heap_end mid) (heap_end s) e sound.laid one.1.0) in
    inr (x.now, (lookup_in s'.heap.graph.objects (heap_end s) x.now x.found, omega (arith, x.len, end, ran.end)))))
    more

pub filled_follows : (heap made new : HeapWords) (o o' : Option CollectionWords) (m kind len : ℕ) (d : SlotName) (reply : Reply) (fields : List (ℕ × ℕ)) (t after : Tables)
    → IsHeap heap → IsHeap made → Performs heap m (New d kind len) reply made → Ran (state_in made o) (state_in new o') (λ b i. In {X = ℕ × ℕ} (b, i) fields) → ((b i : ℕ) → In {X = ℕ × ℕ} (b, i) fields → b ≡ end_of heap.space) → BelongsIfOpen heap o → IfSome (option_map collection_in o) (IsOpened (state_in heap o))
    → ((heap : HeapWords) → IsHeap heap → IsSpaceGraph heap.space.size (free_in heap.space) (graph_in heap)) → IsSpaceGraph new.space.size (free_in new.space) (graph_in new) → image_of new ≡ linked_image (link_at new.space.words) new.space.size (graph_in new)
    → (t.lost ≡ false → CanMake new.space.words t → after.lost ≡ false) → (after.lost ≡ false → Made new.space.words t after) → Follows (state_in heap o) t → Follows (state_in new o') after
filled_follows heap made new o o' m kind len d reply fields t after is is' p ran only belongs is_open graph later shows stays told f =
    follows_made (state_in heap o) (state_in new o') (λ b i. In {X = ℕ × ℕ} (b, i) fields) (link_at new.space.words) new.space.words t after is_open (graph heap is) later (ap (λ (image : Image). image.words) shows)
    (ends_through (state_in heap o) (state_in made o) (state_in new o') (λ b i. In {X = ℕ × ℕ} (b, i) fields) (graph made is') (ends_more (state_in heap o) (state_in made o) m (New d kind len) reply false d kind len refl (graph heap is) one) ran)
    (continues_on (state_in heap o) (state_in made o) (state_in new o') (λ a. a ≡ heap_end (state_in heap o)) NoName (λ a. a ≡ heap_end (state_in heap o)) (λ a n. n) (λ a n. absurd n) named ran.on)
    (leads_on (state_in heap o) (state_in made o) (state_in new o') (WrittenBy (graph_in heap) m (New d kind len) reply) (λ b i. In {X = ℕ × ℕ} (b, i) fields) (λ b i. In {X = ℕ × ℕ} (b, i) fields) (λ b i w. absurd w) (λ b i w. w) (leads_one (state_in heap o) (state_in made o) m (New d kind len) reply one) ran.leads)
    (λ b i w. only b i w ∙ sym end) stays told f
  where
    one : mutate (state_in heap o) m (New d kind len) ≡ (reply, state_in made o)
    one = performed heap made o m (New d kind len) reply is (λ none. none) p belongs

    end : heap_end (state_in heap o) ≡ end_of heap.space
    end = grind (arith, common_steps)

    named : Continues (state_in heap o) (state_in made o) (λ a. a ≡ heap_end (state_in heap o))
    named =
        let on = continues_one (state_in heap o) (state_in made o) m (New d kind len) reply one in
        record { mutators = on.mutators; size = on.size; collection = on.collection; names = λ a n. ⊎_elim (λ l. inl l) (λ new. inr new.1) (on.names a n); stays = on.stays }

pub made_follows : (heap made new : HeapWords) (o o' : Option CollectionWords) (m kind len : ℕ) (d : SlotName) (reply : Reply) (ops : List Op) (fields : List (ℕ × ℕ)) (t after : Tables)
    → IsHeap heap → IsHeap made → Performs heap m (New d kind len) reply made → MakeNothing ops → PerformsAll made m ops fields new → LogsIfOpen o m fields o' → ((b i : ℕ) → In {X = ℕ × ℕ} (b, i) fields → b ≡ end_of heap.space) → BelongsIfOpen heap o → IfSome (option_map collection_in o) (IsOpened (state_in heap o))
    → ((heap : HeapWords) → IsHeap heap → IsSpaceGraph heap.space.size (free_in heap.space) (graph_in heap)) → IsSpaceGraph new.space.size (free_in new.space) (graph_in new) → image_of new ≡ linked_image (link_at new.space.words) new.space.size (graph_in new)
    → (t.lost ≡ false → CanMake new.space.words t → after.lost ≡ false) → (after.lost ≡ false → Made new.space.words t after) → Follows (state_in heap o) t → Follows (state_in new o') after
made_follows heap made new o o' m kind len d reply ops fields t after is is' p nothing all l = filled_follows heap made new o o' m kind len d reply fields t after is is' p (together_ran made new o o' m ops fields is' nothing all l)

-- ---- new objects whose fields take the values of slots

pub fill_is : (s : State) (m i : ℕ) (d : SlotName) (slots : List SlotName) → fill_step s m d i slots ≡ mutate_all s m (puts d i slots)
fill_is s m i d [] = refl
fill_is s m i d (t ∷ rest) = fill_is (mutate s m (Put d i t)).1 m (suc i) d rest

pub puts_make_nothing : (d : SlotName) (i : ℕ) (slots : List SlotName) → MakeNothing (puts d i slots)
puts_make_nothing d i [] = tt
puts_make_nothing d i (t ∷ rest) = (refl, puts_make_nothing d (suc i) rest)

pub only_its : (a i n b j : ℕ) → In {X = ℕ × ℕ} (b, j) (fields_from a i n) → b ≡ a
only_its a i zero b j h = absurd h
only_its a i (suc n) b j (inl e) = sym (ap (λ (p : ℕ × ℕ). p.0) e)
only_its a i (suc n) b j (inr h) = only_its a (suc i) n b j h

-- the next field takes the value of the next slot
pub one_put : (heap next new : HeapWords) (m i a : ℕ) (d s : SlotName) (reply : Reply) (slots : List SlotName) → i < length slots → s ≡ get_or slots i s → reply ≡ Done → root (graph_in heap) (place d m) ≡ Ref a → Performs heap m (Put d i s) reply next → IsHeap next
    → PerformsAll next m (puts d (i + 1) (drop (i + 1) slots)) (fields_from a (i + 1) (length slots - (i + 1))) new → PerformsAll heap m (puts d i (drop i slots)) (fields_from a i (length slots - i)) new
one_put heap next new m i a d s reply slots less is done target p sound more =
    subst (λ ss. PerformsAll heap m (puts d i ss) (fields_from a i (length slots - i)) new) (sym opened)
    (subst (λ n. PerformsAll heap m (puts d i (s ∷ drop (i + 1) slots)) (fields_from a i n) new) (sym counted)
    (next, reply, rest, p, sound, sym (ap (λ es. es ++ rest) wrote), subst (λ j. PerformsAll next m (puts d j (drop (i + 1) slots)) (fields_from a j (length slots - (i + 1))) new) one_on more))
  where
    rest : List (ℕ × ℕ)
    rest = fields_from a (suc i) (length slots - (i + 1))

    one_on : i + 1 ≡ suc i
    one_on = omega arith

    counted : length slots - i ≡ suc (length slots - (i + 1))
    counted = omega arith

    opened : drop i slots ≡ s ∷ drop (i + 1) slots
    opened = drop_more slots i s less ∙ ap (λ (t : SlotName). t ∷ drop (i + 1) slots) (sym is)

    wrote : written (graph_in heap) m (Put d i s) reply ≡ (a, i) ∷ []
    wrote = ap (written (graph_in heap) m (Put d i s)) done ∙ ap (λ v. map (λ (name : ℕ). (name, i)) (names_of v)) target

pub no_more : (heap : HeapWords) (m i a : ℕ) (d : SlotName) (slots : List SlotName) → length slots ≤ i → PerformsAll heap m (puts d i (drop i slots)) (fields_from a i (length slots - i)) heap
no_more heap m i a d slots past =
    let none : length slots - i ≡ 0 = omega arith in
    subst (λ ss. PerformsAll heap m (puts d i ss) (fields_from a i (length slots - i)) heap) (sym (drop_all i slots past))
    (subst (λ n. PerformsAll heap m [] (fields_from a i n) heap) (sym none) (refl, refl))
