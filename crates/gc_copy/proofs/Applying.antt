-- The code that applies a log's oldest entry, and the test whether a collection is ready.
use Rattle.std.proofs.lemmas.Grind.{common_steps}
use Rattle.std.proofs.Common.{◌≡◌, inl, ℕ, ◌+◌, Bool, true, false, ◌&&◌, not, List, [], ◌∷◌, drop, length, Option, Some, None, is_some, refl, ap, sym, ◌∙◌, subst, length-set, arith}
use Rattle.std.specs.Prelude.{IsSome, slice_get, slice_set}
use Rattle.std.specs.List.{list_all}
use Rattle.std.specs.Option.{option_map, unwrap_or}
use Rattle.gc_graph.specs.Graph.{Value, Graph}
use Rattle.gc_words.specs.Image.{field_at}
use Rattle.gc_heap.specs.Heap.{HeapWords, graph_in}
use Rattle.gc_model.specs.State.{Collection, moved}
use Rattle.gc_model.specs.Steps.{log_at, with_log, is_empty, first_log, with_replica, apply_entry, apply_log, if_room, scan_done, roots_done, is_ready, write_replica}
use Rattle.gc_copy.specs.Words.{Log, CollectionWords, IsCollection, collection_in, open_state, BelongsTo}
use Rattle.gc_copy.specs.Internal.Words.{KeepsGraph, KeepsRest}
use Rattle.gc_model.specs.declared.step.Step.TheVariants as steps
use Rattle.gc_model.specs.declared.step.StepReply.TheVariants.{Applied, NoRoom}
use Rattle.gc_copy.proofs.Logs.{entries_at, entry_dropped}
use Rattle.gc_copy.proofs.OpenCollection.{after_step, field_present}

-- ---- nothing reads the log that was taken out

-- an open collection with these entries as log m
abbrev pub relogged : ℕ → List (ℕ × ℕ) → Option Collection → Option Collection
relogged m entries o = option_map (λ c. with_log c m entries) o

with_beside : (c : Collection) (g : Graph) (m : ℕ) (entries : List (ℕ × ℕ)) (v : Value) → with_replica (with_log c m entries) g v ≡ relogged m entries (with_replica c g v)
with_beside c g m entries v = grind (arith, common_steps)

copy_beside : (o : Option Collection) (m : ℕ) (entries : List (ℕ × ℕ)) (name i : ℕ) (v : Value) → option_map (λ (d : Collection). write_replica d name i (moved d v)) (relogged m entries o) ≡ relogged m entries (option_map (λ (d : Collection). write_replica d name i (moved d v)) o)
copy_beside o m entries name i v = grind (arith, common_steps)

entry_beside : (c : Collection) (g : Graph) (m : ℕ) (entries : List (ℕ × ℕ)) (entry : ℕ × ℕ) → apply_entry (with_log c m entries) g entry ≡ relogged m entries (apply_entry c g entry)
entry_beside c g m entries entry = grind (arith, common_steps, with_beside, copy_beside)

-- ---- the oldest entry

module _ (heap : HeapWords) (x : CollectionWords) (m : ℕ) (log : Log) (there : slice_get x.logs m ≡ Some log) where
  entries_are : log_at (collection_in x) m ≡ log.entries
  entries_are = ap (λ (o : Option (List (ℕ × ℕ))). unwrap_or o []) (entries_at x.logs m log there)

  module _ (entry : ℕ × ℕ) (first : Some entry ≡ slice_get log.entries 0) where
    entries_split : log_at (collection_in x) m ≡ entry ∷ drop 1 log.entries
    entries_split = grind (arith, common_steps, entries_are)

    -- the entry names a field of the heap
    pub field_there : BelongsTo heap x → IsSome (field_at heap.space.words entry.0 entry.1)
    field_there k =
        let f = (k.belongs).entries entry.0 entry.1 (m, subst (Rattle.gc_model.specs.Members.In entry) (sym entries_split) (inl refl)) in
        field_present heap.space.words entry.0 entry.1 f.0 f.1 f.2

    steps_are : apply_log (open_state heap x) (collection_in x) m (log_at (collection_in x) m) ≡ if_room (open_state heap x) Applied (relogged m (drop 1 log.entries) (apply_entry (collection_in x) (graph_in heap) entry))
    steps_are = ap (apply_log (open_state heap x) (collection_in x) m) entries_split ∙ ap (if_room (open_state heap x) Applied) (entry_beside (collection_in x) (graph_in heap) m (drop 1 log.entries) entry)

    pub stays : apply_entry (collection_in x) (graph_in heap) entry ≡ None → apply_log (open_state heap x) (collection_in x) m (log_at (collection_in x) m) ≡ (NoRoom, open_state heap x)
    stays none = steps_are ∙ ap (λ o. if_room (open_state heap x) Applied (relogged m (drop 1 log.entries) o)) none

    -- `after` is the collection in which the field is up to date, `later` the log without the entry
    pub applied : (new : HeapWords) (after : CollectionWords) (last later : Log) → KeepsGraph heap new → KeepsRest x after → apply_entry (collection_in x) (graph_in heap) entry ≡ Some (collection_in after)
        → slice_get after.logs m ≡ Some last → later.entries ≡ drop 1 last.entries
        → apply_log (open_state heap x) (collection_in x) m (log_at (collection_in x) m) ≡ (Applied, open_state new (record after { logs = slice_set after.logs m later }))
    applied new after last later graph rest done has less = grind (arith, common_steps, entries_are, entry_dropped, steps_are)

    pub applied_belongs : (new : HeapWords) (after : CollectionWords) (last later : Log) → IsCollection x → BelongsTo heap x → KeepsGraph heap new → KeepsRest x after → BelongsTo new after → apply_entry (collection_in x) (graph_in heap) entry ≡ Some (collection_in after)
        → slice_get after.logs m ≡ Some last → later.entries ≡ drop 1 last.entries → BelongsTo new (record after { logs = slice_set after.logs m later })
    applied_belongs new after last later is k graph rest belongs done has less =
        after_step heap new x (record after { logs = slice_set after.logs m later }) (steps.Apply m) Applied (λ no. cc no) is k graph (length-set after.logs m later ∙ ap length rest.logs)
        (applied new after last later graph rest done has less) belongs.links

-- ---- ready

-- all logs are empty exactly if there is no first log with an entry
none_first : (k : ℕ) (logs : List (List (ℕ × ℕ))) (b : Bool) → is_some (first_log k logs) ≡ b → list_all is_empty logs ≡ not b
none_first k [] b e = ap not e
none_first k (log ∷ logs) b e = grind (arith, common_steps, is_some, none_first (k + 1) logs b)

pub ready_where : (c : Collection) (g : Graph) (o : Option ℕ) (r : Bool) → o ≡ first_log 0 c.logs → is_some o ≡ false → scan_done c ≡ true → r ≡ roots_done c g → r ≡ is_ready c g
ready_where c g o r first none scan roots = grind (arith, common_steps, none_first)

pub unready_logs : (c : Collection) (g : Graph) (o : Option ℕ) → o ≡ first_log 0 c.logs → is_some o ≡ true → false ≡ is_ready c g
unready_logs c g o first some = sym (ap (λ a. (a && scan_done c) && roots_done c g) (none_first 0 c.logs true (ap is_some (sym first) ∙ some)))

pub unready_scan : (c : Collection) (g : Graph) (o : Option ℕ) → o ≡ first_log 0 c.logs → is_some o ≡ false → scan_done c ≡ false → false ≡ is_ready c g
unready_scan c g o first none scan = grind (arith, common_steps, none_first)
