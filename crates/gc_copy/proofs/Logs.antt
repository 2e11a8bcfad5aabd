-- An entry that is noted or dropped in one log is noted or dropped in the collection.
use Rattle.std.proofs.Math.Seq.{map-set_same}
use Rattle.std.proofs.lemmas.Grind.{common_steps}
use Rattle.std.proofs.Common.{◌≡◌, ℕ, ◌+◌, ◌<◌, ◌≤◌, true, false, cond, not, List, [], ◌∷◌, ◌++◌, map, drop, length, get_or, Option, Some, ap, sym, ◌∙◌, subst, arith}
use Rattle.std.specs.Prelude.{slice_get, slice_set}
use Rattle.std.proofs.lemmas.Option.{slice_get-get_or, slice_get-map, get_or_from_slice_get, slice_get_within}
use Rattle.std.specs.Option.{option_map}
use Rattle.std.proofs.lemmas.Bool.{cond-false, cases_eq}
use Rattle.std.proofs.lemmas.List.{length-map, map-set, drop_more}
use Rattle.gc_heap.specs.Heap.{HeapWords, graph_in}
use Rattle.gc_model.specs.Steps.{log_at, with_log, is_empty, first_log}
use Rattle.gc_model.specs.Belonging.{HasField, Belongs}
use Rattle.gc_copy.specs.Words.{Log, CollectionWords, entries_of, collection_in, spare_in, spare_of, LinksReplicas, BelongsTo, BelongsToBut}
use Rattle.gc_graph.specs.Graph.{Object}
use Rattle.gc_model.specs.Members.{In}
use Rattle.gc_model.proofs.Public.{belongs_noted, get_set_same, get_set_other, get_past}

entries_set : (logs : List Log) (m : ℕ) (log : Log) → map entries_of (slice_set logs m log) ≡ slice_set (map entries_of logs) m log.entries
entries_set logs m log = map-set entries_of logs m log

set_same : (logs : List Log) (m : ℕ) (log : Log) → slice_get logs m ≡ Some log → slice_set (map entries_of logs) m log.entries ≡ map entries_of logs
set_same logs m log e = sym (map-set entries_of logs m log) ∙ map-set_same entries_of logs m log log (sym (ap entries_of (get_or_from_slice_get logs m log log e)))

pub entries_at : (logs : List Log) (m : ℕ) (log : Log) → slice_get logs m ≡ Some log → slice_get (map entries_of logs) m ≡ Some log.entries
entries_at logs m log e = slice_get-map entries_of logs m ∙ ap (option_map entries_of) e

-- ---- one log changes

-- equal entries, whatever room the logs have
pub room_made : (c : CollectionWords) (m : ℕ) (log later : Log) → slice_get c.logs m ≡ Some log → later.entries ≡ log.entries → collection_in (record c { logs = slice_set c.logs m later }) ≡ collection_in c
room_made c m log later there same = grind (arith, common_steps, entries_set, set_same)

spares_set : (logs : List Log) (m : ℕ) (log later : Log) → slice_get logs m ≡ Some log → log.spare ≤ later.spare → (k : ℕ) → spare_in (slice_get logs k) ≤ spare_in (slice_get (slice_set logs m later) k)
spares_set logs m log later e more k = grind (arith, common_steps, cases_eq, get_set_same, get_set_other, get_past)

-- no log loses room when one gains some
pub room_kept : (c : CollectionWords) (m : ℕ) (log later : Log) → slice_get c.logs m ≡ Some log → log.spare ≤ later.spare → (k : ℕ) → spare_of c k ≤ spare_of (record c { logs = slice_set c.logs m later }) k
room_kept c m log later there more k = spares_set c.logs m log later there more k

pub entry_noted : (c : CollectionWords) (m a f : ℕ) (log later : Log) → slice_get c.logs m ≡ Some log → later.entries ≡ log.entries ++ (a, f) ∷ []
    → collection_in (record c { logs = slice_set c.logs m later }) ≡ with_log (collection_in c) m (log_at (collection_in c) m ++ (a, f) ∷ [])
entry_noted c m a f log later there more = grind (arith, common_steps, entries_at, entries_set)

pub entry_dropped : (c : CollectionWords) (m : ℕ) (log later : Log) → slice_get c.logs m ≡ Some log → later.entries ≡ drop 1 log.entries
    → collection_in (record c { logs = slice_set c.logs m later }) ≡ with_log (collection_in c) m (drop 1 (log_at (collection_in c) m))
entry_dropped c m log later there less = grind (arith, common_steps, entries_at, entries_set)

only : (objects : List (ℕ × Object)) (a f : ℕ) → HasField objects a f → (b j : ℕ) → In {X = ℕ × ℕ} (b, j) ((a, f) ∷ []) → HasField objects b j
only objects a f field b j h = grind (arith, common_steps)

pub noted_belongs : (heap : HeapWords) (c next : CollectionWords) (m a f : ℕ) → m < length c.logs → collection_in next ≡ with_log (collection_in c) m (log_at (collection_in c) m ++ (a, f) ∷ []) → next.epoch ≡ c.epoch → length next.logs ≡ length c.logs
    → HasField (graph_in heap).objects a f → BelongsToBut ((a, f) ∷ []) heap c → BelongsTo heap next
noted_belongs heap c next m a f less same marks count field k = record {
  belongs = subst (Belongs (graph_in heap).objects) (sym same) (belongs_noted (graph_in heap).objects (collection_in c) m ((a, f) ∷ []) (let n = length-map c.logs entries_of in omega arith) k.belongs (only (graph_in heap).objects a f field));
  links = subst (λ m. LinksReplicas m heap (collection_in next)) (sym marks) (subst (LinksReplicas c.epoch heap) (sym same) k.links);
  logs = count ∙ k.logs;
}

-- ---- the first log with an entry

abbrev pub first_from : List Log → ℕ → Option ℕ
first_from logs m = first_log m (map entries_of (drop m logs))

-- ---- what an index gives

pub there_in : (c outer : CollectionWords) (m : ℕ) (log : Log) → c ≡ outer → m < length outer.logs → log ≡ get_or c.logs m log → slice_get c.logs m ≡ Some log
there_in c outer m log seen less is = grind (arith, common_steps, slice_get-get_or)

drop_at : (logs : List Log) (m : ℕ) (log : Log) → slice_get logs m ≡ Some log → drop m logs ≡ log ∷ drop (m + 1) logs
drop_at logs m log e = drop_more logs m log (slice_get_within logs m log e) ∙ ap (λ l. l ∷ drop (m + 1) logs) (get_or_from_slice_get logs m log log e)

pub first_here : (c : CollectionWords) (m : ℕ) (log : Log) → slice_get c.logs m ≡ Some log → is_empty log.entries ≡ false → first_from c.logs m ≡ Some m
first_here c m log there full = grind (arith, common_steps, drop_at, cond-false)

pub first_later : (c : CollectionWords) (m : ℕ) (log : Log) → slice_get c.logs m ≡ Some log → is_empty log.entries ≡ true → first_from c.logs (m + 1) ≡ first_from c.logs m
first_later c m log there empty =
    sym (ap (λ ls. first_log m (map entries_of ls)) (drop_at c.logs m log there) ∙ ap (λ b. cond (not b) (Some m) (first_from c.logs (m + 1))) empty)
