-- The reply to each command of a mutator and to each step of the collector, and the state after it.
use Rattle.std.specs.Prelude.{ℕ, suc, ◌==◌, nat_lt, Bool, true, false, ◌&&◌, ◌||◌, not, if◌then◌else◌, List, [], ◌∷◌, ◌++◌, length, map, replicate, slice_get, slice_set, Option, Some, None, is_none, is_some, ⊤}
use Rattle.std.specs.Option.{option_map, option_map_or, unwrap_or}
use Rattle.std.specs.List.{list_all, flat_map, find, position_from}
use Rattle.gc_words.specs.Layout.{next_place}
use Rattle.gc_graph.specs.Slots.{place}
use Rattle.gc_graph.specs.Graph.{Value, Ref, Object, Graph, root, names_of, lookup, field_of, with_field}
use Rattle.gc_graph.specs.Machine.{roomy_step, object_words}
use Rattle.gc_graph.specs.declared.command.Op.{Op}
use Rattle.gc_graph.specs.declared.command.Op.TheVariants as ops
use Rattle.gc_graph.specs.declared.reply.Reply.{Reply}
use Rattle.gc_graph.specs.declared.reply.Reply.TheVariants.{Done}
use Rattle.gc_words.specs.Fault.{first_fault}
use Rattle.gc_model.specs.State.{Replica, Collection, State, heap_end, new_end, new_free, pairs_of, replica_of, replica_at, moved, fresh_object, new_graph}
use Rattle.gc_model.specs.Linked.{image_of_graph}
use Rattle.gc_model.specs.declared.step.Step.{Step}
use Rattle.gc_model.specs.declared.step.Step.TheVariants as steps
use Rattle.gc_model.specs.declared.step.StepReply.{StepReply}
use Rattle.gc_model.specs.declared.step.StepReply.TheVariants.{Busy, Begun, Idle, Clean, NoRoom, Copied, Passed, Scanned, Applied, NotReady, Refused, Flipped, Dropped}

-- ---- mutators

-- the command is a `put`: it writes a field if its reply is `Done`
abbrev pub WritesField : Op → Type 0
WritesField (ops.Put s i t) = ⊤
WritesField op = ⊥

-- the field that the command writes, if its reply is `Done`
abbrev pub written : Graph → ℕ → Op → Reply → List (ℕ × ℕ)
written g m (ops.Put s i t) Done = map (λ name. (name, i)) (names_of (root g (place s m)))
written g m op reply = []

-- mutator m's log
abbrev pub log_at : Collection → ℕ → List (ℕ × ℕ)
log_at c m = unwrap_or (slice_get c.logs m) []

abbrev pub with_log : Collection → ℕ → List (ℕ × ℕ) → Collection
with_log c m entries = record c { logs = slice_set c.logs m entries }

-- the open collection, if any, with these entries appended to mutator m's log
abbrev pub logged : Option Collection → ℕ → List (ℕ × ℕ) → Option Collection
logged collection m entries = option_map (λ c. with_log c m (log_at c m ++ entries)) collection

-- The reply to mutator m's command, and the next state. A new object lies at the heap's end, and that address is its name.
abbrev pub mutate : State → ℕ → Op → Reply × State
mutate s m op =
    let next = roomy_step s.heap m op (heap_end s) in
    (next.0, record s { heap = next.1; collection = logged s.collection m (written s.heap.graph m op next.0) })

-- ---- replicas

abbrev pub fresh_replica : ℕ → ℕ → Object → Replica
fresh_replica name place object = record { original = name; place = place; object = fresh_object object }

-- The collection with a replica of this object at the new end, or `None` if there is no room. If a collection belongs to its
-- heap, the object always exists.
abbrev pub place_replica : Collection → ℕ → Option Object → Option Collection
place_replica c name None = None
place_replica c name (Some object) =
    if nat_lt (new_free c) (object_words (length object.fields)) then None
    else Some (record c { replicas = c.replicas ++ fresh_replica name (new_end c) object ∷ [] })

-- Gives the value's target, if any, a replica unless it has one; the result is `None` if there is no room.
abbrev pub with_replica : Collection → Graph → Value → Option Collection
with_replica c g (Ref name) = if is_some (replica_of c name) then Some c else place_replica c name (lookup g.objects name)
with_replica c g v = Some c

abbrev pub with_written : ℕ → ℕ → Value → Replica → Replica
with_written name i v r = if r.original == name then record r { object = with_field r.object i v } else r

-- the collection with field i of the named object's replica set to v
abbrev pub write_replica : Collection → ℕ → ℕ → Value → Collection
write_replica c name i v = record c { replicas = map (with_written name i v) c.replicas }

abbrev pub bring_value : Collection → Graph → ℕ → ℕ → Option Value → Option Collection
bring_value c g name i None = Some c
bring_value c g name i (Some v) = option_map (λ d. write_replica d name i (moved d v)) (with_replica c g v)

-- Brings field i of the named object's replica up to date: reads the original's field as it is now, and writes the
-- corresponding value. A target without a replica gets one first; the result is `None` if there is no room.
abbrev pub bring_up_to_date : Collection → Graph → ℕ → ℕ → Option Collection
bring_up_to_date c g name i = bring_value c g name i (field_of (lookup g.objects name) i)

-- ---- the state after a step

abbrev pub with_collection : State → Option Collection → State
with_collection s c = record s { collection = c }

-- this reply and the next collection; if there was no room, `NoRoom` and the state is unchanged
abbrev pub if_room : State → StepReply → Option Collection → StepReply × State
if_room s reply None = (NoRoom, s)
if_room s reply (Some c) = (reply, with_collection s (Some c))

-- ---- beginning

-- a collection whose new space and logs are empty
abbrev pub fresh_collection : ℕ → ℕ → Collection
fresh_collection mutators size = record { size = size; replicas = []; logs = replicate mutators []; scan_place = 1; scan_field = 0 }

abbrev pub begin : State → ℕ → StepReply × State
begin s size = (Begun, with_collection s (Some (fresh_collection s.mutators size)))

-- ---- roots

-- the target of the first root whose target has no replica
abbrev pub root_target : Collection → Graph → Option ℕ
root_target c g = find (λ name. is_none (replica_of c name)) (flat_map names_of g.roots)

abbrev pub roots_done : Collection → Graph → Bool
roots_done c g = is_none (root_target c g)

abbrev pub copy_root : State → Collection → Option ℕ → StepReply × State
copy_root s c None = (Clean, s)
copy_root s c (Some name) = if_room s Copied (place_replica c name (lookup s.heap.graph.objects name))

-- ---- scanning

-- the scan pointer is at the new end
abbrev pub scan_done : Collection → Bool
scan_done c = c.scan_place == new_end c

abbrev pub next_object : Collection → Replica → Collection
next_object c r = record c { scan_place = next_place c.scan_place (length r.object.fields); scan_field = 0 }

abbrev pub next_field : Collection → Collection
next_field c = record c { scan_field = suc c.scan_field }

-- Scans the replica at the scan pointer. If a collection belongs to its heap, there is always a replica before the new end.
-- A raw replica is passed immediately: it was copied whole when it was placed.
abbrev pub scan_replica : State → Collection → Option Replica → StepReply × State
scan_replica s c None = (Clean, s)
scan_replica s c (Some r) =
    if r.object.raw || (c.scan_field == length r.object.fields) then (Passed, with_collection s (Some (next_object c r)))
    else if_room s Scanned (option_map next_field (bring_up_to_date c s.heap.graph r.original c.scan_field))

-- scans one field, or moves the scan pointer to the next object
abbrev pub scan : State → Collection → StepReply × State
scan s c = if scan_done c then (Clean, s) else scan_replica s c (replica_at c c.scan_place)

-- ---- logs

-- brings the entry's field up to date; does nothing if the object has no replica
abbrev pub apply_entry : Collection → Graph → ℕ × ℕ → Option Collection
apply_entry c g entry = if is_some (replica_of c entry.0) then bring_up_to_date c g entry.0 entry.1 else Some c

-- removes the oldest entry of log m and applies it; on `NoRoom` the entry stays
abbrev pub apply_log : State → Collection → ℕ → List (ℕ × ℕ) → StepReply × State
apply_log s c m [] = (Clean, s)
apply_log s c m (entry ∷ rest) = if_room s Applied (apply_entry (with_log c m rest) s.heap.graph entry)

-- ---- flipping

abbrev pub is_empty : {X : Type 0} → List X → Bool
is_empty [] = true
is_empty (x ∷ xs) = false

-- every log is empty, everything is scanned, and every root's target has a replica
abbrev pub is_ready : Collection → Graph → Bool
is_ready c g = list_all is_empty c.logs && scan_done c && roots_done c g

-- the state after a flip: the new space is the mutators' space, and no collection is open
abbrev pub flipped : State → Collection → State
flipped s c = record { mutators = s.mutators; size = c.size; heap = record { graph = new_graph c s.heap.graph.roots; free = new_free c }; collection = None }

-- The certificate, which is the list of pairs, holds of the old image and the new one. It holds exactly if there is no first
-- fault.
abbrev pub passes_check : State → Collection → Bool
passes_check s c = is_none (first_fault (image_of_graph s.size s.heap.graph) (image_of_graph c.size (new_graph c s.heap.graph.roots)) (pairs_of c))

abbrev pub flip : State → Collection → StepReply × State
flip s c =
    if is_ready c s.heap.graph
    then (if passes_check s c then (Flipped (length c.replicas), flipped s c) else (Refused, s))
    else (NotReady, s)

-- ---- the collector's steps

abbrev pub step_in : State → Collection → Step → StepReply × State
step_in s c steps.Roots = copy_root s c (root_target c s.heap.graph)
step_in s c steps.Scan = scan s c
step_in s c (steps.Apply m) = apply_log s c m (log_at c m)
step_in s c steps.Flip = flip s c
step_in s c steps.Drop = (Dropped, with_collection s None)
step_in s c step = (Busy, s)

abbrev pub step_idle : State → Step → StepReply × State
step_idle s steps.Begin = begin s s.size
step_idle s (steps.BeginSized size) = begin s size
step_idle s step = (Idle, s)

-- the reply to a step, and the next state
abbrev pub collect : State → Step → StepReply × State
collect s step = option_map_or (λ c. step_in s c step) s.collection (step_idle s step)

-- a step with this reply changes the state
abbrev pub is_change : StepReply → Bool
is_change Busy = false
is_change Idle = false
is_change Clean = false
is_change NoRoom = false
is_change NotReady = false
is_change Refused = false
is_change reply = true

-- ---- the useful step

-- the number of the first log that has an entry, if the logs are numbered from k on
abbrev pub first_log : ℕ → List (List (ℕ × ℕ)) → Option ℕ
first_log k logs = position_from (λ log. not (is_empty log)) k logs

abbrev pub useful_with : State → Option Collection → Step
useful_with s None = steps.Begin
useful_with s (Some c) =
    if not (roots_done c s.heap.graph) then steps.Roots
    else if not (scan_done c) then steps.Scan
    else option_map_or steps.Apply (first_log 0 c.logs) steps.Flip

-- `Begin` if no collection is open; else the first of `Roots`, `Scan` and `Apply` that has work left; else `Flip`
abbrev pub useful_step : State → Step
useful_step s = useful_with s s.collection
