-- Each replica is placed by a different step, so a history has no more pairs than events.
use Rattle.std.proofs.lemmas.Grind.{common_steps}
use Rattle.std.specs.Option.{option_map, option_map_or}
use Rattle.std.proofs.Common.{◌≡◌, ℕ, ◌+◌, ◌≤◌, List, [], ◌∷◌, length, Option, Some, None, is_some, ap, arith}
use Rattle.std.specs.List.{sum_by}
use Rattle.std.proofs.lemmas.Bool.{cond_both}
use Rattle.std.proofs.lemmas.List.{length-map}
use Rattle.std.proofs.lemmas.List.Sums.{sum_by-cons}
use Rattle.gc_graph.specs.Graph.{Value, Object, Graph, lookup, field_of}
use Rattle.gc_model.specs.State.{Replica, Collection, State, replica_of, moved}
use Rattle.gc_model.specs.Steps.{logged, place_replica, with_replica, bring_value, bring_up_to_date, if_room, copy_root, scan, scan_replica, apply_entry, apply_log, flip, write_replica, step_in, step_idle, next_field}
use Rattle.gc_model.specs.Runs.{after, answer, answers}
use Rattle.gc_model.specs.declared.event.Event.{Event}
use Rattle.gc_model.specs.declared.event.Answer.{Answer}
use Rattle.gc_model.specs.declared.event.Answer.TheVariants.{Collector}
use Rattle.gc_model.specs.declared.step.Step.{Step}
use Rattle.gc_model.specs.declared.step.StepReply.{StepReply}
use Rattle.gc_model.specs.declared.step.StepReply.TheVariants.{Flipped}
use Rattle.gc_world.specs.History.{IsHistory, answers_of}
use Rattle.gc_world.specs.declared.entry.Entry.{Entry}

-- the number of pairs, if the answer is a flip's
abbrev pub flipped_pairs : Answer → ℕ
flipped_pairs (Collector (Flipped pairs)) = pairs
flipped_pairs answer = 0

-- the number of replicas of the open collection, or 0 if none is open
abbrev replicas_in : Option Collection → ℕ
replicas_in None = 0
replicas_in (Some c) = length c.replicas

-- after a step that starts with n replicas, the pairs in the reply and the replicas together are at most n + 1
abbrev PlacesOne : ℕ → StepReply × State → Type 0
PlacesOne n next = flipped_pairs (Collector next.0) + replicas_in next.1.collection ≤ n + 1

-- ---- steps that place a replica

placed : (c : Collection) (name : ℕ) (o : Option Object) → replicas_in (place_replica c name o) ≤ length c.replicas + 1
placed c name o = grind (arith, common_steps, cond_both)

replicated : (c : Collection) (g : Graph) (v : Value) → replicas_in (with_replica c g v) ≤ length c.replicas + 1
replicated c g v = grind (arith, common_steps, cond_both, placed)

copied : (o : Option Collection) (name i : ℕ) (v : Value) → replicas_in (option_map (λ (d : Collection). write_replica d name i (moved d v)) o) ≡ replicas_in o
copied o name i v = grind (arith, common_steps, length-map)

brought : (c : Collection) (g : Graph) (name i : ℕ) (v : Option Value) → replicas_in (bring_value c g name i v) ≤ length c.replicas + 1
brought c g name i v = grind (arith, common_steps, copied, replicated)

brought_up : (c : Collection) (g : Graph) (name i : ℕ) → replicas_in (bring_up_to_date c g name i) ≤ length c.replicas + 1
brought_up c g name i = brought c g name i (field_of (lookup g.objects name) i)

-- ---- steps

-- a step that does not change the state
unchanged : (s : State) (o : Option Collection) (reply : StepReply) → s.collection ≡ o → flipped_pairs (Collector reply) ≡ 0 → PlacesOne (replicas_in o) (reply, s)
unchanged s o reply e none = let same : replicas_in s.collection ≡ replicas_in o = ap replicas_in e in omega arith

-- with room, and without
room_places : (n : ℕ) (s : State) (reply : StepReply) (o : Option Collection) → flipped_pairs (Collector reply) ≡ 0 → replicas_in s.collection ≡ n → replicas_in o ≤ n + 1 → PlacesOne n (if_room s reply o)
room_places n s reply o none same few = grind (arith, common_steps)

roots_place : (s : State) (c : Collection) (target : Option ℕ) → s.collection ≡ Some c → PlacesOne (length c.replicas) (copy_root s c target)
roots_place s c target e = grind (arith, common_steps, unchanged, room_places, placed)

field_goes_on : (o : Option Collection) → replicas_in (option_map next_field o) ≡ replicas_in o
field_goes_on o = grind (arith, common_steps)

object_scanned : (s : State) (c : Collection) (r : Option Replica) → s.collection ≡ Some c → PlacesOne (length c.replicas) (scan_replica s c r)
object_scanned s c r e = grind (arith, common_steps, unchanged, cond_both, room_places, field_goes_on, brought_up)

scan_places : (s : State) (c : Collection) → s.collection ≡ Some c → PlacesOne (length c.replicas) (scan s c)
scan_places s c e = grind (arith, common_steps, cond_both, unchanged, object_scanned)

entry_applied : (c : Collection) (g : Graph) (entry : ℕ × ℕ) → replicas_in (apply_entry c g entry) ≤ length c.replicas + 1
entry_applied c g entry = cond_both (is_some (replica_of c entry.0)) _ _ (λ (o : Option Collection). replicas_in o ≤ length c.replicas + 1) (λ t. brought_up c g entry.0 entry.1) (λ t. omega arith)

log_applied : (s : State) (c : Collection) (m : ℕ) (log : List (ℕ × ℕ)) → s.collection ≡ Some c → PlacesOne (length c.replicas) (apply_log s c m log)
log_applied s c m log e = grind (arith, common_steps, unchanged, room_places, entry_applied)

-- a flip has as many pairs as there were replicas, and leaves none
flip_places : (s : State) (c : Collection) → s.collection ≡ Some c → PlacesOne (length c.replicas) (flip s c)
flip_places s c e = grind (arith, common_steps, cond_both, unchanged)

step_places : (s : State) (o : Option Collection) (step : Step) → s.collection ≡ o → PlacesOne (replicas_in o) (option_map_or (λ (c : Collection). step_in s c step) o (step_idle s step))
step_places s o step e = grind (arith, common_steps, unchanged, roots_place, scan_places, log_applied, flip_places)

-- ---- runs

-- a command does not change the replicas
logged_same : (o : Option Collection) (m : ℕ) (entries : List (ℕ × ℕ)) → replicas_in (logged o m entries) ≡ replicas_in o
logged_same o m entries = grind (arith, common_steps)

event_places : (s : State) (event : Event) → flipped_pairs (answer s event) + replicas_in (after s event).collection ≤ replicas_in s.collection + 1
event_places s event = grind (arith, common_steps, logged_same, step_places)

pub run_places : (s : State) (events : List Event) → sum_by flipped_pairs (answers s events) ≤ length events + replicas_in s.collection
run_places s [] = omega arith
run_places s (event ∷ events) = grind (arith, common_steps, event_places, sum_by-cons, run_places (after s event) events)

-- in a history
pub few_pairs : (size mutators : ℕ) (entries : List Entry) → IsHistory size mutators entries → sum_by flipped_pairs (answers_of entries) ≤ length (answers_of entries)
few_pairs size mutators entries h = grind (arith, common_steps, run_places, length-map)
