-- Each step that changes something lowers the number of steps that are left.
use Rattle.std.proofs.lemmas.Grind.{common_steps}
use Rattle.std.specs.Prelude.{IfSome}
use Rattle.std.specs.Option.{option_map, option_map_or, unwrap_or}
use Rattle.std.proofs.Common.{◌≡◌, ◌≢◌, inl, inr, ⊎_elim, ℕ, zero, suc, ◌+◌, ◌-◌, ◌<◌, ◌≤◌, nat_lt, true, false, ◌||◌, ◌==◌, List, [], ◌∷◌, ◌++◌, map, length, set, replicate, slice_get, flat_map, Option, Some, None, refl, ap, sym, ◌∙◌, subst, arith, rules}
use Rattle.std.proofs.lemmas.Bool.{cond-true, cond-false, cond_both, lt-ltb, le-ltb, eqb-false, cases_lt}
use Rattle.std.proofs.lemmas.List.{length-append, get_or_past}
use Rattle.std.proofs.lemmas.List.Sums.{sum_by-cons, sum_by_push, sum_by-set}
use Rattle.std.proofs.lemmas.List.Folds.{sum_by-replicate}
use Rattle.std.proofs.lemmas.Option.{unwrap_or-slice_get}
use Rattle.gc_graph.specs.Graph.{Value, Object, Graph, lookup, field_of, names_of}
use Rattle.gc_graph.specs.declared.command.Op.{Op}
use Rattle.gc_model.specs.State.{Replica, Collection, State, objects_end, new_end, heap_end, replica_at, moved}
use Rattle.gc_model.specs.Steps.{log_at, with_log, mutate, place_replica, with_written, write_replica, bring_value, bring_up_to_date, with_collection, if_room, fresh_collection, root_target, copy_root, scan_done, scan_replica, scan, apply_entry, apply_log, is_ready, passes_check, flip, step_in, collect, is_change, is_empty, first_log, useful_with, useful_step, step_idle, next_field}
use Rattle.gc_model.specs.Progress.{entries_in, scans_of, scans_from, work_of, work_left, entries_left, ChangesLower, Advances, Ends}
use Rattle.gc_model.specs.Runs.{IsStep}
use Rattle.gc_model.specs.Members.{In}
use Rattle.gc_model.specs.Belonging.{Laid, IsSpaceGraph, IsDue, IsOpened, IsState}
use Rattle.gc_model.specs.declared.step.Step.{Step}
use Rattle.gc_model.specs.declared.step.Step.TheVariants as steps
use Rattle.gc_model.specs.declared.step.StepReply.{StepReply}
use Rattle.gc_model.specs.declared.step.StepReply.TheVariants.{Copied, Scanned, Applied}
use Rattle.gc_model.proofs.Heap.{laid_range, laid_end}
use Rattle.gc_model.proofs.Replicas.{placed, replicas_end, with_written_pair, with_written_length}
use Rattle.gc_model.proofs.Steps.{its_replicas, same_place, unreplicated_some, placing_keeps, bringing_keeps, open_keeps, collect_keeps}
use Rattle.gc_model.proofs.Links.{found_by_place}
use Rattle.gc_model.proofs.Room.{replicas_fit}
use Rattle.gc_model.proofs.Changes.{found_log, useful_changes}

in_placed : (r : Replica) (rs : List Replica) → In r rs → In (placed r) (map placed rs)
in_placed r [] h = absurd h
in_placed r (q ∷ rest) (inl e) = inl (ap placed e)
in_placed r (q ∷ rest) (inr h) = inr (in_placed r rest h)

-- ---- the scans of replicas that lie back to back

-- they are fewer than the words from the place on
scans_fit : (p at : ℕ) (rs : List Replica) (end : ℕ) → Laid at (map placed rs) end → p ≤ end → (scans_from p rs + at ≤ end) × (scans_from p rs + p ≤ end)
scans_fit p at [] end h low = grind (arith, common_steps)
scans_fit p at (r ∷ rest) end h low = grind (arith, common_steps, sum_by-cons, scans_fit p (at + (length r.object.fields + 2)) rest end h.1 low)

-- all of them lie behind two such places
scans_same : (p q at : ℕ) (rs : List Replica) (end : ℕ) → Laid at (map placed rs) end → p ≤ at → q ≤ at → scans_from p rs ≡ scans_from q rs
scans_same p q at [] end h low lower = refl
scans_same p q at (r ∷ rest) end h low lower = grind (arith, common_steps, sum_by-cons, scans_same p q (at + (length r.object.fields + 2)) rest end h.1 (omega arith) (omega arith))

-- passing a replica takes its scans away
scans_pass : (at : ℕ) (rs : List Replica) (end : ℕ) (r : Replica) → Laid at (map placed rs) end → In r rs
    → scans_from (r.place + (length r.object.fields + 2)) rs + (length r.object.fields + 1) ≡ scans_from r.place rs
scans_pass at [] end r h k = absurd k
scans_pass at (q ∷ rest) end r h (inl e) =
    subst (λ (x : Replica). scans_from (x.place + (length x.object.fields + 2)) (q ∷ rest) + (length x.object.fields + 1) ≡ scans_from x.place (q ∷ rest)) e (
    let here : q.place ≡ at = h.0 in
    let past : scans_of (q.place + (length q.object.fields + 2)) q ≡ 0 = cond-true (nat_lt q.place (q.place + (length q.object.fields + 2))) 0 (length q.object.fields + 1) (lt-ltb q.place (q.place + (length q.object.fields + 2)) (omega arith)) in
    let now : scans_of q.place q ≡ length q.object.fields + 1 = cond-false (nat_lt q.place q.place) 0 (length q.object.fields + 1) (le-ltb q.place q.place (omega arith)) in
    let others = scans_same (q.place + (length q.object.fields + 2)) q.place (at + (length q.object.fields + 2)) rest end h.1 (omega arith) (omega arith) in
    omega (arith, sum_by-cons (scans_of (q.place + (length q.object.fields + 2))) q rest, sum_by-cons (scans_of q.place) q rest))
scans_pass at (q ∷ rest) end r h (inr k) =
    let here : q.place ≡ at = h.0 in
    let range = laid_range (at + (length q.object.fields + 2)) (map placed rest) end (placed r) h.1 (in_placed r rest k) in
    let low = range.0 in
    let one : scans_of (r.place + (length r.object.fields + 2)) q ≡ 0 = cond-true (nat_lt q.place (r.place + (length r.object.fields + 2))) 0 (length q.object.fields + 1) (lt-ltb q.place (r.place + (length r.object.fields + 2)) (omega arith)) in
    let other : scans_of r.place q ≡ 0 = cond-true (nat_lt q.place r.place) 0 (length q.object.fields + 1) (lt-ltb q.place r.place (omega arith)) in
    let others = scans_pass (at + (length q.object.fields + 2)) rest end r h.1 k in
    omega (arith, sum_by-cons (scans_of (r.place + (length r.object.fields + 2))) q rest, sum_by-cons (scans_of r.place) q rest)

-- the scans of a replica that is not before the place are among them
scans_have : (p : ℕ) (rs : List Replica) (r : Replica) → In r rs → p ≤ r.place → length r.object.fields + 1 ≤ scans_from p rs
scans_have p [] r k low = absurd k
scans_have p (q ∷ rest) r (inl e) low = grind (arith, common_steps, sum_by-cons)
scans_have p (q ∷ rest) r (inr k) low = let others = scans_have p rest r k low in omega (arith, sum_by-cons (scans_of p) q rest)

-- ---- replicas that are placed and written

scans_push : (p : ℕ) (rs : List Replica) (r : Replica) → scans_from p (rs ++ r ∷ []) ≡ scans_from p rs + scans_of p r
scans_push p rs r = sum_by_push (scans_of p) rs r

ends_push : (at : ℕ) (rs : List Replica) (r : Replica) → objects_end at (map placed (rs ++ r ∷ [])) ≡ objects_end at (map placed rs) + (length r.object.fields + 2)
ends_push at [] r = refl
ends_push at (q ∷ rest) r = ends_push (at + (length q.object.fields + 2)) rest r

scans_few : (p : ℕ) (r : Replica) → scans_of p r ≤ length r.object.fields + 1
scans_few p r = cond_both (nat_lt r.place p) 0 (length r.object.fields + 1) (λ n. n ≤ length r.object.fields + 1) (λ t. omega arith) (λ f. omega arith)

scans_written : (p name i : ℕ) (w : Value) (rs : List Replica) → scans_from p (map (with_written name i w) rs) ≡ scans_from p rs
scans_written p name i w [] = refl
scans_written p name i w (r ∷ rest) = grind (arith, common_steps, sum_by-cons, with_written_pair, with_written_length, scans_written p name i w rest)

ends_written : (at name i : ℕ) (w : Value) (rs : List Replica) → objects_end at (map placed (map (with_written name i w) rs)) ≡ objects_end at (map placed rs)
ends_written at name i w [] = refl
ends_written at name i w (r ∷ rest) = grind (arith, common_steps, with_written_length, placed, ends_written (at + (length r.object.fields + 2)) name i w rest)

-- A later collection, to which at most `more` replicas were added: each adds more words than scans.
record IsLater (more : ℕ) (c next : Collection) : Type 0 where
  pub logs : next.logs ≡ c.logs
  pub scan_place : next.scan_place ≡ c.scan_place
  pub scan_field : next.scan_field ≡ c.scan_field
  pub scans : scans_from c.scan_place c.replicas ≤ scans_from next.scan_place next.replicas
  pub words : scans_from next.scan_place next.replicas + new_end c + more ≤ scans_from c.scan_place c.replicas + new_end next

same_later : (c : Collection) → IsLater 0 c c
same_later c = record { logs = refl; scan_place = refl; scan_field = refl; scans = omega arith; words = omega arith }

placed_later : (c : Collection) (name : ℕ) (o : Option Object) (next : Collection) → place_replica c name o ≡ Some next → IsLater 1 c next
placed_later c name o next is = grind (arith, common_steps, scans_push, ends_push, scans_few)

weaker_later : (c next : Collection) → IsLater 1 c next → IsLater 0 c next
weaker_later c next h = let w = h.words in record { logs = h.logs; scan_place = h.scan_place; scan_field = h.scan_field; scans = h.scans; words = omega arith }

written_later : (c d : Collection) (name i : ℕ) (w : Value) → IsLater 0 c d → IsLater 0 c (write_replica d name i w)
written_later c d name i w h = grind (arith, common_steps, scans_written, ends_written)

copied_later : (c : Collection) (o : Option Collection) (name i : ℕ) (v : Value) (next : Collection) → ((d : Collection) → o ≡ Some d → IsLater 0 c d) → option_map (λ (d : Collection). write_replica d name i (moved d v)) o ≡ Some next → IsLater 0 c next
copied_later c None name i v next f is = absurd cc
copied_later c (Some d) name i v next f is =
    let e : write_replica d name i (moved d v) ≡ next = cc is in subst (IsLater 0 c) e (written_later c d name i (moved d v) (f d refl))

value_later : (c : Collection) (g : Graph) (name i : ℕ) (o : Option Value) (next : Collection) → bring_value c g name i o ≡ Some next → IsLater 0 c next
value_later c g name i o next is = grind (arith, common_steps, same_later, copied_later, weaker_later, placed_later)

brought_later : (c : Collection) (g : Graph) (name i : ℕ) (next : Collection) → bring_up_to_date c g name i ≡ Some next → IsLater 0 c next
brought_later c g name i next is = value_later c g name i (field_of (lookup g.objects name) i) next is

entry_later : (c : Collection) (g : Graph) (entry : ℕ × ℕ) (next : Collection) → apply_entry c g entry ≡ Some next → IsLater 0 c next
entry_later c g entry next is = grind (arith, common_steps, brought_later, same_later)

-- ---- entries

-- the oldest entry of a log is one of all
entries_taken : (logs : List (List (ℕ × ℕ))) (m : ℕ) (entry : ℕ × ℕ) (rest : List (ℕ × ℕ)) → unwrap_or (slice_get logs m) [] ≡ entry ∷ rest → suc (entries_in (set logs m rest)) ≡ entries_in logs
entries_taken logs m entry rest e = grind (arith, common_steps, cases_lt, get_or_past, unwrap_or-slice_get, sum_by-set)

entries_added : (logs : List (List (ℕ × ℕ))) (m : ℕ) (more : List (ℕ × ℕ)) → m < length logs → entries_in (set logs m (unwrap_or (slice_get logs m) [] ++ more)) ≡ entries_in logs + length more
entries_added logs m more less =
    let now = sum_by-set (λ log. length log) logs m (unwrap_or (slice_get logs m) [] ++ more) [] less in
    omega (arith, length-append (unwrap_or (slice_get logs m) []) more, ap length (unwrap_or-slice_get logs m []))

no_entries : (n : ℕ) → entries_in (replicate n []) ≡ 0
no_entries n = sum_by-replicate {X = List (ℕ × ℕ)} (λ log. length log) n [] ∙ omega arith

-- ---- the number

module _ (s : State) (h : IsSpaceGraph s.size s.heap.free s.heap.graph) where
  -- the new space has at most the words in use
  end_low : (c : Collection) → IsOpened s c → new_end c ≤ heap_end s
  end_low c k = replicas_fit s.size s.heap.free c.size s.heap.graph (IsDue c) c.replicas h (its_replicas (IsDue c) s.heap.graph.objects c k.belongs)

  scan_low : (c : Collection) → IsOpened s c → c.scan_place ≤ new_end c
  scan_low c k = ⊎_elim
      (λ x. let range = laid_range 1 (map placed c.replicas) (replicas_end c.replicas) (placed x.0) (k.belongs).laid (in_placed x.0 c.replicas x.1) in
      let high = range.1 in let at = x.2 in omega arith)
      (λ x. let at = x.0 in omega arith)
      (k.belongs).scan

  -- fewer fields are scanned than the scans that are left, unless none are
  field_low : (c : Collection) → IsOpened s c → c.scan_field ≤ scans_from c.scan_place c.replicas
  field_low c k = grind (arith, common_steps, scans_have)

  work_bounded : (c : Collection) → IsOpened s c → work_of s c ≤ (heap_end s - c.scan_place) + entries_in c.logs + 1
  work_bounded c k = grind (arith, common_steps, scan_low, scans_fit, replicas_end, end_low)

  -- ---- steps

  abbrev Falls : Collection → StepReply × State → Type 0
  Falls c next = is_change next.0 ≡ true → work_left next.1 < work_of s c

  room_falls : (c : Collection) (reply : StepReply) (o : Option Collection) → ((d : Collection) → o ≡ Some d → work_of s d < work_of s c) → Falls c (if_room s reply o)
  room_falls c reply o f = grind (arith, common_steps)

  later_falls : (c d : Collection) → IsOpened s c → IsOpened s d → IsLater 1 c d → work_of s d < work_of s c
  later_falls c d k l later = grind (arith, common_steps, field_low, end_low)

  root_falls : (c : Collection) → IsOpened s c → (t : Option ℕ) → root_target c s.heap.graph ≡ t → Falls c (copy_root s c t)
  root_falls c k None e = λ x. absurd cc
  root_falls c k (Some name) e = room_falls c Copied (place_replica c name (lookup s.heap.graph.objects name)) (λ d is.
      let none = (unreplicated_some c (flat_map names_of s.heap.graph.roots) name e).0 in
      later_falls c d k (placing_keeps s c d name k none is) (placed_later c name (lookup s.heap.graph.objects name) d is))

  scanned_falls : (c : Collection) (r : Replica) (next : Option Collection) (d : Collection) → IsOpened s c → In r c.replicas → r.place ≡ c.scan_place → c.scan_field ≢ length r.object.fields
      → bring_up_to_date c s.heap.graph r.original c.scan_field ≡ next → option_map next_field next ≡ Some d → work_of s d < work_of s c
  scanned_falls c r next d k here place more is e = grind (arith, common_steps, brought_later, bringing_keeps, scans_have, same_place, replicas_end, end_low)

  one_falls : (c : Collection) (r : Replica) → IsOpened s c → In r c.replicas → r.place ≡ c.scan_place → Falls c (scan_replica s c (Some r))
  one_falls c r k here place = search (rules, scans_pass, replicas_end, same_place, room_falls, scanned_falls)

  scan_falls : (c : Collection) → IsOpened s c → Falls c (scan s c)
  scan_falls c k = cond_both (scan_done c) _ _ (Falls c)
      (λ t. λ e. absurd cc)
      (λ f. ⊎_elim
      (λ x. let there = found_by_place (IsDue c) s.heap.graph.objects c k.belongs x.0 x.1 in
      subst (λ t. Falls c (scan_replica s c t)) (sym (ap (replica_at c) (sym x.2) ∙ there)) (one_falls c x.0 k x.1 x.2))
      (λ x. absurd (eqb-false c.scan_place (new_end c) f x.0))
      (k.belongs).scan)

  applied_falls : (c d : Collection) (m : ℕ) (entry : ℕ × ℕ) (rest : List (ℕ × ℕ)) → IsOpened s c → IsOpened s d → log_at c m ≡ entry ∷ rest
      → apply_entry (with_log c m rest) s.heap.graph entry ≡ Some d → work_of s d < work_of s c
  applied_falls c d m entry rest k l is e =
      let later = entry_later (with_log c m rest) s.heap.graph entry d e in
      grind (arith, common_steps, entries_taken, field_low, end_low, later, ap entries_in later.logs)

  apply_falls : (c : Collection) (m : ℕ) → s.collection ≡ Some c → IsOpened s c → Falls c (apply_log s c m (log_at c m))
  apply_falls c m at k = go (log_at c m) refl
    where
      kept : IfSome (step_in s c (steps.Apply m)).1.collection (IsOpened s)
      kept = open_keeps s c (steps.Apply m) at k (λ e. cc e)

      entry_falls : (entry : ℕ × ℕ) (rest : List (ℕ × ℕ)) → log_at c m ≡ entry ∷ rest → (o : Option Collection) → apply_entry (with_log c m rest) s.heap.graph entry ≡ o
          → IfSome (if_room s Applied o).1.collection (IsOpened s) → Falls c (if_room s Applied o)
      entry_falls entry rest is o e opened = grind (arith, common_steps, applied_falls)

      go : (l : List (ℕ × ℕ)) → log_at c m ≡ l → Falls c (apply_log s c m l)
      go l is = grind (arith, common_steps, entry_falls, kept)

  begun_falls : (size : ℕ) → work_left (with_collection s (Some (fresh_collection s.mutators size))) < heap_end s + 1
  begun_falls size = grind (arith, common_steps, no_entries, laid_end)

  lowers_with : (o : Option Collection) → s.collection ≡ o → IfSome o (IsOpened s) → (step : Step) → step ≢ steps.Flip → step ≢ steps.Drop
      → is_change (option_map_or (λ (c : Collection). step_in s c step) o (step_idle s step)).0 ≡ true → work_left (option_map_or (λ (c : Collection). step_in s c step) o (step_idle s step)).1 < option_map_or (work_of s) o (heap_end s + 1)
  lowers_with None at k steps.Begin n d = λ e. begun_falls s.size
  lowers_with None at k (steps.BeginSized size) n d = λ e. begun_falls size
  lowers_with None at k steps.Roots n d = λ e. absurd cc
  lowers_with None at k steps.Scan n d = λ e. absurd cc
  lowers_with None at k (steps.Apply m) n d = λ e. absurd cc
  lowers_with None at k steps.Flip n d = λ e. absurd cc
  lowers_with None at k steps.Drop n d = λ e. absurd cc
  lowers_with (Some c) at k steps.Begin n d = λ e. absurd cc
  lowers_with (Some c) at k (steps.BeginSized size) n d = λ e. absurd cc
  lowers_with (Some c) at k steps.Roots n d = root_falls c k (root_target c s.heap.graph) refl
  lowers_with (Some c) at k steps.Scan n d = scan_falls c k
  lowers_with (Some c) at k (steps.Apply m) n d = apply_falls c m at k
  lowers_with (Some c) at k steps.Flip n d = absurd (n refl)
  lowers_with (Some c) at k steps.Drop n d = absurd (d refl)

  pub lowers : IfSome s.collection (IsOpened s) → ChangesLower s
  lowers k step n d = lowers_with s.collection refl k step n d

  -- ---- the useful step

  pub advances : IfSome s.collection (IsOpened s) → Advances s
  advances k = grind (arith, common_steps, useful_changes, cond_both, lowers)

-- ---- runs of useful steps

-- the useful step's argument is in range
pub useful_ranges : (s : State) → IfSome s.collection (IsOpened s) → IsStep s.mutators (useful_step s)
useful_ranges s k = go s.collection k
  where
    log_ranges : (c : Collection) → IsOpened s c → (o : Option ℕ) → first_log 0 c.logs ≡ o → IsStep s.mutators (option_map_or steps.Apply o steps.Flip)
    log_ranges c k None e = tt
    log_ranges c k (Some m) e = grind (arith, common_steps, (found_log c.logs 0 m e).1, log_within c.logs (found_log c.logs 0 m e).0 (found_log c.logs 0 m e).2, k.logs)
      where
        log_within : (logs : List (List (ℕ × ℕ))) (j : ℕ) → is_empty (unwrap_or (slice_get logs j) []) ≡ false → j < length logs
        log_within [] j e = absurd cc
        log_within (log ∷ logs) zero e = omega arith
        log_within (log ∷ logs) (suc j) e = let others = log_within logs j e in omega arith

    go : (o : Option Collection) → IfSome o (IsOpened s) → IsStep s.mutators (useful_with s o)
    go o k = grind (arith, common_steps, log_ranges)

some_work : (s : State) → 1 ≤ work_left s
some_work s = grind (arith, common_steps)

ends : (fuel : ℕ) (s : State) → work_left s ≤ fuel → IsState s → Ends s
ends zero s low h = absurd (omega (arith, low, some_work s))
ends (suc fuel) s low h = ⊎_elim
    (λ x. (0, some_work s, x))
    (λ falls.
    let next = ends fuel (collect s (useful_step s)).1 (omega (arith, falls, low)) (collect_keeps s (useful_step s) h (useful_ranges s h.collection)) in
    (suc next.0, omega (arith, falls, next.1), next.2))
    (advances s h.heap h.collection)

pub state_ends : (s : State) → IsState s → Ends s
state_ends s h = ends (work_left s) s (omega arith) h

pub left_bounded : (s : State) (c : Collection) → IsSpaceGraph s.size s.heap.free s.heap.graph → IfSome s.collection (IsOpened s) → s.collection ≡ Some c → work_left s ≤ (heap_end s - c.scan_place) + entries_in c.logs + 1
left_bounded s c h k is = subst (λ o. option_map_or (work_of s) o (heap_end s + 1) ≤ (heap_end s - c.scan_place) + entries_in c.logs + 1) (sym is) (work_bounded s h c (subst (λ (o : Option Collection). IfSome o (IsOpened s)) is k))

-- ---- the end of the new space

pub ends_within : (s : State) (c : Collection) → IsState s → s.collection ≡ Some c → new_end c ≤ heap_end s
ends_within s c h is = end_low s h.heap c (subst (λ (o : Option Collection). IfSome o (IsOpened s)) is h.collection)

later_ends : (c next : Collection) → IsLater 0 c next → new_end c ≤ new_end next
later_ends c next later = let scans = later.scans in let words = later.words in omega arith

module _ (s : State) (c : Collection) (at : s.collection ≡ Some c) where
  abbrev EndsBehind : State → Type 0
  EndsBehind t = (next : Collection) → t.collection ≡ Some next → new_end c ≤ new_end next

  same_ends : EndsBehind s
  same_ends next is = grind (arith, common_steps)

  room_ends : (reply : StepReply) (o : Option Collection) → ((d : Collection) → o ≡ Some d → new_end c ≤ new_end d) → EndsBehind (if_room s reply o).1
  room_ends reply None f next is = same_ends next is
  room_ends reply (Some d) f next is = grind (arith, common_steps, f d refl)

  root_ends : (t : Option ℕ) → EndsBehind (copy_root s c t).1
  root_ends None = same_ends
  root_ends (Some name) = room_ends Copied (place_replica c name (lookup s.heap.graph.objects name))
      (λ d is. later_ends c d (weaker_later c d (placed_later c name (lookup s.heap.graph.objects name) d is)))

  field_ends : (o : Option Collection) → ((d : Collection) → o ≡ Some d → IsLater 0 c d) → (d : Collection) → option_map next_field o ≡ Some d → new_end c ≤ new_end d
  field_ends None f d is = absurd cc
  field_ends (Some e) f d is = (let later = later_ends c e (f e refl) in grind (arith, common_steps, later))

  one_ends : (t : Option Replica) → EndsBehind (scan_replica s c t).1
  one_ends None = same_ends
  one_ends (Some r) = cond_both (r.object.raw || (c.scan_field == length r.object.fields)) _ _ (λ (next : StepReply × State). EndsBehind next.1)
      (λ t next is. grind (arith, common_steps))
      (λ t. room_ends Scanned (option_map next_field (bring_up_to_date c s.heap.graph r.original c.scan_field))
      (field_ends (bring_up_to_date c s.heap.graph r.original c.scan_field) (λ d is. brought_later c s.heap.graph r.original c.scan_field d is)))

  scan_ends : EndsBehind (scan s c).1
  scan_ends = cond_both (scan_done c) _ _ (λ (next : StepReply × State). EndsBehind next.1) (λ t. same_ends) (λ t. one_ends (replica_at c c.scan_place))

  log_ends : (m : ℕ) (entries : List (ℕ × ℕ)) → EndsBehind (apply_log s c m entries).1
  log_ends m [] = same_ends
  log_ends m (entry ∷ rest) = room_ends Applied (apply_entry (with_log c m rest) s.heap.graph entry) (λ d is. later_ends (with_log c m rest) d (entry_later (with_log c m rest) s.heap.graph entry d is))

  flip_ends : EndsBehind (flip s c).1
  flip_ends = cond_both (is_ready c s.heap.graph) _ _ (λ (next : StepReply × State). EndsBehind next.1)
      (λ t. cond_both (passes_check s c) _ _ (λ (next : StepReply × State). EndsBehind next.1) (λ u next is. absurd cc) (λ u. same_ends))
      (λ t. same_ends)

  step_ends : (step : Step) → EndsBehind (step_in s c step).1
  step_ends steps.Begin = same_ends
  step_ends (steps.BeginSized size) = same_ends
  step_ends steps.Roots = root_ends (root_target c s.heap.graph)
  step_ends steps.Scan = scan_ends
  step_ends (steps.Apply m) = log_ends m (log_at c m)
  step_ends steps.Flip = flip_ends
  step_ends steps.Drop = λ next is. absurd cc

pub ends_grow : (s : State) (c next : Collection) (step : Step) → s.collection ≡ Some c → (collect s step).1.collection ≡ Some next → new_end c ≤ new_end next
ends_grow s c next step at is =
    step_ends s c at step next (subst (λ (o : Option Collection). (option_map_or (λ (d : Collection). step_in s d step) o (step_idle s step)).1.collection ≡ Some next) at is)

-- ---- no step logs an entry

module _ (s : State) (c : Collection) (is : s.collection ≡ Some c) where
  entries_same : entries_left s ≡ entries_in c.logs
  entries_same = ap (λ (o : Option Collection). option_map_or (λ (c : Collection). entries_in c.logs) o 0) is

pub entries_stay : (s : State) (step : Step) → entries_left (collect s step).1 ≤ entries_left s
entries_stay s step = grind (arith, common_steps, no_entries, entries_same, placed, placed_later, cond_both, brought_later, entry_later, entries_taken)

-- ---- commands

-- a command raises the number by the words that it allocates and the entries that it logs
pub command_raises : (s : State) (m : ℕ) (op : Op) → IsSpaceGraph s.size s.heap.free s.heap.graph → IfSome s.collection (IsOpened s) → m < s.mutators
    → (let t = (mutate s m op).1 in work_left t + heap_end s + entries_left s ≡ work_left s + heap_end t + entries_left t)
command_raises s m op h k less = grind (arith, common_steps, cond_both, entries_added, end_low)
