-- Scans, and entries that are applied: where the first is useful, so are those that a call performs behind it.
use Rattle.std.proofs.lemmas.Grind.{common_steps}
use Rattle.std.proofs.Common.{◌≡◌, ◌⊎◌, inl, inr, ℕ, zero, suc, ◌+◌, ◌<◌, true, false, List, [], ◌∷◌, Option, Some, None, refl, sym, ap, ◌∙◌, subst, arith, set}
use Rattle.std.specs.Prelude.{◌≢◌, IfSome, is_none, slice_get, slice_set}
use Rattle.std.specs.Option.{option_map, option_map_or, unwrap_or}
use Rattle.std.proofs.lemmas.Bool.{cond_both, cases_Bool}
use Rattle.gc_graph.specs.Graph.{Value, Nil, Graph, Object, root}
use Rattle.gc_model.specs.State.{Collection, Replica, State, replica_at, new_end}
use Rattle.gc_model.specs.Steps.{scan, scan_done, scan_replica, roots_done, root_target, collect, if_room, bring_up_to_date, bring_value, place_replica, next_field, next_object, with_collection, with_log, log_at, apply_log, apply_entry, is_empty, first_log, step_in, step_idle}
use Rattle.gc_model.specs.Belonging.{IsSpaceGraph, IsOpened}
use Rattle.gc_model.specs.Staying.{HasReplicaOf, KnowsRoot}
use Rattle.gc_model.specs.declared.step.Step.{Step}
use Rattle.gc_model.specs.declared.step.Step.TheVariants as steps
use Rattle.gc_model.specs.declared.step.StepReply.{StepReply}
use Rattle.gc_model.specs.declared.step.StepReply.TheVariants.{Scanned, Applied}
use Rattle.gc_model.proofs.Public.{all_replicated, collect_stays, get_in, open_keeps, roots_replicated, HasReplica}
use Rattle.gc_copy.specs.StepRuns.{ScansOn, AppliesOn}
use Rattle.gc_pace.specs.Work.{sized_step}
use Rattle.gc_pace.proofs.Repeats.{IsQuiet, StaysUseful}

-- ---- what a step does

-- its reply is quiet, and the collection stays open
abbrev pub Does : State → StepReply × State → Type 0
Does s next = IsQuiet next.0 × ((d : Collection) × (next.1 ≡ with_collection s (Some d)))

module _ (s : State) (c : Collection) (is : s.collection ≡ Some c) where
  own : s ≡ with_collection s (Some c)
  own = ap (λ (o : Option Collection). record s { collection = o }) is

  does_room : (r : StepReply) → IsQuiet r → (o : Option Collection) → Does s (if_room s r o)
  does_room r quiet None = (inr (inr (inr (inr refl))), (c, own))
  does_room r quiet (Some d) = (quiet, (d, refl))

  does_replica : (o : Option Replica) → Does s (scan_replica s c o)
  does_replica None = (inl refl, (c, own))
  does_replica (Some r) = cond_both _ _ _ (Does s) (λ t. (inr (inl refl), (next_object c r, refl))) (λ t. does_room Scanned (inr (inr (inl refl))) (option_map next_field (bring_up_to_date c s.heap.graph r.original c.scan_field)))

  does_scan : Does s (scan s c)
  does_scan = cond_both (scan_done c) _ _ (Does s) (λ t. (inl refl, (c, own))) (λ t. does_replica (replica_at c c.scan_place))

  does_apply : (m : ℕ) (entries : List (ℕ × ℕ)) → Does s (apply_log s c m entries)
  does_apply m [] = (inl refl, (c, own))
  does_apply m (entry ∷ rest) = does_room Applied (inr (inr (inr (inl refl)))) (apply_entry (with_log c m rest) s.heap.graph entry)

-- a scan, or an entry of some log that is applied
abbrev pub IsRepeated : Step → Type 0
IsRepeated step = (step ≡ steps.Scan) ⊎ ((m : ℕ) × (step ≡ steps.Apply m))

in_open : (s : State) (c : Collection) (step : Step) → s.collection ≡ Some c → collect s step ≡ step_in s c step
in_open s c step is = ap (λ (o : Option Collection). option_map_or (λ c. step_in s c step) o (step_idle s step)) is

does : (s : State) (c : Collection) (step : Step) → s.collection ≡ Some c → IsRepeated step → Does s (collect s step)
does s c step is (inl e) = subst (Does s) (sym (in_open s c step is ∙ ap (step_in s c) e)) (does_scan s c is)
does s c step is (inr (m, e)) = subst (Does s) (sym (in_open s c step is ∙ ap (step_in s c) e)) (does_apply s c is m (log_at c m))

no_flip : (step : Step) → IsRepeated step → step ≢ steps.Flip
no_flip step h = grind (arith, common_steps)

-- ---- an open collection that has a replica of each root's target

pub record IsRooted (s : State) : Type 0 where
  pub heap : IsSpaceGraph s.size s.heap.free s.heap.graph
  pub collection : Collection
  pub is : s.collection ≡ Some collection
  pub opened : IsOpened s collection
  pub roots : roots_done collection s.heap.graph ≡ true

has_replica_of : (c : Collection) (v : Value) → HasReplica c v → HasReplicaOf c v
has_replica_of c v h = grind (arith, common_steps)

known_roots : (c : Collection) (g : Graph) → roots_done c g ≡ true → (p : ℕ) → HasReplicaOf c (root g p)
known_roots c g done p = go (slice_get g.roots p) refl
  where
    go : (o : Option Value) → slice_get g.roots p ≡ o → HasReplicaOf c (unwrap_or o Nil)
    go None e = tt
    go (Some v) e = has_replica_of c v (roots_replicated c g done v (get_in v g.roots p e))

module _ (step : Step) (work : IsRepeated step) (s : State) (r : IsRooted s) where
  abbrev later : Collection
  later = (does s r.collection step r.is work).1.0

  led : (collect s step).1 ≡ with_collection s (Some later)
  led = (does s r.collection step r.is work).1.1

  opened_then : IsOpened s later
  opened_then =
      let k = open_keeps s r.collection step r.is r.opened (no_flip step work) in
      let same : (step_in s r.collection step).1 ≡ with_collection s (Some later) = ap (λ (x : StepReply × State). x.1) (sym (in_open s r.collection step r.is)) ∙ led in
      subst (λ (x : State). IfSome x.collection (IsOpened s)) same k

  roots_then : roots_done later s.heap.graph ≡ true
  roots_then =
      let none : root_target later s.heap.graph ≡ None = all_replicated later s.heap.graph
      (λ p l. subst (λ (x : State). KnowsRoot x p) led (collect_stays p s r.collection step r.is (subst (λ (o : Option Collection). IfSome o (λ c. HasReplicaOf c (root s.heap.graph p))) (sym r.is) (known_roots r.collection s.heap.graph r.roots p)))) in
      ap is_none none

  -- the collection that is open afterwards, and what it is
  rooted_then : (q : IsRooted (collect s step).1) × (q.collection ≡ later)
  rooted_then = (
    record {
      heap = subst (λ (x : State). IsSpaceGraph x.size x.heap.free x.heap.graph) (sym led) r.heap;
      collection = later;
      is = ap (λ (x : State). x.collection) led;
      opened = subst (λ (x : State). IsOpened x later) (sym led) (record { belongs = opened_then.belongs; size = opened_then.size; logs = opened_then.logs });
      roots = subst (λ (x : State). roots_done later x.heap.graph ≡ true) (sym led) roots_then;
    },
    refl,
  )

-- what On says of a state is said of its collection
said : (P : Collection → Type 0) (s : State) (c : Collection) → s.collection ≡ Some c → IfSome s.collection P → P c
said P s c is h = subst (λ (o : Option Collection). IfSome o P) is h

-- ---- scans

-- something is left to scan
pub record IsToScan (s : State) : Type 0 where
  pub rooted : IsRooted s
  pub left : scan_done rooted.collection ≡ false

useful_is_scan : (size : Option ℕ) (s : State) (c : Collection) → s.collection ≡ Some c → roots_done c s.heap.graph ≡ true → scan_done c ≡ false → sized_step size s ≡ steps.Scan
useful_is_scan size s c is roots left = grind (arith, common_steps)

pub scans_stay : (size : Option ℕ) (until : ℕ) → StaysUseful size steps.Scan (ScansOn until) until IsToScan
scans_stay size until = record {
  other = λ e. cc e;
  known = λ s h. record {
    heap = h.rooted.heap;
    collection = h.rooted.collection;
    is = h.rooted.is;
    opened = h.rooted.opened;
    useful = useful_is_scan size s h.rooted.collection h.rooted.is h.rooted.roots h.left;
    quiet = (does s h.rooted.collection steps.Scan h.rooted.is (inl refl)).0;
  };
  next = λ s h on. let q = rooted_then steps.Scan (inl refl) s h.rooted in record { rooted = q.0; left = (said (λ c. (scan_done c ≡ false) × (new_end c < until)) (collect s steps.Scan).1 q.0.collection q.0.is on).0 };
  ends = λ s c is on. (said (λ c. (scan_done c ≡ false) × (new_end c < until)) s c is on).1;
}

-- a useful scan has a collection that is not scanned to its end
scan_is_useful : (size : Option ℕ) (s : State) → sized_step size s ≡ steps.Scan → (c : Collection) × (s.collection ≡ Some c) × (roots_done c s.heap.graph ≡ true) × (scan_done c ≡ false)
scan_is_useful size s e = grind (arith, common_steps, cases_Bool)

pub to_scan : (size : Option ℕ) (s : State) → sized_step size s ≡ steps.Scan → IsSpaceGraph s.size s.heap.free s.heap.graph → IfSome s.collection (IsOpened s) → IsToScan s
to_scan size s e heap opened =
    let f = scan_is_useful size s e in
    record { rooted = record { heap = heap; collection = f.0; is = f.1; opened = said (IsOpened s) s f.0 f.1 opened; roots = f.2 }; left = f.3 }

-- ---- entries

-- mutator m's log is the first that has an entry
pub record IsToApply (m : ℕ) (s : State) : Type 0 where
  pub rooted : IsRooted s
  pub done : scan_done rooted.collection ≡ true
  pub first : first_log 0 rooted.collection.logs ≡ Some m

useful_is_apply : (size : Option ℕ) (m : ℕ) (s : State) (c : Collection) → s.collection ≡ Some c → roots_done c s.heap.graph ≡ true → scan_done c ≡ true → first_log 0 c.logs ≡ Some m → sized_step size s ≡ steps.Apply m
useful_is_apply size m s c is roots done first = grind (arith, common_steps)

-- if the first log that has an entry still has one, it is still the first
first_stays : (k m : ℕ) (logs : List (List (ℕ × ℕ))) (rest : List (ℕ × ℕ)) → first_log k logs ≡ Some (k + m) → is_empty (unwrap_or (slice_get (set logs m rest) m) []) ≡ false → first_log k (set logs m rest) ≡ Some (k + m)
first_stays k m [] rest first some = absurd (let no : None ≡ Some (k + m) = first in cc)
first_stays k zero (log ∷ logs) [] first some = absurd cc
first_stays k zero (log ∷ logs) (entry ∷ rest) first some = ap Some (let at : k ≡ k + 0 = omega arith in at)
first_stays k (suc m) ((entry ∷ log) ∷ logs) rest first some = absurd (let same : k ≡ k + suc m = (let e : Some k ≡ Some (k + suc m) = first in cc) in omega arith)
first_stays k (suc m) ([] ∷ logs) rest first some =
    let at : k + suc m ≡ (k + 1) + m = omega arith in
    first_stays (k + 1) m logs rest (first ∙ ap Some at) some ∙ ap Some (sym at)

-- no step changes another log
abbrev SameLogs : Collection → Option Collection → Type 0
SameLogs c o = IfSome o (λ next. next.logs ≡ c.logs)

placed_logs : (c : Collection) (name : ℕ) (o : Option Object) → SameLogs c (place_replica c name o)
placed_logs c name o = grind (arith, common_steps)

brought_logs : (c : Collection) (g : Graph) (name i : ℕ) (o : Option Value) → SameLogs c (bring_value c g name i o)
brought_logs c g name i o = grind (arith, common_steps, placed_logs)

entry_logs : (c : Collection) (g : Graph) (entry : ℕ × ℕ) → SameLogs c (apply_entry c g entry)
entry_logs c g entry = grind (arith, common_steps, brought_logs)

-- the logs after an entry was applied, or nothing
abbrev LeavesLog : Collection → ℕ → State → Type 0
LeavesLog c m t = IfSome t.collection (λ d. (d.logs ≡ c.logs) ⊎ ((rest : List (ℕ × ℕ)) × (d.logs ≡ slice_set c.logs m rest)))

room_leaves : (s : State) (c : Collection) (m : ℕ) (rest : List (ℕ × ℕ)) → s.collection ≡ Some c → (o : Option Collection) → SameLogs (with_log c m rest) o → LeavesLog c m (if_room s Applied o).1
room_leaves s c m rest is None same = subst (λ (o : Option Collection). IfSome o (λ d. (d.logs ≡ c.logs) ⊎ ((rest : List (ℕ × ℕ)) × (d.logs ≡ slice_set c.logs m rest)))) (sym is) (inl refl)
room_leaves s c m rest is (Some d) same = inr (rest, same)

apply_leaves : (s : State) (c : Collection) (m : ℕ) (entries : List (ℕ × ℕ)) → s.collection ≡ Some c → LeavesLog c m (apply_log s c m entries).1
apply_leaves s c m [] is = subst (λ (o : Option Collection). IfSome o (λ d. (d.logs ≡ c.logs) ⊎ ((rest : List (ℕ × ℕ)) × (d.logs ≡ slice_set c.logs m rest)))) (sym is) (inl refl)
apply_leaves s c m (entry ∷ rest) is = room_leaves s c m rest is (apply_entry (with_log c m rest) s.heap.graph entry) (entry_logs (with_log c m rest) s.heap.graph entry)

still_first : (c d : Collection) (m : ℕ) → first_log 0 c.logs ≡ Some m → is_empty (log_at d m) ≡ false → (d.logs ≡ c.logs) ⊎ ((rest : List (ℕ × ℕ)) × (d.logs ≡ slice_set c.logs m rest)) → first_log 0 d.logs ≡ Some m
still_first c d m first some (inl same) = ap (first_log 0) same ∙ first
still_first c d m first some (inr (rest, is)) =
    let at : m ≡ 0 + m = omega arith in
    ap (first_log 0) is ∙ first_stays 0 m c.logs rest (first ∙ ap Some at) (subst (λ (logs : List (List (ℕ × ℕ))). is_empty (unwrap_or (slice_get logs m) []) ≡ false) is some) ∙ ap Some (sym at)

pub applies_stay : (size : Option ℕ) (m until : ℕ) → StaysUseful size (steps.Apply m) (AppliesOn m until) until (IsToApply m)
applies_stay size m until = record {
  other = λ e. cc e;
  known = λ s h. record {
    heap = h.rooted.heap;
    collection = h.rooted.collection;
    is = h.rooted.is;
    opened = h.rooted.opened;
    useful = useful_is_apply size m s h.rooted.collection h.rooted.is h.rooted.roots h.done h.first;
    quiet = (does s h.rooted.collection (steps.Apply m) h.rooted.is (inr (m, refl))).0;
  };
  next = λ s h on.
      let q = rooted_then (steps.Apply m) (inr (m, refl)) s h.rooted in
      let o = said (λ c. (scan_done c ≡ true) × (is_empty (log_at c m) ≡ false) × (new_end c < until)) (collect s (steps.Apply m)).1 q.0.collection q.0.is on in
      let c = h.rooted.collection in
      let leaves : LeavesLog c m (collect s (steps.Apply m)).1 = subst (λ (x : StepReply × State). LeavesLog c m x.1) (sym (in_open s c (steps.Apply m) h.rooted.is)) (apply_leaves s c m (log_at c m) h.rooted.is) in
      record {
        rooted = q.0;
        done = o.0;
        first = still_first c q.0.collection m h.first o.1 (said (λ d. (d.logs ≡ c.logs) ⊎ ((rest : List (ℕ × ℕ)) × (d.logs ≡ slice_set c.logs m rest))) (collect s (steps.Apply m)).1 q.0.collection q.0.is leaves);
      };
  ends = λ s c is on. (said (λ c. (scan_done c ≡ true) × (is_empty (log_at c m) ≡ false) × (new_end c < until)) s c is on).2;
}

-- a useful entry is that of the first log that has one
apply_is_useful : (size : Option ℕ) (m : ℕ) (s : State) → sized_step size s ≡ steps.Apply m → (c : Collection) × (s.collection ≡ Some c) × (roots_done c s.heap.graph ≡ true) × (scan_done c ≡ true) × (first_log 0 c.logs ≡ Some m)
apply_is_useful size m s e = grind (arith, common_steps, cases_Bool)

pub to_apply : (size : Option ℕ) (m : ℕ) (s : State) → sized_step size s ≡ steps.Apply m → IsSpaceGraph s.size s.heap.free s.heap.graph → IfSome s.collection (IsOpened s) → IsToApply m s
to_apply size m s e heap opened =
    let f = apply_is_useful size m s e in
    record { rooted = record { heap = heap; collection = f.0; is = f.1; opened = said (IsOpened s) s f.0 f.1 opened; roots = f.2 }; done = f.3; first = f.4 }
