-- Scans of an open collection, in order: what each does to it.
use Rattle.std.proofs.Common.{◌≡◌, ◌⊎◌, inl, inr, ℕ, zero, suc, ◌==◌, Bool, true, false, cond, ◌||◌, length, Option, Some, None, refl, ap, sym, ◌∙◌, subst}
use Rattle.std.specs.Prelude.{IfSome}
use Rattle.std.specs.Option.{option_map, unwrap_or}
use Rattle.gc_model.specs.State.{Replica, Collection, State, replica_at}
use Rattle.gc_model.specs.Steps.{scan, scan_replica, scan_done, bring_up_to_date, next_field, next_object, if_room, with_collection, collect}
use Rattle.gc_model.specs.Belonging.{IsOpened}
use Rattle.gc_model.specs.declared.step.StepReply.{StepReply}
use Rattle.gc_model.specs.declared.step.StepReply.TheVariants.{Clean, Passed, Scanned}
use Rattle.gc_model.specs.declared.step.Step.TheVariants as steps
use Rattle.gc_model.proofs.Public.{open_keeps}
use Rattle.gc_copy.specs.StepRuns.{repeated}

-- the state with this collection
abbrev pub having : State → Collection → State
having s c = with_collection s (Some c)

-- the collection that a scan leads to
abbrev pub scanned_once : State → Collection → Collection
scanned_once s c = unwrap_or (scan (with_collection s (Some c)) c).1.collection c

abbrev pub scanned_on : State → ℕ → Collection → Collection
scanned_on s zero c = c
scanned_on s (suc n) c = scanned_on s n (scanned_once s c)

-- what a scan does to the collection
abbrev pub Moves : State → Collection → Collection → StepReply × State → Type 0
Moves s c next r = (r ≡ (Scanned, with_collection s (Some next))) ⊎ ((r ≡ (Passed, with_collection s (Some next))) ⊎ (next ≡ c))

abbrev Does : State → Collection → StepReply × State → Type 0
Does s c r = (r.1 ≡ with_collection s (Some (unwrap_or r.1.collection c))) × Moves s c (unwrap_or r.1.collection c) r

does_room : (s : State) (c : Collection) (o : Option Collection) → Does s c (if_room (having s c) Scanned o)
does_room s c None = (refl, inr (inr refl))
does_room s c (Some d) = (refl, inl refl)

does_replica : (s : State) (c : Collection) (o : Option Replica) → Does s c (scan_replica (having s c) c o)
does_replica s c None = (refl, inr (inr refl))
does_replica s c (Some r) = go (r.object.raw || (c.scan_field == length r.object.fields))
  where
    go : (b : Bool) → Does s c (cond b (Passed, with_collection (having s c) (Some (next_object c r))) (if_room (having s c) Scanned (option_map next_field (bring_up_to_date c s.heap.graph r.original c.scan_field))))
    go true = (refl, inr (inl refl))
    go false = does_room s c (option_map next_field (bring_up_to_date c s.heap.graph r.original c.scan_field))

pub does : (s : State) (c : Collection) → Does s c (scan (having s c) c)
does s c = go (scan_done c)
  where
    go : (b : Bool) → Does s c (cond b (Clean, having s c) (scan_replica (having s c) c (replica_at c c.scan_place)))
    go true = (refl, inr (inr refl))
    go false = does_replica s c (replica_at c c.scan_place)

pub opened_once : (s : State) (c : Collection) → IsOpened s c → IsOpened s (scanned_once s c)
opened_once s c o =
    let k = open_keeps (having s c) c steps.Scan refl (record { belongs = o.belongs; size = o.size; logs = o.logs }) (λ e. cc) in
    let n : IsOpened (having s c) (scanned_once s c) = subst (λ (x : State). IfSome x.collection (IsOpened (having s c))) (does s c).0 k in
    record { belongs = n.belongs; size = n.size; logs = n.logs }

pub all_opened : (s : State) (n : ℕ) (c : Collection) → IsOpened s c → IsOpened s (scanned_on s n c)
all_opened s zero c opened = opened
all_opened s (suc n) c opened = all_opened s n (scanned_once s c) (opened_once s c opened)

scanned_after : (s : State) (n : ℕ) (c : Collection) → scanned_on s (suc n) c ≡ scanned_once s (scanned_on s n c)
scanned_after s zero c = refl
scanned_after s (suc n) c = scanned_after s n (scanned_once s c)

pub scans_are : (s : State) (n : ℕ) (c : Collection) → repeated steps.Scan n (having s c) ≡ having s (scanned_on s n c)
scans_are s zero c = refl
scans_are s (suc n) c =
    ap (λ (x : State). (collect x steps.Scan).1) (scans_are s n c)
    ∙ ((does s (scanned_on s n c)).0 ∙ ap (having s) (sym (scanned_after s n c)))
