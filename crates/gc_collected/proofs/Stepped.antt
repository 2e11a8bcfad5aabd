-- No step but a flip has the reply `Flipped`.
use Rattle.std.proofs.Common.{◌≡◌, ◌⊎◌, ⊎_elim, ℕ, List, [], ◌∷◌, Option, Some, None, Result, Ok, Err, sym, subst}
use Rattle.std.proofs.lemmas.Bool.{cond_both}
use Rattle.std.specs.Prelude.{IfOk, ◌==◌, ◌||◌, length}
use Rattle.std.specs.Option.{option_map, option_map_or}
use Rattle.gc_graph.specs.Graph.{lookup}
use Rattle.gc_cert.specs.Grammar.{CertifiedPair}
use Rattle.gc_model.specs.State.{Collection, State, Replica, replica_at}
use Rattle.gc_model.specs.Steps.{apply_entry, apply_log, bring_up_to_date, collect, copy_root, if_room, log_at, next_field, next_object, place_replica, root_target, scan, scan_done, scan_replica, step_idle, step_in, with_collection, with_log}
use Rattle.gc_model.specs.declared.step.Step.{Step}
use Rattle.gc_model.specs.declared.step.Step.TheVariants as steps
use Rattle.gc_model.specs.declared.step.StepReply.{StepReply}
use Rattle.gc_model.specs.declared.step.StepReply.TheVariants.{Applied, Begun, Busy, Clean, Copied, Flipped, Passed, Scanned}
use Rattle.gc_monitor.specs.Events.{absent_tables}
use Rattle.gc_monitor.specs.Tables.{Tables}
use Rattle.gc_collected.specs.Flip.{FlipsOnly}

-- it does not tell of a flip
abbrev pub IsPlain : StepReply → Type 0
IsPlain (Flipped pairs) = ⊥
IsPlain reply = Unit {0}

module _ (s : State) where
  in_room : (reply : StepReply) (o : Option Collection) → IsPlain reply → IsPlain (if_room s reply o).0
  in_room reply None p = tt
  in_room reply (Some c) p = p

  copied : (c : Collection) (o : Option ℕ) → IsPlain (copy_root s c o).0
  copied c None = tt
  copied c (Some name) = in_room Copied (place_replica c name (lookup s.heap.graph.objects name)) (tt {0})

  scanned : (c : Collection) (o : Option Replica) → IsPlain (scan_replica s c o).0
  scanned c None = tt
  scanned c (Some r) =
      let passed : StepReply × State = (Passed, with_collection s (Some (next_object c r))) in
      let next : Option Collection = option_map next_field (bring_up_to_date c s.heap.graph r.original c.scan_field) in
      cond_both (r.object.raw || (c.scan_field == length r.object.fields)) passed (if_room s Scanned next) (λ (x : StepReply × State). IsPlain x.0) (λ t. tt) (λ t. in_room Scanned next (tt {0}))

  scans : (c : Collection) → IsPlain (scan s c).0
  scans c =
      let clean : StepReply × State = (Clean, s) in
      cond_both (scan_done c) clean (scan_replica s c (replica_at c c.scan_place)) (λ (x : StepReply × State). IsPlain x.0) (λ t. tt) (λ t. scanned c (replica_at c c.scan_place))

  applied : (c : Collection) (m : ℕ) (entries : List (ℕ × ℕ)) → IsPlain (apply_log s c m entries).0
  applied c m [] = tt
  applied c m (entry ∷ rest) = in_room Applied (apply_entry (with_log c m rest) s.heap.graph entry) (tt {0})

  after : (step : Step) (o : Option Collection) → ((c : Collection) → IsPlain (step_in s c step).0) → IsPlain (step_idle s step).0 → IsPlain (option_map_or (λ (c : Collection). step_in s c step) o (step_idle s step)).0
  after step None is_open idle = idle
  after step (Some c) is_open idle = is_open c

  told : (step : Step) (reply : StepReply) (s' : State) → collect s step ≡ (reply, s') → IsPlain (collect s step).0 → IsPlain reply
  told step reply s' e p = subst (λ (x : StepReply × State). IsPlain x.0) e p

  pub roots_plain : (reply : StepReply) (s' : State) → collect s steps.Roots ≡ (reply, s') → IsPlain reply
  roots_plain reply s' e = told steps.Roots reply s' e (after steps.Roots s.collection (λ c. copied c (root_target c s.heap.graph)) (tt {0}))

  pub scan_plain : (reply : StepReply) (s' : State) → collect s steps.Scan ≡ (reply, s') → IsPlain reply
  scan_plain reply s' e = told steps.Scan reply s' e (after steps.Scan s.collection scans (tt {0}))

  pub apply_plain : (m : ℕ) (reply : StepReply) (s' : State) → collect s (steps.Apply m) ≡ (reply, s') → IsPlain reply
  apply_plain m reply s' e = told (steps.Apply m) reply s' e (after (steps.Apply m) s.collection (λ c. applied c m (log_at c m)) (tt {0}))

  pub drop_plain : (reply : StepReply) (s' : State) → collect s steps.Drop ≡ (reply, s') → IsPlain reply
  drop_plain reply s' e = told steps.Drop reply s' e (after steps.Drop s.collection (λ c. tt {0}) (tt {0}))

-- then nothing was to be accepted
pub plain_flips : (says : Tables → CertifiedPair → Type 0) (s : State) (reply : StepReply) → IsPlain reply → (t : Tables) × FlipsOnly (says t) s reply
plain_flips says s reply p = (absent_tables, λ pairs is. absurd (subst IsPlain is p))

pub begun_flips : {E : Type 0} (says : Tables → CertifiedPair → Type 0) (s : State) (result : Result StepReply E) → IfOk result (λ reply. (reply ≡ Begun) ⊎ (reply ≡ Busy)) → IfOk result (λ reply. (t : Tables) × FlipsOnly (says t) s reply)
begun_flips says s (Ok reply) h = plain_flips says s reply (⊎_elim (λ is. subst IsPlain (sym is) (tt {0})) (λ is. subst IsPlain (sym is) (tt {0})) h)
begun_flips says s (Err e) h = tt {0}
