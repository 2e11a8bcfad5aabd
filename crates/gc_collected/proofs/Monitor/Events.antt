-- The core's steps and commands, with what the watch may lose and has to mark at each.
-- For the theorem that the monitor follows its heap.
use Rattle.std.proofs.lemmas.Grind.{common_steps}
use Rattle.std.proofs.Common.{◌≡◌, inr, ⊎_elim, ℕ, nat_lt, Bool, true, false, cond, List, ◌∷◌, flat_map, Option, Some, None, is_some, refl, ap, sym, ◌∙◌, subst, arith}
use Rattle.std.proofs.lemmas.Bool.{cond_both}
use Rattle.gc_graph.specs.Graph.{lookup, names_of}
use Rattle.gc_graph.specs.Machine.{Roomy, words_taken, roomy_step}
use Rattle.gc_graph.specs.declared.command.Op.{Op}
use Rattle.gc_graph.specs.declared.reply.Reply.{Reply}
use Rattle.gc_model.specs.State.{Collection, State, heap_end, new_end, replica_of}
use Rattle.gc_model.specs.Steps.{with_log, place_replica, bring_up_to_date, with_collection, if_room, root_target, copy_root, apply_entry, apply_log}
use Rattle.gc_model.specs.Members.{In}
use Rattle.gc_model.specs.Belonging.{IsOpened}
use Rattle.gc_model.specs.declared.step.StepReply.{StepReply}
use Rattle.gc_model.specs.declared.step.StepReply.TheVariants.{Clean, NoRoom, Copied, Applied}
use Rattle.gc_model.proofs.Public.{Evolves, WrittenBy, unchanged, step_evolves, replicas_due, unreplicated_some, no_replica, AreReplicas}
use Rattle.gc_words.proofs.Public.{none_of}
use Rattle.gc_monitor.specs.Watch.{Watch}
use Rattle.gc_collected.specs.Internal.Stays.{DueFor, WatchFits, GoesAlong, LosesOnly, LosesNone}
use Rattle.gc_collected.proofs.Monitor.Stays.{Sound, sound, watched, brought, placed_next, moved_on}

-- the watch goes along with this collection of the state's heap
abbrev pub Goes : State → Collection → Watch → Type 0
Goes s c w = GoesAlong s.heap.graph.objects (heap_end s) c w

-- what fits a collection fits one with the same replicas
refit : (end : ℕ) (c next : Collection) (w : Watch) → next.replicas ≡ c.replicas → WatchFits end next w → WatchFits end c w
refit end c next w same f = grind (arith, common_steps)

abbrev Gives : StepReply × State → StepReply → State → Type 0
Gives x said s' = x ≡ (said, s')

-- the collection after a step with this reply
came_of : (s s' : State) (reply said : StepReply) (d next : Collection) → Gives (reply, with_collection s (Some d)) said s' → s'.collection ≡ Some next → d ≡ next
came_of s s' reply said d next h is = let e : Some d ≡ Some next = ap (λ (x : StepReply × State). x.1.collection) h ∙ is in cc

-- ---- `Roots`

pub roots_copied : (s s' : State) (c next : Collection) (w later : Watch) → IsOpened s c → Goes s c w
    → copy_root s c (root_target c s.heap.graph) ≡ (Copied, s') → s'.collection ≡ Some next
    → WatchFits (heap_end s) next later → LosesNone (new_end c) w next later → Goes s next later
roots_copied s s' c next w later k h said is fits loses = go (root_target c s.heap.graph) refl said
  where
    at : (name : ℕ) → replica_of c name ≡ None → (o : Option Collection) → place_replica c name (lookup s.heap.graph.objects name) ≡ o → if_room s Copied o ≡ (Copied, s') → Goes s next later
    at name none None e t = absurd (let no : NoRoom ≡ Copied = ap (λ (x : StepReply × State). x.0) t in cc)
    at name none (Some d) e t = placed_next s.heap.graph.objects (heap_end s) c next w later name (sound s.heap.graph.objects c k.belongs) h none (e ∙ ap Some (came_of s s' Copied Copied d next t is)) fits loses

    go : (t : Option ℕ) → root_target c s.heap.graph ≡ t → copy_root s c t ≡ (Copied, s') → Goes s next later
    go None e t = absurd (let no : Clean ≡ Copied = ap (λ (x : StepReply × State). x.0) t in cc)
    go (Some name) e t = at name (unreplicated_some c (flat_map names_of s.heap.graph.roots) name e).0 (place_replica c name (lookup s.heap.graph.objects name)) refl t

-- ---- `Scan`

-- ---- `Apply`

pub entry_applied : (s s' : State) (c next : Collection) (m : ℕ) (entry : ℕ × ℕ) (rest : List (ℕ × ℕ)) (w later : Watch) → IsOpened s c → Goes s c w
    → apply_log s c m (entry ∷ rest) ≡ (Applied, s') → s'.collection ≡ Some next
    → WatchFits (heap_end s) next later → LosesOnly (new_end c) entry.0 entry.1 w next later → Goes s next later
entry_applied s s' c next m entry rest w later k h said is fits loses = at (apply_entry c' s.heap.graph entry) refl said
  where
    c' : Collection
    c' = with_log c m rest

    fine : Sound s.heap.graph.objects c'
    fine = let f = sound s.heap.graph.objects c k.belongs in record { laid = f.laid; room = f.room; once = f.once; numbers = f.numbers }

    there : Goes s c' w
    there = moved_on s.heap.graph.objects (heap_end s) c c' w refl h

    -- an entry of an object without a replica
    skipped : replica_of c entry.0 ≡ None → c' ≡ next → Goes s next later
    skipped none same =
        let rs : next.replicas ≡ c.replicas = sym (ap (λ (x : Collection). x.replicas) same) in
        let ok : AreReplicas s.heap.graph.objects c.size (DueFor later) c.replicas =
        replicas_due s.heap.graph.objects c.size (DueFor w) (DueFor later) c.replicas (watched s.heap.graph.objects (heap_end s) c w (sound s.heap.graph.objects c k.belongs) h)
        (λ r l j n d. ⊎_elim (λ x. absurd (no_replica c entry.0 r none l x.0)) (λ x. x) (loses r (subst (In r) (sym rs) l) j n (inr d))) in
        moved_on s.heap.graph.objects (heap_end s) c next later rs (record { fits = refit (heap_end s) c next later rs fits; replicas = ok.each })

    go : (d : Collection) → d ≡ next → (b : Bool) → is_some (replica_of c entry.0) ≡ b → cond b (bring_up_to_date c' s.heap.graph entry.0 entry.1) (Some c') ≡ Some d → Goes s next later
    go d same true t f = brought s.heap.graph (heap_end s) c' next w later entry.0 entry.1 fine there (f ∙ ap Some same) fits loses
    go d same false t f = skipped (none_of (replica_of c entry.0) t) (let e : c' ≡ d = cc f in e ∙ same)

    at : (o : Option Collection) → apply_entry c' s.heap.graph entry ≡ o → if_room s Applied o ≡ (Applied, s') → Goes s next later
    at None e t = absurd (let no : NoRoom ≡ Applied = ap (λ (x : StepReply × State). x.0) t in cc)
    at (Some d) e t = go d (came_of s s' Applied Applied d next t is) (is_some (replica_of c entry.0)) refl e

-- ---- commands

pub command_evolves : (h : Roomy) (m : ℕ) (op : Op) (name : ℕ) → (let next = roomy_step h m op name in Evolves h.graph.objects next.1.graph.objects (WrittenBy h.graph m op next.0))
command_evolves h m op name =
    cond_both (nat_lt h.free (words_taken op)) _ _ (λ (next : Reply × Roomy). Evolves h.graph.objects next.1.graph.objects (WrittenBy h.graph m op next.0))
    (λ full. unchanged h.graph.objects _)
    (λ fits. step_evolves h.graph m op name)
