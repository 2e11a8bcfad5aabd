-- The tables of a standing checker beside a heap's state, through the collector's steps.
-- For the theorem that the monitor follows its heap.
use Rattle.std.proofs.lemmas.Grind.{common_steps}
use Rattle.std.proofs.Common.{◌≡◌, inl, inr, ⊎_elim, ℕ, Bool, true, false, cond, List, ◌∷◌, map, Option, Some, None, is_some, refl, ap, sym, subst, arith}
use Rattle.gc_model.specs.State.{Replica, Collection, State, heap_end, new_end, replica_of}
use Rattle.gc_model.specs.Steps.{with_log, place_replica, bring_up_to_date, if_room, root_target, copy_root, apply_entry, apply_log}
use Rattle.gc_model.specs.Members.{In}
use Rattle.gc_model.specs.Belonging.{IsOpened, IsSpaceGraph}
use Rattle.gc_model.specs.declared.step.StepReply.{StepReply}
use Rattle.gc_model.specs.declared.step.StepReply.TheVariants.{Clean, NoRoom, Copied, Applied}
use Rattle.gc_model.proofs.Public.{in_map, in_map_from, in_left, pair}
use Rattle.gc_monitor.specs.Tables.{Tables, watch_of}
use Rattle.gc_monitor.specs.Events.{Placed, Applied as AppliedTo}
use Rattle.gc_collected.specs.Internal.Beside.{replica_words}
use Rattle.gc_collected.proofs.Monitor.Events.{Goes, roots_copied, entry_applied}
use Rattle.gc_collected.proofs.Monitor.Growth.{IsAdded, HasSame, Adds, adds_none, adds_placed, adds_brought}
use Rattle.gc_collected.proofs.Monitor.Told.{ShowsReplicas, shows_replicas, Told, told_placed, told_applied}

-- an original keeps its replica's place
pub pair_stays : (c next : Collection) (r : Replica) → Adds c next → In r c.replicas → (q : Replica) × In q next.replicas × (pair q ≡ pair r)
pair_stays c next r adds l = in_map_from pair (pair r) next.replicas (⊎_elim
    (λ (h : HasSame c next). subst (In (pair r)) (sym h.pairs) (in_map pair r c.replicas l))
    (λ (h : (r : Replica) × IsAdded c next r). subst (In (pair r)) (sym h.1.pairs) (in_left (pair r) (map pair c.replicas) _ (in_map pair r c.replicas l)))
    adds)

module _ (s : State) (c : Collection) (t : Tables) (heap : IsSpaceGraph s.size s.heap.free s.heap.graph) (opened : IsOpened s c) (goes : Goes s c (watch_of t)) where
  shown : (next : Collection) → IsOpened s next → ShowsReplicas next (replica_words next)
  shown next k = shows_replicas s next heap k

  told_by : (old : List ℕ) (next : Collection) (after : Tables) → IsOpened s next → Adds c next → Placed old (replica_words next) t after → Told (heap_end s) c next t after
  told_by old next after k adds is = told_placed (heap_end s) c next (replica_words next) t goes.fits (shown next k) old after adds is

  pub roots_go : (old : List ℕ) (after : Tables) (next : Collection) (s' : State) → IsOpened s next → copy_root s c (root_target c s.heap.graph) ≡ (Copied, s') → s'.collection ≡ Some next
      → Placed old (replica_words next) t after → Goes s next (watch_of after)
  roots_go old after next s' k said is placed = go (root_target c s.heap.graph) refl said
    where
      adds : (name : ℕ) (o : Option Collection) → place_replica c name (Rattle.gc_graph.specs.Graph.lookup s.heap.graph.objects name) ≡ o → if_room s Copied o ≡ (Copied, s') → Adds c next
      adds name None e u = absurd (let no : NoRoom ≡ Copied = ap (λ (x : StepReply × State). x.0) u in cc)
      adds name (Some d) e u = grind (arith, common_steps, adds_placed)

      go : (o : Option ℕ) → root_target c s.heap.graph ≡ o → copy_root s c o ≡ (Copied, s') → Goes s next (watch_of after)
      go None e u = absurd (let no : Clean ≡ Copied = ap (λ (x : StepReply × State). x.0) u in cc)
      go (Some name) e u =
          let h = told_by old next after k (adds name _ refl u) placed in
          roots_copied s s' c next (watch_of t) (watch_of after) opened goes said is h.0 h.1

  pub apply_go : (old : List ℕ) (mid after : Tables) (m : ℕ) (entry : ℕ × ℕ) (rest : List (ℕ × ℕ)) (next : Collection) (s' : State) → IsOpened s next → apply_log s c m (entry ∷ rest) ≡ (Applied, s') → s'.collection ≡ Some next
      → Placed old (replica_words next) t mid → AppliedTo old (replica_words next) entry.0 entry.1 mid after → Goes s next (watch_of after)
  apply_go old mid after m entry rest next s' k said is placed applied =
      let h = told_by old next mid k adds placed in
      let l = told_applied (heap_end s) (new_end c) (watch_of t) next (replica_words next) (shown next k) old mid after entry.0 entry.1 h.0 h.1 applied in
      entry_applied s s' c next m entry rest (watch_of t) (watch_of after) opened goes said is l.0 l.1
    where
      c' : Collection
      c' = with_log c m rest

      with_old : (d : Collection) → Adds c' d → Adds c d
      with_old d (inl h) = inl (record { pairs = h.pairs; end = h.end })
      with_old d (inr h) = inr (h.0, record { there = h.1.there; place = h.1.place; pairs = h.1.pairs; end = h.1.end })

      added : (d : Collection) (b : Bool) → cond b (bring_up_to_date c' s.heap.graph entry.0 entry.1) (Some c') ≡ Some d → Adds c' d
      added d true e = adds_brought c' d s.heap.graph entry.0 entry.1 e
      added d false e = let same : c' ≡ d = cc e in subst (Adds c') same (adds_none c')

      at : (o : Option Collection) → apply_entry c' s.heap.graph entry ≡ o → if_room s Applied o ≡ (Applied, s') → Adds c next
      at None e u = absurd (let no : NoRoom ≡ Applied = ap (λ (x : StepReply × State). x.0) u in cc)
      at (Some d) e u =
          let came : d ≡ next = (let a : Some d ≡ s'.collection = ap (λ (x : StepReply × State). x.1.collection) u in cc) in
          subst (Adds c) came (with_old d (added d (is_some (replica_of c entry.0)) e))

      adds : Adds c next
      adds = at (apply_entry c' s.heap.graph entry) refl said
