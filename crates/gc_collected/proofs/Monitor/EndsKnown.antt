-- The tables of a standing checker know the heap where a collection begins, is given up, or ends in a flip.
-- For the theorem that the monitor is never lost.
use Rattle.std.proofs.lemmas.Grind.{common_steps}
use Rattle.std.proofs.Common.{◌≡◌, ◌≢◌, inl, inr, ⊎_elim, ℕ, suc, ◌≤◌, [], ◌∷◌, map, get_or, None, refl, ap, sym, ◌∙◌, subst, arith}
use Rattle.gc_graph.specs.Graph.{Object}
use Rattle.gc_model.specs.State.{Collection, State, heap_end}
use Rattle.gc_model.specs.Steps.{flipped, fresh_collection}
use Rattle.gc_model.specs.Members.{In}
use Rattle.gc_model.specs.Belonging.{IsNamed, IsOpened, IsSpaceGraph}
use Rattle.gc_model.proofs.Public.{laid_range, lookup_in, in_map, in_map_from, placed}
use Rattle.gc_monitor.specs.Events.{Freed, flipped_tables, opening_tables}
use Rattle.gc_monitor.specs.Tables.{Tables, watch_of}
use Rattle.gc_monitor.specs.Telling.{IsMark}
use Rattle.gc_collected.specs.Internal.Knows.{Knows, KnowsAll}
use Rattle.gc_collected.proofs.Monitor.Claimed.{origin_is}
use Rattle.gc_collected.proofs.Monitor.Events.{Goes}

only_zero : (b n : ℕ) → get_or (0 ∷ []) b 0 ≡ suc n → ⊥
only_zero b n e = grind (arith, common_steps)

-- tables of an empty new space know a collection that is just begun
knows_fresh : (s : State) (size : ℕ) (t : Tables) → t.news ≡ 0 ∷ [] → t.origins ≡ 0 ∷ [] → t.missing ≡ 0
    → ((a : ℕ) → IsNamed s.heap.graph.objects a → IsMark (get_or t.olds a 0)) → ((a : ℕ) → IsMark (get_or t.olds a 0) → IsNamed s.heap.graph.objects a) → ((a : ℕ) → get_or t.olds a 0 ≢ 2)
    → s.size ≤ t.room → size ≤ t.room → Knows s (fresh_collection s.mutators size) t
knows_fresh s size t news origins missing marked starts free old_room new_room = grind (arith, common_steps, only_zero)

-- a heap without objects
pub opened_known : (s : State) (size : ℕ) → s.heap.graph.objects ≡ [] → s.collection ≡ None → s.size ≤ size → 1 ≤ size → KnowsAll s (opening_tables size)
opened_known s size empty closed room low = grind (arith, common_steps, knows_fresh, only_zero)

-- a larger or smaller space is begun
pub begun_known : (s : State) (before size : ℕ) (t after : Tables) → after ≡ record t { room = after.room } → s.size ≤ after.room → size ≤ after.room → Knows s (fresh_collection s.mutators before) t → Knows s (fresh_collection s.mutators size) after
begun_known s before size t after more old_room new_room knows = grind (arith, common_steps)

-- the collection is given up
pub dropped_known : (s : State) (c : Collection) (t after : Tables) → IsSpaceGraph s.size s.heap.free s.heap.graph → IsOpened s c → Goes s c (watch_of t) → Knows s c t → 1 ≤ t.room → Freed t after → Knows s (fresh_collection s.mutators 1) after
dropped_known s c t after heap opened goes knows low freed =
    knows_fresh s 1 after (ap (λ (x : Tables). x.news) freed.rest) (ap (λ (x : Tables). x.origins) freed.rest) (ap (λ (x : Tables). x.missing) freed.rest) marked starts free
    (let room : after.room ≡ t.room = ap (λ (x : Tables). x.room) freed.rest in let r : s.size ≤ t.room = knows.old_room in omega arith)
    (let room : after.room ≡ t.room = ap (λ (x : Tables). x.room) freed.rest in omega arith)
  where
    marked : (a : ℕ) → IsNamed s.heap.graph.objects a → IsMark (get_or after.olds a 0)
    marked a named = ⊎_elim (λ same. subst IsMark (sym same) (knows.marks.olds a named)) (λ h. inl h.1) (freed.codes a)

    starts : (a : ℕ) → IsMark (get_or after.olds a 0) → IsNamed s.heap.graph.objects a
    starts a mark = knows.marks.starts a (⊎_elim (λ same. subst IsMark same mark) (λ h. inr h.0) (freed.codes a))

    free : (a : ℕ) → get_or after.olds a 0 ≢ 2
    free a e =
        let was : get_or t.olds a 0 ≡ 2 = ⊎_elim (λ same. sym same ∙ e) (λ h. h.0) (freed.codes a) in
        let r = knows.marks.taken a was in
        let ok = opened.belongs.replicas r.0 r.1 in
        let range = laid_range 1 s.heap.graph.objects (heap_end s) (r.0.original, ok.original) heap.laid (lookup_in s.heap.graph.objects r.0.original ok.original ok.found) in
        let above : 1 ≤ r.0.original = range.0 in
        let origin : get_or t.origins r.0.place 0 ≡ r.0.original = origin_is (heap_end s) c t r.0 goes.fits r.1 above in
        let one : get_or after.olds (get_or t.origins r.0.place 0) 0 ≡ 1 = freed.freed r.0.place (omega arith) in
        let here : get_or after.olds a 0 ≡ 1 = ap (λ n. get_or after.olds n 0) (sym (origin ∙ r.2)) ∙ one in
        absurd (let no : 1 ≡ 2 = sym here ∙ e in omega arith)

-- the new space is the old one
pub flipped_known : (s : State) (c : Collection) (t : Tables) → IsOpened s c → Knows s c t → 1 ≤ t.room → KnowsAll (flipped s c) (flipped_tables t)
flipped_known s c t opened knows low =
    knows_fresh (flipped s c) 1 (flipped_tables t) refl refl refl
    (λ a named. (let r = in_map_from placed (a, named.0) c.replicas named.1 in inl (ap (λ n. get_or t.news n 0) (sym (ap (λ (e : ℕ × Object). e.0) r.2)) ∙ knows.marks.news r.0 r.1)))
    (λ a mark. ⊎_elim
    (λ e. (let r = knows.marks.places a e in (r.0.object, subst (λ n. In {X = ℕ × Object} (n, r.0.object) (map placed c.replicas)) r.2 (in_map placed r.0 c.replicas r.1))))
    (λ e. absurd (knows.marks.free a e))
    mark)
    knows.marks.free knows.new_room low
