-- What a standing checker is told at a collector's step is true, so that it is not lost.
-- For the theorem that the monitor is never lost.
use Rattle.std.proofs.lemmas.Grind.{common_steps}
use Rattle.std.proofs.Common.{◌≡◌, inl, inr, ⊎_elim, ℕ, ◌+◌, ◌%◌, ◌<◌, ◌≤◌, true, map, length, get_or, Some, ap, sym, ◌∙◌, subst, arith, rules}
use Rattle.std.specs.Prelude.{slice_index}
use Rattle.std.proofs.lemmas.Bool.{eqb-true}
use Rattle.gc_graph.specs.Graph.{Object, lookup}
use Rattle.gc_words.specs.Word.{header_word, read_header}
use Rattle.gc_words.specs.Layout.{link_place}
use Rattle.gc_model.specs.State.{Replica, Collection, State, heap_end, new_end}
use Rattle.gc_model.specs.Linked.{LeadsTo, object_header}
use Rattle.gc_model.specs.Members.{In}
use Rattle.gc_model.specs.Belonging.{IsDue, IsSpaceGraph, IsOpened}
use Rattle.gc_model.proofs.Public.{laid_range, lookup_in, end_is, found_by_name, in_map, pair, placed, in_paired, same_original}
use Rattle.gc_monitor.specs.Claims.{CanPlaceNext, CanLook, CanApply, IsLinked}
use Rattle.gc_monitor.specs.Events.{IsClaim, IsCopy}
use Rattle.gc_monitor.specs.Origins.{pairs_in}
use Rattle.gc_monitor.specs.Tables.{Tables, watch_of}
use Rattle.gc_monitor.proofs.Public.{told}
use Rattle.gc_collected.specs.Internal.Beside.{heap_words, replica_words}
use Rattle.gc_collected.specs.Internal.Knows.{Knows, Marks}
use Rattle.gc_collected.specs.Internal.Stays.{WatchFits}
use Rattle.gc_collected.proofs.Monitor.Agree.{original_shown, replicas_shown, same_header}
use Rattle.gc_collected.proofs.Monitor.Beside.{pair_stays}
use Rattle.gc_collected.proofs.Monitor.Events.{Goes}
use Rattle.gc_collected.proofs.Monitor.Growth.{IsAdded, Adds}

-- the original that a row has for a replica
pub origin_is : (end : ℕ) (c : Collection) (t : Tables) (r : Replica) → WatchFits end c (watch_of t) → In r c.replicas → 1 ≤ r.original → get_or t.origins r.place 0 ≡ r.original
origin_is end c t r fits l low =
    let listed : In {X = ℕ × ℕ} (r.original, r.place) (pairs_in t.origins) = subst (In {X = ℕ × ℕ} (r.original, r.place)) (sym fits.pairs) (in_map pair r c.replicas l) in
    eqb-true (get_or t.origins r.place 0) r.original (sym (told t.origins r.original r.place low) ∙ in_paired (pairs_in t.origins) r.original r.place listed)

module _ (s : State) (next : Collection) (links : ℕ → ℕ) (heap : IsSpaceGraph s.size s.heap.free s.heap.graph) (opened : IsOpened s next) where
  -- where the original of a replica is
  pub record IsAt (r : Replica) : Type 0 where
    pub low : 1 ≤ r.original
    pub within : r.original + (length r.object.fields + 2) ≤ length (heap_words links s)
    pub high : length (heap_words links s) ≤ 4294967295
    pub place_low : 1 ≤ r.place
    pub place_within : r.place + (length r.object.fields + 2) ≤ new_end next
    pub place_high : new_end next ≤ 4294967295

  pub is_at : (r : Replica) → In r next.replicas → IsAt r
  is_at r l =
      let ok = opened.belongs.replicas r l in
      let old = laid_range 1 s.heap.graph.objects (heap_end s) (r.original, ok.original) heap.laid (lookup_in s.heap.graph.objects r.original ok.original ok.found) in
      let new = laid_range 1 (map placed next.replicas) (new_end next) (placed r) opened.belongs.laid (in_map placed r next.replicas l) in
      let count : length (heap_words links s) ≡ heap_end s = end_is links s.size s.heap.free s.heap.graph heap in
      let len : length r.object.fields ≡ length ok.original.fields = ok.len in
      let a : 1 ≤ r.original = old.0 in
      let b : r.original + (length ok.original.fields + 2) ≤ heap_end s = old.1 in
      let size : s.size ≤ 4294967295 = heap.high in
      let x : 1 ≤ r.place = new.0 in
      let y : r.place + (length r.object.fields + 2) ≤ new_end next = new.1 in
      let room : new_end next ≤ next.size = opened.belongs.room in
      let small : next.size ≤ 4294967295 = opened.size in
      record { low = a; within = omega arith; high = omega arith; place_low = x; place_within = y; place_high = omega arith }

  -- a field of a replica can be compared
  pub can_look : (t : Tables) (r : Replica) (i : ℕ) → In r next.replicas → WatchFits (heap_end s) next (watch_of t) → i < length r.object.fields → CanLook (heap_words links s) (replica_words next) r.place i t
  can_look t r i l fits small = search (rules, is_at, replicas_shown, origin_is)

  -- the low bits of an original's link lead to its replica
  pub linked : (t : Tables) (r : Replica) → In r next.replicas → LeadsTo links next → WatchFits (heap_end s) next (watch_of t) → IsLinked (heap_words links s) t r.original r.place
  linked t r l lead fits =
      let at = is_at r l in
      let a : r.original + (length r.object.fields + 2) ≤ length (heap_words links s) = at.within in
      let b : r.place + (length r.object.fields + 2) ≤ new_end next = at.place_within in
      let high : new_end next ≤ 4294967295 = at.place_high in
      record {
        low = at.low;
        within = omega arith;
        link = ap (λ n. n % 4294967296) (original_shown s next links heap opened r l).link_is ∙ lead r.original r (found_by_name (IsDue next) s.heap.graph.objects next opened.belongs r l);
        high = omega arith;
        origin = origin_is (heap_end s) next t r fits l at.low;
      }

  -- an entry can be applied
  pub can_apply : (t : Tables) (a i : ℕ) → LeadsTo links next → WatchFits (heap_end s) next (watch_of t) → Marks s.heap.graph.objects next.replicas t
      → ((o : Object) → lookup s.heap.graph.objects a ≡ Some o → i < length o.fields) → CanApply (heap_words links s) (replica_words next) a i t
  can_apply t a i lead fits marks has taken =
      let r = marks.taken a taken in
      let ok = opened.belongs.replicas r.0 r.1 in
      let small : i < length ok.original.fields = has ok.original (ap (lookup s.heap.graph.objects) (sym r.2) ∙ ok.found) in
      let len : length r.0.object.fields ≡ length ok.original.fields = ok.len in (
        r.0.place,
        subst (λ n. IsLinked (heap_words links s) t n r.0.place) r.2 (linked t r.0 r.1 lead fits),
        can_look t r.0 i r.1 fits (omega arith),
      )

module _ (s : State) (c next : Collection) (t : Tables) (links : ℕ → ℕ) (heap : IsSpaceGraph s.size s.heap.free s.heap.graph) (before : IsOpened s c) (opened : IsOpened s next) (goes : Goes s c (watch_of t)) (knows : Knows s c t) where
  -- a new replica's original had none
  was_free : (q : Replica) → IsAdded c next q → (r : Replica) → In r c.replicas → r.original ≡ q.original → ⊥
  was_free q added r l same =
      let p = pair_stays c next r (inr (q, added)) l in
      let kin : p.0.original ≡ q.original = ap (λ (p : ℕ × ℕ). p.0) p.2 ∙ same in
      let is : p.0 ≡ q = same_original next.replicas p.0 q opened.belongs.once p.1 added.there kin in
      let place : r.place ≡ q.place = sym (ap (λ (p : ℕ × ℕ). p.1) p.2) ∙ ap (λ (r : Replica). r.place) is in
      let range = laid_range 1 (map placed c.replicas) (new_end c) (placed r) before.belongs.laid (in_map placed r c.replicas l) in
      let high : r.place + (length r.object.fields + 2) ≤ new_end c = range.1 in
      let here : q.place ≡ new_end c = added.place in
      absurd (omega arith)

  -- so its claim is true
  pub true_claim : (q : Replica) → IsAdded c next q → IsClaim (heap_words links s) (replica_words next) t (object_header q.object) q.original
  true_claim q added =
      let shows = (replicas_shown s next links heap opened).each q added.there in
      let was = original_shown s next links heap opened q added.there in
      let at = is_at s next links heap opened q added.there in
      let place : length t.news ≡ q.place = goes.fits.new_seen ∙ sym added.place in
      let fits : q.place + (length q.object.fields + 2) ≤ length (replica_words next) = shows.fits in
      let count : length (replica_words next) ≡ new_end next = (replicas_shown s next links heap opened).count in
      let high : new_end next ≤ 4294967295 = at.place_high in
      let within : q.original + (length q.object.fields + 2) ≤ length (heap_words links s) = at.within in
      let ok = opened.belongs.replicas q added.there in
      record {
        next = record {
          header = ap (λ n. read_header (slice_index (replica_words next) n)) place ∙ shows.header;
          within = omega arith;
          bound = omega arith;
        };
        rows = knows.agree.rows;
        link = ap (λ n. slice_index (replica_words next) (link_place n)) place ∙ shows.link_is;
        low = at.low;
        within = omega arith;
        start = ⊎_elim (λ one. one) (λ two. absurd (let r = knows.marks.taken q.original two in was_free q added r.0 r.1 r.2))
            (knows.marks.olds q.original (ok.original, lookup_in s.heap.graph.objects q.original ok.original ok.found));
        header = was.word ∙ (ap header_word (sym (same_header s next links heap opened q added.there)) ∙ (sym shows.word ∙ ap (slice_index (replica_words next)) (sym place)));
      }

  pub can_place : Adds c next → next.size ≡ c.size → CanPlaceNext (heap_words links s) (replica_words next) t
  can_place (inl h) size less = grind (arith, common_steps, (replicas_shown s next links heap opened).count)
  can_place (inr (q, added)) size less = grind (arith, common_steps, true_claim q added, (is_at s next links heap opened q added.there).within, (is_at s next links heap opened q added.there).high)

  -- a raw replica that is its original is a copy
  pub is_copy : (q : Replica) (added : IsAdded c next q) → q.object.raw ≡ true → q.object ≡ (opened.belongs.replicas q added.there).original → IsCopy (heap_words links s) (replica_words next) (object_header q.object) q.original (length t.news)
  is_copy q added raw same = grind (arith, common_steps, (replicas_shown s next links heap opened).each q added.there, original_shown s next links heap opened q added.there)
