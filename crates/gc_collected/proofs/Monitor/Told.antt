-- What the events of a standing checker say of a watch beside a collection.
-- For the theorem that the monitor follows its heap.
use Rattle.std.proofs.lemmas.Grind.{common_steps}
use Rattle.std.proofs.Common.{◌≡◌, inl, inr, ⊎_elim, ℕ, zero, suc, ◌+◌, ◌<◌, ◌≤◌, ◌==◌, Bool, true, false, List, [], ◌∷◌, ◌++◌, map, length, get_or, set, replicate, Some, refl, ap, sym, ◌∙◌, subst, arith, length-append, length-set, Option}
use Rattle.std.specs.Prelude.{slice_index}
use Rattle.std.specs.Option.{option_map_or}
use Rattle.std.proofs.lemmas.List.{length-map, get_or-append-add, get_or-set_other, get_or-set_same}
use Rattle.std.proofs.lemmas.Bool.{cases_eq, eq-eqb, eqb-true}
use Rattle.gc_graph.specs.Graph.{Object}
use Rattle.gc_words.specs.Word.{read_header}
use Rattle.gc_words.specs.Layout.{field_place, link_place}
use Rattle.gc_words.specs.declared.header.Header.{Header}
use Rattle.gc_model.specs.Linked.{object_header, linked_space, new_links}
use Rattle.gc_model.specs.State.{Replica, Collection, State, new_end, new_objects, pairs_of}
use Rattle.gc_model.specs.Members.{In, Distinct}
use Rattle.gc_model.specs.Belonging.{Laid, IsOpened, IsSpaceGraph}
use Rattle.gc_model.proofs.Public.{laid_range, laid_apart, lookup_in, found_by_place, in_map, in_map_from, pair, placed, paired_in, in_paired, same_original, same_place}
use Rattle.gc_monitor.specs.Watch.{Watch, is_due}
use Rattle.gc_collected.specs.Internal.Stays.{WatchFits, LosesOnly, LosesNone, MarksWritten}
use Rattle.gc_monitor.specs.Origins.{pairs_in}
use Rattle.gc_monitor.specs.Tables.{Tables, watch_of, due_in}
use Rattle.gc_monitor.specs.Events.{code_of, object_codes, IsClaim, Placed, replica_added, with_due, Looked, Wrote, Applied, IsReplicaAt}
use Rattle.gc_monitor.proofs.Public.{placed as pairs_placed, told, code_set, set_true, true_stays, map_append, codes_length, code_is}
use Rattle.gc_collected.proofs.Monitor.Shown.{Shows, AreSized, shown_at, shown_length}
use Rattle.gc_collected.proofs.Monitor.Growth.{IsAdded, Adds}

-- the words of the new space show its replicas and their links
pub record ShowsReplicas (c : Collection) (words : List ℕ) : Type 0 where
  pub laid : Laid 1 (map placed c.replicas) (new_end c)
  pub count : length words ≡ new_end c
  pub each : (r : Replica) → In r c.replicas → Shows words r.original r.place r.object

link_of : (s : State) (c : Collection) (r : Replica) → IsOpened s c → In r c.replicas → new_links c r.place ≡ r.original
link_of s c r k there = ap (λ (o : Option Replica). option_map_or (λ (r : Replica). r.original) o 0) (found_by_place (Rattle.gc_model.specs.Belonging.IsDue c) s.heap.graph.objects c k.belongs r there)

pub shows_replicas : (s : State) (c : Collection) → IsSpaceGraph s.size s.heap.free s.heap.graph → IsOpened s c → ShowsReplicas c (linked_space (new_links c) c.size (new_objects c)).words
shows_replicas s c h k = record {
  laid = k.belongs.laid;
  count = shown_length (new_links c) (new_objects c) (new_end c) k.belongs.laid;
  each = λ r there.
      let at = shown_at (new_links c) (new_objects c) (new_end c) r.place r.object k.belongs.laid sized (in_map placed r c.replicas there) in
      record { header = at.header; link_is = at.link_is ∙ link_of s c r k there; word = at.word; fits = at.fits; fields = at.fields };
}
  where
    sized : AreSized (new_objects c)
    sized e l =
        let from = in_map_from placed e c.replicas l in
        let ok = k.belongs.replicas from.0 from.1 in
        let o = h.objects from.0.original ok.original (lookup_in s.heap.graph.objects from.0.original ok.original ok.found) in
        let kind : from.0.object.kind ≡ ok.original.kind = ok.kind in
        let len : length from.0.object.fields ≡ length ok.original.fields = ok.len in
        let small : ok.original.kind < 256 = o.kind in
        let short : length ok.original.fields < 65536 = o.len in
        let e_kind : from.0.object.kind ≡ e.1.kind = ap (λ (e : ℕ × Object). e.1.kind) from.2 in
        let e_len : length from.0.object.fields ≡ length e.1.fields = ap (λ (e : ℕ × Object). length e.1.fields) from.2 in
        ((let n : e.1.kind < 256 = omega arith in n), (let n : length e.1.fields < 65536 = omega arith in n))

abbrev pub Told : ℕ → Collection → Collection → Tables → Tables → Type 0
Told end c next t after = WatchFits end next (watch_of after) × LosesNone (new_end c) (watch_of t) next (watch_of after)

module _ (end : ℕ) (c next : Collection) (words : List ℕ) (t : Tables) (fits : WatchFits end c (watch_of t)) (shows : ShowsReplicas next words) where
  none_behind : (r : Replica) → In r next.replicas → new_end next ≤ r.place → ⊥
  none_behind r l past = let range = laid_range 1 (map placed next.replicas) (new_end next) (placed r) shows.laid (in_map placed r next.replicas l) in let high = range.1 in omega arith

  told_one : (old : List ℕ) (q : Replica) (h : Header) (a : ℕ) (due : Bool) → IsAdded c next q → IsClaim old words t h a → (due ≡ false → h.raw ≡ true) → Told end c next t (replica_added t h a due)
  told_one old q h a due added claim whole = (
    record {
      pairs =
          pairs_placed t.origins a (suc h.len) claim.low
          ∙ (λ i. (let p : pairs_in t.origins ≡ pairs_of c = fits.pairs in p i) ++ (original i, here i) ∷ [])
          ∙ sym added.pairs;
      old_seen = length-set t.olds a 2 ∙ fits.old_seen;
      new_seen = length-append t.news (object_codes h.len (code_of due)) ∙ (let e : new_end next ≡ new_end c + (length q.object.fields + 2) = added.end in let s : length t.news ≡ new_end c = fits.new_seen in let n : h.len ≡ length q.object.fields = len in omega (arith, codes_length h.len (code_of due)));
      row = length-map (t.news ++ object_codes h.len (code_of due)) (λ code. code == 3);
    },
    λ r l j m d. ⊎_elim
        (λ x. new_due r l j m x.0 x.1)
        (λ x. ap (λ bs. get_or bs (field_place r.place j) false) (map_append t.news (object_codes h.len (code_of due))) ∙ true_stays (due_in t.news) (due_in (object_codes h.len (code_of due))) (field_place r.place j) x)
        d,
  )
    where
      place : length t.news ≡ q.place
      place = fits.new_seen ∙ sym added.place

      header : h ≡ object_header q.object
      header = let one : Some h ≡ Some (object_header q.object) = sym claim.next.header ∙ (ap (λ n. read_header (slice_index words n)) place ∙ (shows.each q added.there).header) in cc

      len : h.len ≡ length q.object.fields
      len = ap (λ (h : Header). h.len) header

      original : a ≡ q.original
      original = sym claim.link ∙ (ap (λ n. slice_index words (link_place n)) place ∙ (shows.each q added.there).link_is)

      here : length t.origins ≡ new_end c
      here = claim.rows ∙ fits.new_seen

      is_due_new : (b : Bool) → b ≡ due → (j : ℕ) → j < h.len → due ≡ true → get_or (due_in (t.news ++ object_codes h.len (code_of due))) (length t.news + suc (suc j)) false ≡ true
      is_due_new b e j m t_is =
          ap (λ bs. get_or bs (length t.news + suc (suc j)) false) (map_append t.news (object_codes h.len (code_of due)))
          ∙ (ap (λ n. get_or (due_in t.news ++ due_in (object_codes h.len (code_of due))) (n + suc (suc j)) false) (sym (length-map t.news (λ code. code == 3)))
          ∙ (get_or-append-add (due_in t.news) (due_in (object_codes h.len (code_of due))) (suc (suc j)) false
          ∙ (ap (λ d. get_or (due_in (replicate h.len (code_of d))) j false) t_is ∙ marks h.len j m)))
        where
          marks : (n j : ℕ) → j < n → get_or (due_in (replicate n 3)) j false ≡ true
          marks zero j l = absurd (omega arith)
          marks (suc n) zero l = refl
          marks (suc n) (suc j) l = marks n j (omega arith)

      new_due : (r : Replica) → In r next.replicas → (j : ℕ) → j < length r.object.fields → r.object.raw ≡ false → new_end c ≤ r.place → is_due (watch_of (replica_added t h a due)) r.place j ≡ true
      new_due r l j m plain behind =
          let same : r ≡ q = ⊎_elim
          (λ e. same_place 1 next.replicas (new_end next) r q shows.laid l added.there (ap (λ (e : ℕ × Object). e.0) e))
          (⊎_elim
          (λ before. absurd (let b : r.place + (length r.object.fields + 2) ≤ q.place = before in let p : q.place ≡ new_end c = added.place in omega arith))
          (λ after. absurd (none_behind r l (let b : q.place + (length q.object.fields + 2) ≤ r.place = after in let p : q.place ≡ new_end c = added.place in let e : new_end next ≡ new_end c + (length q.object.fields + 2) = added.end in omega arith))))
          (laid_apart 1 (map placed next.replicas) (new_end next) (placed r) (placed q) shows.laid (in_map placed r next.replicas l) (in_map placed q next.replicas added.there)) in
          let r_place : r.place ≡ q.place = ap (λ (r : Replica). r.place) same in
          let r_len : length r.object.fields ≡ length q.object.fields = ap (λ (r : Replica). length r.object.fields) same in
          let r_raw : r.object.raw ≡ h.raw = ap (λ (r : Replica). r.object.raw) same ∙ sym (ap (λ (h : Header). h.raw) header) in
          let due_is : due ≡ true = (elim (Rattle.std.proofs.lemmas.Bool.cases_Bool due) [
            | inl y ↦ y
            | inr n ↦ absurd (let w : true ≡ false = sym (whole n) ∙ (sym r_raw ∙ plain) in cc)
          ]) in
          let at : length t.news + suc (suc j) ≡ field_place r.place j = (let p : length t.news ≡ q.place = place in omega arith) in
          subst (λ n. get_or (due_in (t.news ++ object_codes h.len (code_of due))) n false ≡ true) at (is_due_new due refl j (let n : h.len ≡ length q.object.fields = len in omega arith) due_is)

  -- a walk over the new space
  pub told_placed : (old : List ℕ) (after : Tables) → Adds c next → Placed old words t after → Told end c next t after
  told_placed old after (inl h) is = grind (arith, common_steps, none_behind)
  told_placed old after (inr (q, added)) is =
      let m = is.more (let a : length words ≡ new_end next = shows.count in let b : new_end next ≡ new_end c + (length q.object.fields + 2) = added.end in let s : length t.news ≡ new_end c = fits.new_seen in omega arith) in
      ⊎_elim
      (λ e. subst (Told end c next t) (sym e) (told_one old q m.0 m.1 true added m.2 (λ no. absurd (let n : true ≡ false = no in cc))))
      (λ e. subst (Told end c next t) (sym e.1) (told_one old q m.0 m.1 false added m.2 (λ no. e.0.raw)))
      m.3

-- ---- one place due or not

pub marked_at : (t : Tables) (place : ℕ) (x : Bool) → due_in (set t.news place (code_of x)) ≡ set (due_in t.news) place x
marked_at t place x = code_set t.news place (code_of x) ∙ ap (set (due_in t.news) place) (code_is x)

pub fits_marked : (end : ℕ) (c : Collection) (t : Tables) (place : ℕ) (x : Bool) → WatchFits end c (watch_of t) → WatchFits end c (watch_of (with_due t place x))
fits_marked end c t place x f = grind (arith, common_steps, length-map)

-- the pair of a replica that was seen
pub replica_there : (end : ℕ) (c : Collection) (t : Tables) → WatchFits end c (watch_of t) → (a b : ℕ) → IsReplicaAt t a b → (q : Replica) × In q c.replicas × (pair q ≡ (a, b))
replica_there end c t fits a b at =
    let listed : In {X = ℕ × ℕ} (a, b) (pairs_in t.origins) = paired_in (pairs_in t.origins) a b (told t.origins a b at.low ∙ eq-eqb (get_or t.origins b 0) a at.origin) in
    in_map_from pair (a, b) c.replicas (subst (In {X = ℕ × ℕ} (a, b)) fits.pairs listed)

module _ (end : ℕ) (e : ℕ) (w : Watch) (next : Collection) (words : List ℕ) (shows : ShowsReplicas next words) where
  -- one place of a field marked or not
  pub told_marked : (t : Tables) (x : Bool) (q : Replica) (b i : ℕ) → In q next.replicas → q.place ≡ b → i < length q.object.fields → WatchFits end next (watch_of t) → LosesNone e w next (watch_of t)
      → WatchFits end next (watch_of (with_due t (field_place b i) x)) × LosesOnly e q.original i w next (watch_of (with_due t (field_place b i) x))
  told_marked t x q b i there at small fits loses = (
    fits_marked end next t (field_place b i) x fits,
    λ r l j m d. elim (cases_eq (field_place r.place j) (field_place b i)) [
      | inl same ↦ inl (one_field r l j m q there i small (let s : field_place r.place j ≡ field_place b i = same in let p : q.place ≡ b = at in omega arith))
      | inr other ↦ inr (ap (λ bs. get_or bs (field_place r.place j) false) (marked_at t (field_place b i) x) ∙ (get_or-set_other (due_in t.news) (field_place b i) (field_place r.place j) x false other ∙ loses r l j m d))
    ],
  )
    where
      one_field : (r : Replica) → In r next.replicas → (j : ℕ) → j < length r.object.fields → (q : Replica) → In q next.replicas → (i : ℕ) → i < length q.object.fields → field_place r.place j ≡ field_place q.place i → (r.original ≡ q.original) × (j ≡ i)
      one_field r l j m q k i n same = ⊎_elim
          (λ e. (let place : r.place ≡ q.place = ap (λ (e : ℕ × Object). e.0) e in
          (ap (λ (r : Replica). r.original) (same_place 1 next.replicas (new_end next) r q shows.laid l k place), omega arith)))
          (⊎_elim (λ before. absurd (let b : r.place + (length r.object.fields + 2) ≤ q.place = before in omega arith)) (λ after. absurd (let b : q.place + (length q.object.fields + 2) ≤ r.place = after in omega arith)))
          (laid_apart 1 (map placed next.replicas) (new_end next) (placed r) (placed q) shows.laid (in_map placed r next.replicas l) (in_map placed q next.replicas k))

  -- a field compared, of the replica of this object
  told_looked : (old : List ℕ) (t after : Tables) (q : Replica) (b i : ℕ) → In q next.replicas → q.place ≡ b → WatchFits end next (watch_of t) → LosesNone e w next (watch_of t) → Looked old words b i t after
      → WatchFits end next (watch_of after) × LosesOnly e q.original i w next (watch_of after)
  told_looked old t after q b i there at fits loses is = grind (arith, common_steps, told_marked)

  -- where nothing was compared
  told_same : (name i : ℕ) (t : Tables) → LosesNone e w next (watch_of t) → LosesOnly e name i w next (watch_of t)
  told_same name i t loses r l j m d = inr (loses r l j m d)

  -- an original's pair
  pub told_applied : (old : List ℕ) (t after : Tables) (a i : ℕ) → WatchFits end next (watch_of t) → LosesNone e w next (watch_of t) → Applied old words a i t after
      → WatchFits end next (watch_of after) × LosesOnly e a i w next (watch_of after)
  told_applied old t after a i fits loses (inl h) = subst (λ (t' : Tables). WatchFits end next (watch_of t') × LosesOnly e a i w next (watch_of t')) (sym h.1) (fits, told_same a i t loses)
  told_applied old t after a i fits loses (inr (b, at, looked)) =
      let q = replica_there end next t fits a b at in
      let is : q.0.original ≡ a = ap (λ (p : ℕ × ℕ). p.0) q.2 in
      subst (λ n. WatchFits end next (watch_of after) × LosesOnly e n i w next (watch_of after)) is
      (told_looked old t after q.0 b i q.1 (ap (λ (p : ℕ × ℕ). p.1) q.2) fits loses looked)

-- ---- a field written

pub told_wrote : (objects : List (ℕ × Object)) (end : ℕ) (c : Collection) (t after : Tables) (a i : ℕ) (Written : ℕ → ℕ → Type 0) → Distinct (map (λ r. r.original) c.replicas) → 1 ≤ a
    → ((x j : ℕ) → Written x j → (x ≡ a) × (j ≡ i)) → WatchFits end c (watch_of t) → Wrote a i t after → WatchFits end c (watch_of after) × MarksWritten Written (watch_of t) c (watch_of after)
told_wrote objects end c t after a i Written once low only fits (inl h) = subst (λ (t' : Tables). WatchFits end c (watch_of t') × MarksWritten Written (watch_of t) c (watch_of t')) (sym h.1) (
  fits,
  λ r l j m. ⊎_elim (λ d. d) (λ w. absurd (
      let is : r.original ≡ a = (only r.original j w).0 in
      let listed : In {X = ℕ × ℕ} (r.original, r.place) (pairs_in t.origins) = subst (In {X = ℕ × ℕ} (r.original, r.place)) (sym fits.pairs) (in_map pair r c.replicas l) in
      let origin : get_or t.origins r.place 0 ≡ r.original = eqb-true (get_or t.origins r.place 0) r.original (sym (told t.origins r.original r.place (omega arith)) ∙ in_paired (pairs_in t.origins) r.original r.place listed) in
      h.0 r.place (omega arith) (origin ∙ is))),
)
told_wrote objects end c t after a i Written once low only fits (inr (b, at, within, is)) =
    let q = replica_there end c t fits a b at in
    subst (λ (t' : Tables). WatchFits end c (watch_of t') × MarksWritten Written (watch_of t) c (watch_of t')) (sym is) (
      fits_marked end c t (field_place b i) true fits,
      λ r l j m. ⊎_elim
          (λ d. ap (λ bs. get_or bs (field_place r.place j) false) (marked_at t (field_place b i) true) ∙ set_true (due_in t.news) (field_place b i) (field_place r.place j) d)
          (λ w.
          let o = only r.original j w in
          let same : r ≡ q.0 = same_original c.replicas r q.0 once l q.1 (o.0 ∙ sym (ap (λ (p : ℕ × ℕ). p.0) q.2)) in
          let place : field_place r.place j ≡ field_place b i = (let p : r.place ≡ b = ap (λ (r : Replica). r.place) same ∙ ap (λ (p : ℕ × ℕ). p.1) q.2 in let k : j ≡ i = o.1 in omega arith) in
          ap (λ bs. get_or bs (field_place r.place j) false) (marked_at t (field_place b i) true)
          ∙ (ap (λ n. get_or (set (due_in t.news) (field_place b i) true) n false) place
          ∙ get_or-set_same (due_in t.news) (field_place b i) true false (omega (arith, length-map t.news (λ code. code == 3))))),
    )
