-- Steps of the collector that place replicas, leave entries out, and go on.
use Rattle.std.proofs.Common.{◌≡◌, ◌⊎◌, ℕ, ◌+◌, ◌<◌, ◌≤◌, ◌==◌, ◌||◌, Bool, true, false, List, [], ◌∷◌, ◌++◌, length, get_or, map, Some, None, is_some, refl, ap, sym, ◌∙◌, subst, inl, inr, ◌-◌, ⊎_elim, arith}
use Rattle.std.specs.Prelude.{IfSome, if◌then◌else◌, nat_lt, drop}
use Rattle.std.proofs.lemmas.Bool.{cond-true, cond-false, ne_eqb, eq-eqb, cases_Bool, or_left, or_right}
use lib.ListN.{get_elem?}
use mathlib.Core.Option.{some, none}
use Rattle.atomic_table.specs.Table.{step, keeps, stepped, Allows}
use Rattle.gc_graph.specs.Graph.{Object, lookup, new_object, first_value}
use Rattle.gc_graph.specs.Machine.{object_words}
use Rattle.gc_words.specs.Word.{read_header}
use Rattle.gc_words.specs.Space.{end_of}
use Rattle.gc_words.specs.Image.{block_at, is_start, object_of_block, objects_of}
use Rattle.gc_words.specs.declared.header.Header.{Header}
use Rattle.gc_words.proofs.Public.{object_found, fields_counted, stands_in}
use Rattle.gc_model.specs.State.{Replica, Collection, State, replica_of, replica_at, new_end, new_free}
use Rattle.gc_model.specs.Steps.{next_object, scan, scan_done, scan_replica, with_collection, if_room, apply_log}
use Rattle.gc_model.specs.Members.{In}
use Rattle.gc_model.specs.Belonging.{IsOpened, IsDue, IsLogged, Belongs}
use Rattle.gc_model.specs.declared.step.Step.TheVariants as steps
use Rattle.gc_model.specs.declared.step.StepReply.{StepReply}
use Rattle.gc_model.specs.declared.step.StepReply.TheVariants.{Passed, Applied}
use Rattle.gc_model.proofs.Public.{laid_push, laid_range, in_map, same_place, placed, replicas_end, found_by_place, open_keeps, AreReplicas, belongs_from, replicas_due, its_replicas, due_at_end, in_left, in_right, in_push, get_past, end_push, in_paired, paired_in, distinct_push, unnamed}
use Rattle.std.proofs.lemmas.List.{length-replicate, map-append}
use Rattle.std.proofs.lemmas.Grind.{common_steps}
use Rattle.std.proofs.lemmas.Bool.{ltb-false, le-ltb}
use Rattle.gc_concurrent.specs.Ends.{Mine, Theirs}
use Rattle.gc_concurrent.specs.Internal.Plans.{collection_of, plan}
use Rattle.gc_concurrent.specs.Internal.Rule.{IsConcurrent, passed, placed_one, blank_replica, entries_of_fields, to_fill, entry_dropped, Sat, tells_place_of, tells_pass_of, tells_leave_of, tells_place, tells_pass, tells_leave}
use Rattle.gc_concurrent.specs.Ends.{its}
use Rattle.gc_concurrent.proofs.Halves.{start_of}
use Rattle.gc_concurrent.proofs.Hands.{St}
use Rattle.gc_concurrent.proofs.Logs.{of_two, to_two, in_either, in_fields, fields_in}
use Rattle.gc_concurrent.proofs.Fitting.{next_fits, end_placed}
use Rattle.gc_concurrent.proofs.Keeping.{kept_still, kept_placed}
use Rattle.gc_concurrent.proofs.Loosely.{Leaves, loosely, block_is}
use Rattle.gc_concurrent.proofs.Copying.{theirs_keep, replica_works, without}

-- ---- the collector goes on behind a replica

pass_is : (s : State) (c : Collection) (q : Replica) → Belongs s.heap.graph.objects c → In q c.replicas → q.place ≡ c.scan_place → (q.object.raw ≡ true) ⊎ (c.scan_field ≡ length q.object.fields)
    → scan s c ≡ (Passed, with_collection s (Some (next_object c q)))
pass_is s c q k here place done =
    cond-false (scan_done c) _ _ (ne_eqb c.scan_place (new_end c) (λ e. let x = laid_range 1 (map placed c.replicas) (replicas_end c.replicas) (placed q) k.laid (in_map placed q c.replicas here) in omega arith))
    ∙ ap (scan_replica s c) (ap (replica_at c) (sym place) ∙ found_by_place (IsDue c) s.heap.graph.objects c k q here)
    ∙ cond-true (q.object.raw || (c.scan_field == length q.object.fields)) _ _ (⊎_elim (λ r. or_left q.object.raw _ r) (λ e. or_right q.object.raw _ (eq-eqb c.scan_field (length q.object.fields) e)) done)

pass_at : (slots size : ℕ) (s : St) (r : IsConcurrent size s) (k id : ℕ) (me : Sat) (q : Replica) → get_elem? s.views id ≡ some me.0 → me.0.copies ≡ true
    → In q r.theirs.replicas → q.place ≡ r.theirs.scan_place → (q.object.raw ≡ true) ⊎ (r.theirs.scan_field ≡ length q.object.fields)
    → Leaves size s k id me (tells_pass_of r.theirs (step slots k 0 0 none) me)
pass_at slots size s r k id me q seat copies here place done =
    let t : Theirs = r.theirs in
    let S : State = plan r.mine t in
    let c : Collection = collection_of r.mine t in (
      record me.0 { theirs = passed q t },
      keeps,
      tt,
      theirs_keep size s r k id me.0 me.1 (passed q t) seat copies refl r.wanted
          (subst (λ (x : StepReply × State). IfSome x.1.collection (IsOpened S)) (pass_is S c q (r.opened).belongs here place done) (open_keeps S c steps.Scan refl r.opened (λ e. cc e)))
          (kept_still r.mine t r.carries (passed q t) refl refl refl) r.fits (λ e. absurd (replica_works r.mine t q r.rests here e)),
      λ p l e' _. let one : q ≡ p = same_place 1 t.replicas (replicas_end t.replicas) q p ((r.opened).belongs).laid here l (place ∙ sym e') in λ j. (record me.0 { theirs = passed (one j) t }, me.1),
    )

pub passes : (slots size k id : ℕ) (me : Sat) (q : Replica) → me.0.copies ≡ true
    → In q me.0.theirs.replicas → q.place ≡ me.0.theirs.scan_place → (q.object.raw ≡ true) ⊎ (me.0.theirs.scan_field ≡ length q.object.fields)
    → Allows (IsConcurrent size) slots id me k (λ x. x) (tells_pass (step slots k 0 0 none) me)
passes slots size k id me q copies here place done s r _ seat _ =
    loosely size s k id me (tells_pass_of me.0.theirs (step slots k 0 0 none) me) seat (
    subst (λ (t : Theirs). In q t.replicas → q.place ≡ t.scan_place → (q.object.raw ≡ true) ⊎ (t.scan_field ≡ length q.object.fields) → Leaves size s k id me (tells_pass_of t (step slots k 0 0 none) me))
    (sym ((r.seats id me.0 seat).1 copies).1)
    (λ here place done. pass_at slots size s r k id me q seat copies here place done)
    here place done)

-- ---- an entry of an object without a replica

leave_at : (slots size : ℕ) (s : St) (r : IsConcurrent size s) (k id : ℕ) (me : Sat) (entry : ℕ × ℕ) (rest : List (ℕ × ℕ)) → get_elem? s.views id ≡ some me.0 → me.0.copies ≡ true
    → r.theirs.due ≡ entry ∷ rest → replica_of (its r.theirs) entry.0 ≡ None
    → Leaves size s k id me (tells_leave_of r.theirs (step slots k 0 0 none) me)
leave_at slots size s r k id me entry rest seat copies due missing =
    let t : Theirs = r.theirs in
    let S : State = plan r.mine t in
    let c : Collection = collection_of r.mine t in
    let d : Collection = collection_of r.mine (without rest t) in
    let is : apply_log S c 1 t.due ≡ (Applied, with_collection S (Some d)) = ap (apply_log S c 1) due ∙ ap (if_room S Applied) (cond-false (is_some (replica_of d entry.0)) _ _ (ap is_some missing)) in (
      record me.0 { theirs = entry_dropped t },
      keeps,
      tt,
      theirs_keep size s r k id me.0 me.1 (entry_dropped t) seat copies refl r.wanted
          (subst (λ (x : List (ℕ × ℕ)). IsOpened S (collection_of r.mine (without x t))) (sym (ap (drop 1) due))
          (subst (λ (x : StepReply × State). IfSome x.1.collection (IsOpened S)) is (open_keeps S c (steps.Apply 1) refl r.opened (λ e. cc e))))
          (kept_still r.mine t r.carries (entry_dropped t) refl refl refl) r.fits
          (λ e. let none : [] ≡ entry ∷ rest = sym (r.rests e).due ∙ due in absurd cc),
      λ _ _ _ _. refl,
    )

pub leaves : (slots size k id : ℕ) (me : Sat) (entry : ℕ × ℕ) (rest : List (ℕ × ℕ)) → me.0.copies ≡ true
    → me.0.theirs.due ≡ entry ∷ rest → replica_of (its me.0.theirs) entry.0 ≡ None
    → Allows (IsConcurrent size) slots id me k (λ x. x) (tells_leave (step slots k 0 0 none) me)
leaves slots size k id me entry rest copies due missing s r _ seat _ =
    loosely size s k id me (tells_leave_of me.0.theirs (step slots k 0 0 none) me) seat (
    subst (λ (t : Theirs). t.due ≡ entry ∷ rest → replica_of (its t) entry.0 ≡ None → Leaves size s k id me (tells_leave_of t (step slots k 0 0 none) me))
    (sym ((r.seats id me.0 seat).1 copies).1)
    (λ due missing. leave_at slots size s r k id me entry rest seat copies due missing)
    due missing)

-- ---- a replica is placed

blank_length : (raw : Bool) (kind n : ℕ) → length (new_object raw kind n).fields ≡ n
blank_length raw kind n = length-replicate n (first_value raw)

replicas_blank : (objects : List (ℕ × Object)) (size : ℕ) (Due : Bool → ℕ → ℕ → ℕ → Type 0) (replicas : List Replica) (name : ℕ) (object : Object)
    → AreReplicas objects size Due replicas → lookup objects name ≡ Some object → (In name (map (λ r. r.original) replicas) → ⊥)
    → replicas_end replicas + (length object.fields + 2) ≤ size
    → ((i : ℕ) → i < length object.fields → Due object.raw (replicas_end replicas) name i)
    → AreReplicas objects size Due (replicas ++ blank_replica name (replicas_end replicas) object ∷ [])
replicas_blank objects size Due replicas name object h found new fits due = grind (arith, common_steps, map-append, laid_push, blank_length, distinct_push, in_push, end_push, in_left, in_paired, paired_in, get_past)

to_fill_low : (o : Object) → to_fill o ≤ length o.fields
to_fill_low o = go o.raw
  where
    go : (b : Bool) → (if b then length o.fields else 0) ≤ length o.fields
    go true = omega arith
    go false = omega arith

placed_opened : (m : Mine) (t : Theirs) (name : ℕ) (o : Object) → IsOpened (plan m t) (collection_of m t) → replica_of (its t) name ≡ None → lookup (objects_of m.space.words) name ≡ Some o
    → nat_lt (new_free (collection_of m t)) (object_words (length o.fields)) ≡ false → IsOpened (plan m t) (collection_of m (placed_one name o t))
placed_opened m t name o h missing found room =
    record {
      belongs = belongs_from (IsDue d) objects d
          (replicas_blank objects t.size (IsDue d) t.replicas name o
          (replicas_due objects t.size (IsDue c) (IsDue d) t.replicas (its_replicas (IsDue c) objects c k) (λ r l i w u. later r.object.raw r.place r.original i u))
          found (unnamed c name missing) (let r = k.room in let f : length o.fields + 2 ≤ t.size - new_end c = ltb-false (t.size - new_end c) (length o.fields + 2) room in omega arith)
          (λ i l. due o.raw refl i l))
          (inl (⊎_elim
          (λ z. (z.0, in_left z.0 t.replicas (blank ∷ []) z.1, z.2, z.3))
          (λ z. (blank, in_right blank t.replicas (blank ∷ []) (inl refl), sym z.0, (let x = z.1 in omega arith)))
          k.scan))
          (λ a i x. ⊎_elim (λ l. k.entries a i (0, l)) (λ l. ⊎_elim
          (λ f. let g = in_fields name 0 (to_fill o) a i f in (o, subst (λ n. lookup objects n ≡ Some o) (sym g.0) found, (let y = g.1 in let z = to_fill_low o in omega arith)))
          (λ e. k.entries a i (1, e))
          (in_either (a, i) (entries_of_fields name 0 (to_fill o)) t.due l))
          (to_two (a, i) m.log (entries_of_fields name 0 (to_fill o) ++ t.due) x))
          k.numbers;
      size = h.size;
      logs = refl;
    }
  where
    objects : List (ℕ × Object)
    objects = objects_of m.space.words

    c : Collection
    c = collection_of m t

    d : Collection
    d = collection_of m (placed_one name o t)

    blank : Replica
    blank = blank_replica name (new_end (its t)) o

    k : Belongs objects c
    k = h.belongs

    forth : (a i : ℕ) → IsLogged c a i → IsLogged d a i
    forth a i x = of_two (a, i) m.log (entries_of_fields name 0 (to_fill o) ++ t.due) (⊎_elim (λ l. inl l) (λ l. inr (in_right (a, i) (entries_of_fields name 0 (to_fill o)) t.due l)) (to_two (a, i) m.log t.due x))

    later : (raw : Bool) (p a i : ℕ) → IsDue c raw p a i → IsDue d raw p a i
    later raw p a i u = ⊎_elim (λ x. inl x) (λ x. inr (forth a i x)) u

    due : (b : Bool) → o.raw ≡ b → (i : ℕ) → i < length o.fields → IsDue d o.raw (replicas_end t.replicas) name i
    due true e i l = inr (
      1,
      in_left (name, i) (entries_of_fields name 0 (to_fill o)) t.due
          (subst (λ b. In {X = ℕ × ℕ} (name, i) (entries_of_fields name 0 (if b then length o.fields else 0))) (sym e) (fields_in name 0 (length o.fields) i (omega arith) (omega arith))),
    )
    due false e i l = subst (λ b. IsDue d b (replicas_end t.replicas) name i) (sym e) (later false (replicas_end t.replicas) name i (due_at_end objects c k name i))

place_at : (slots size : ℕ) (s : St) (r : IsConcurrent size s) (id : ℕ) (me : Sat) (name : ℕ) → get_elem? s.views id ≡ some me.0 → me.0.copies ≡ true
    → In name r.theirs.wanted → replica_of (its r.theirs) name ≡ None
    → Leaves size s name id me (tells_place_of r.theirs (step slots name 0 0 none) me)
place_at slots size s r id me name seat copies wanted missing =
    let words : List ℕ = r.mine.space.words in
    let t : Theirs = r.theirs in
    let there = r.wanted name wanted in
    let S : State = plan r.mine t in
    let c : Collection = collection_of r.mine t in
    let o : Object = there.0 in
    let b = block_is (block_at words name) o (sym (object_found words name) ∙ there.1) in
    let ok = (r.space).walked in
    let stands = stands_in words name b.0 ok b.1 in
    let fits : name + (b.0.header.len + 2) ≤ length words = stands.fits in
    let many : length (object_of_block b.0).fields ≡ b.0.header.len = fields_counted words name b.0 ok b.1 in
    let count : b.0.header.len ≡ length o.fields = sym many ∙ ap (λ (x : Object). length x.fields) b.2 in
    let header : b.0.header ≡ record { raw = o.raw; kind = o.kind; len = length o.fields } = λ i. record { raw = (b.2 i).raw; kind = (b.2 i).kind; len = count i } in
    let read : read_header (get_or s.words name 0) ≡ Some (record { raw = o.raw; kind = o.kind; len = length o.fields }) = ap read_header (r.now name (omega arith)) ∙ (stands.header ∙ ap (λ (h : Header). Some h) header) in
    let next : new_end (its t) + object_words (length o.fields) ≤ end_of r.mine.space = next_fits r.mine t name o r.space r.closed r.opened r.fits missing there.1 in
    let full : Bool = nat_lt (new_free c) (object_words (length o.fields)) in
    let t' : Theirs = if full then t else placed_one name o t in (
      record me.0 { theirs = t' },
      keeps,
      tt,
      ⊎_elim
          (λ (e : full ≡ true). subst (λ (x : Theirs). IsConcurrent size (stepped s name (get_or s.words name 0) id me.1 (record me.0 { theirs = x }) keeps)) (sym (cond-true full t (placed_one name o t) e))
          (theirs_keep size s r name id me.0 me.1 t seat copies refl r.wanted r.opened r.carries r.fits r.rests))
          (λ (e : full ≡ false). subst (λ (x : Theirs). IsConcurrent size (stepped s name (get_or s.words name 0) id me.1 (record me.0 { theirs = x }) keeps)) (sym (cond-false full t (placed_one name o t) e))
          (theirs_keep size s r name id me.0 me.1 (placed_one name o t) seat copies refl (λ a h. absurd h)
          (placed_opened r.mine t name o r.opened missing there.1 e) (kept_placed r.mine t r.carries name o wanted)
          (end_placed r.mine t name o r.space r.closed r.opened r.fits missing there.1)
          (λ e'. absurd (subst (In name) (r.rests e').wanted wanted))))
          (cases_Bool full),
      λ _ _. (
        o,
        read,
        refl,
        λ large. le-ltb (new_free (its t)) (object_words (length o.fields)) (let older = r.older in let sized = r.sized in let high = (r.space).end_high in let n = next in omega arith),
        λ writes. subst (λ (m : Mine). new_end (its t) + object_words (length o.fields) ≤ end_of m.space) (sym ((r.seats id me.0 seat).0 writes).1) next,
        λ writes. subst (λ (m : Mine). is_start m.space.words name ≡ true) (sym ((r.seats id me.0 seat).0 writes).1) (start_of words name (ap is_some there.1)),
      ),
    )

pub places : (slots size id : ℕ) (me : Sat) (name : ℕ) → me.0.copies ≡ true
    → In name me.0.theirs.wanted → replica_of (its me.0.theirs) name ≡ None
    → Allows (IsConcurrent size) slots id me name (λ x. x) (tells_place (step slots name 0 0 none) me)
places slots size id me name copies wanted missing s r _ seat _ =
    loosely size s name id me (tells_place_of me.0.theirs (step slots name 0 0 none) me) seat (
    subst (λ (t : Theirs). In name t.wanted → replica_of (its t) name ≡ None → Leaves size s name id me (tells_place_of t (step slots name 0 0 none) me))
    (sym ((r.seats id me.0 seat).1 copies).1)
    (λ wanted missing. place_at slots size s r id me name seat copies wanted missing)
    wanted missing)
