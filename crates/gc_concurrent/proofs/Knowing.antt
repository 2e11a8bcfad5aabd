-- The standing checker knows the collection, whatever the collector does: it is not lost, and only what is left is due.
use Rattle.std.proofs.lemmas.Grind.{common_steps}
use Rattle.std.proofs.Common.{◌≡◌, ◌≢◌, ◌⊎◌, inl, inr, ⊎_elim, ℕ, zero, suc, ◌+◌, ◌<◌, ◌≤◌, Bool, true, false, not, List, [], ◌∷◌, ◌++◌, length, get_or, set, drop, map, replicate, Some, None, refl, ap, sym, ◌∙◌, subst, arith, length-append, length-set}
use Rattle.std.specs.Prelude.{slice_index, slice_index_or, slice_set, slice_get, IsOk, IsSome}
use Rattle.std.specs.Option.{unwrap_or}
use Rattle.std.proofs.Math.Logic.{∥∥₁_elim}
use Rattle.std.proofs.Props.{props}
use Rattle.std.proofs.lemmas.Bool.{cases_Bool, cases_eq, cases_lt, eq-eqb, eqb-true}
use Rattle.std.proofs.lemmas.List.{get_or-set_same, get_or-set_other, get_or_append_left}
use Rattle.gc_graph.specs.Graph.{Value}
use Rattle.gc_graph.specs.Correspond.{paired}
use Rattle.gc_words.specs.Word.{read_header, field_words_correspond}
use Rattle.gc_words.specs.Image.{Block, blocks, block_at, header_at, field_at, is_start, walk_words}
use Rattle.gc_words.specs.Layout.{field_place}
use Rattle.gc_words.specs.Space.{SpaceWords, IsSpace}
use Rattle.gc_words.specs.declared.header.Header.{Header}
use Rattle.gc_words.proofs.Public.{field_read, laid_out_words, objects_apart, some_of, stands_in}
use Rattle.gc_model.specs.State.{Replica, pairs_of, moved, replica_of}
use Rattle.gc_model.specs.Steps.{with_written}
use Rattle.gc_model.specs.Members.{In}
use Rattle.gc_model.specs.Belonging.{IsDue}
use Rattle.gc_model.proofs.Public.{in_left, in_map, in_map_from, laid_apart, pair, paired_in, pairs_written, placed, replica_exists, replicas_end, same_original, with_written_length, with_written_pair}
use Rattle.gc_monitor.specs.Tables.{Tables, watch_of, due_in}
use Rattle.gc_monitor.specs.Telling.{Tells, IsMark}
use Rattle.gc_monitor.specs.Origins.{pairs_in, pairs_from}
use Rattle.gc_monitor.specs.Watch.{IsSeen, is_due_at}
use Rattle.gc_monitor.specs.Events.{Saw, Freed, Looked, code_of, object_codes, opening_tables, flipped_tables, with_due}
use Rattle.gc_monitor.specs.Claims.{CanSee, IsPassedField}
use Rattle.gc_monitor.proofs.Public.{all_of, codes_length, due_at, old_more_tells, start_there, told}
use Rattle.gc_heap.specs.Heap.{HeapWords}
use Rattle.gc_concurrent.specs.Ends.{Theirs, its, opening_theirs}
use Rattle.gc_concurrent.specs.Internal.Rule.{Loose, Sat, SeesNext, applied, entry_dropped, passed, scanned, wants}
use Rattle.gc_concurrent.specs.Internal.Flip.{Holds}
use Rattle.gc_concurrent.specs.Internal.Following.{Follows}
use Rattle.gc_concurrent.specs.Internal.Knowing.{alike, Brings, Compared, IsLeft, IsSameReplica, IsSeenToDiffer, Knows}
use Rattle.gc_concurrent.proofs.Following.{original_seen}
use Rattle.gc_concurrent.proofs.Memory.{one_there, stands_at, stands_for}
use Rattle.gc_concurrent.proofs.Seeing.{some_header}
use Rattle.gc_concurrent.proofs.Starting.{field_no_start, field_start_back, same_object}

-- ---- pairs and replicas

pair_from : (at : ℕ) (xs : List ℕ) (a b : ℕ) → In {X = ℕ × ℕ} (a, b) (pairs_from at xs) → (c : ℕ) × (b ≡ at + c) × (1 ≤ a) × (get_or xs c 0 ≡ a)
pair_from at [] a b h = absurd h
pair_from at (zero ∷ xs) a b h = let r = pair_from (suc at) xs a b h in (suc r.0, (let e : b ≡ suc at + r.0 = r.1 in omega arith), r.2, r.3)
pair_from at (suc c ∷ xs) a b (inl e) =
    let same : (suc c, at) ≡ (a, b) = e in
    let first : suc c ≡ a = ap (λ (z : ℕ × ℕ). z.0) same in
    let place : at ≡ b = ap (λ (z : ℕ × ℕ). z.1) same in
    (0, omega arith, omega arith, first)
pair_from at (suc c ∷ xs) a b (inr h) = let r = pair_from (suc at) xs a b h in (suc r.0, (let e : b ≡ suc at + r.0 = r.1 in omega arith), r.2, r.3)

-- the tables have each replica
pub origin_there : (t : Tables) (seen new : List ℕ) (x : Theirs) → Knows t seen new x → (r : Replica) → In r x.replicas → (1 ≤ r.original) × (slice_index_or t.origins r.place 0 ≡ r.original)
origin_there t seen new x k r there =
    let p = pair_from 0 t.origins r.original r.place (subst (In {X = ℕ × ℕ} (r.original, r.place)) (sym k.pairs) (in_map pair r x.replicas there)) in
    let place : r.place ≡ p.0 = (let e : r.place ≡ 0 + p.0 = p.1 in omega arith) in
    (p.2, ap (λ n. get_or t.origins n 0) place ∙ p.3)

-- and no other
pub replica_there : (t : Tables) (seen new : List ℕ) (x : Theirs) → Knows t seen new x → (a b : ℕ) → 1 ≤ a → slice_index_or t.origins b 0 ≡ a → (r : Replica) × In r x.replicas × (r.original ≡ a) × (r.place ≡ b)
replica_there t seen new x k a b low is =
    let both : paired (pairs_in t.origins) a b ≡ true = told t.origins a b low ∙ eq-eqb (get_or t.origins b 0) a is in
    let m = in_map_from pair (a, b) x.replicas (subst (In {X = ℕ × ℕ} (a, b)) k.pairs (paired_in (pairs_in t.origins) a b both)) in
    (m.0, m.1, ap (λ (z : ℕ × ℕ). z.0) m.2, ap (λ (z : ℕ × ℕ). z.1) m.2)

-- a replica in memory
pub in_memory : (x : Theirs) (space : SpaceWords) → Holds space x → ∥ Loose x ∥₁ → (r : Replica) → In r x.replicas
    → (b : Block) × (block_at space.words r.place ≡ Some b) × (r.object.raw ≡ b.header.raw) × (length r.object.fields ≡ b.header.len)
in_memory x space h loose r there =
    let s = stands_at x space r.place h (stands_for x space r h there) in
    let one = one_there x loose r s.replica there s.there (sym s.place_is) in (
      s.block,
      s.found,
      ∥∥₁_elim one (hlevel props) (λ (e : r ≡ s.replica). ap (λ (q : Replica). q.object.raw) e ∙ s.raw),
      ∥∥₁_elim one (hlevel props) (λ (e : r ≡ s.replica). ap (λ (q : Replica). length q.object.fields) e ∙ s.many),
    )

-- the tables have each field of a replica
pub passed_there : (t : Tables) (seen : List ℕ) (space : SpaceWords) (x : Theirs) → Holds space x → ∥ Loose x ∥₁ → Knows t seen space.words x → length t.news ≡ length space.words
    → (r : Replica) → In r x.replicas → (i : ℕ) → i < length r.object.fields → IsPassedField (slice_index space.words r.place) t r.place i
passed_there t seen space x h loose k rows r there i low =
    let b = in_memory x space h loose r there in
    let st = stands_in space.words r.place b.0 (h.shaped).walked b.1 in
    let o = origin_there t seen space.words x k r there in
    let many = b.3 in
    let fits = st.fits in
    record { header = b.0.header; is = st.header; has_field = omega arith; origin = (let p = o.0 in let e = o.1 in omega arith); within = omega arith }

-- and the field of its original was seen
pub original_there : (t : Tables) (seen : List ℕ) (space : SpaceWords) (x : Theirs) → Holds space x → ∥ Loose x ∥₁ → Follows t seen space.words → Knows t seen space.words x
    → (r : Replica) → In r x.replicas → (i : ℕ) → i < length r.object.fields → IsSome (field_at seen r.original i)
original_there t seen space x h loose follows k r there i low =
    subst (λ a. IsSome (field_at seen a i)) (origin_there t seen space.words x k r there).1
    (original_seen t seen space.words r.place i (slice_index space.words r.place) k.found refl (passed_there t seen space x h loose k (follows k.found).2 r there i low) follows)

-- ---- codes

two_behind : (xs : List ℕ) (n code k : ℕ) → code ≢ 2 → get_or (xs ++ object_codes n code) k 0 ≡ 2 → get_or xs k 0 ≡ 2
two_behind (x ∷ xs) n code zero other e = e
two_behind (x ∷ xs) n code (suc k) other e = two_behind xs n code k other e
two_behind [] n code zero other e = absurd (let no : 1 ≡ 2 = e in omega arith)
two_behind [] n code (suc zero) other e = absurd (let no : 0 ≡ 2 = e in omega arith)
two_behind [] n code (suc (suc k)) other e = absurd (none n k e)
  where
    none : (n k : ℕ) → get_or (replicate n code) k 0 ≡ 2 → ⊥
    none zero k e = let no : 0 ≡ 2 = e in omega arith
    none (suc n) zero e = other e
    none (suc n) (suc k) e = none n k e

pub two_among : (xs : List ℕ) (n code k : ℕ) → code ≢ 2 → get_or (xs ++ object_codes n code) k 0 ≡ 2 → get_or xs k 0 ≡ 2
two_among xs n code k other e = two_behind xs n code k other e

pub code_front : (xs ys : List ℕ) (k c : ℕ) → get_or xs k 0 ≡ suc c → get_or (xs ++ ys) k 0 ≡ suc c
code_front [] ys k c e = absurd (let no : 0 ≡ suc c = e in omega arith)
code_front (x ∷ xs) ys zero c e = e
code_front (x ∷ xs) ys (suc k) c e = code_front xs ys k c e

mark_front : (xs ys : List ℕ) (k : ℕ) → IsMark (get_or xs k 0) → IsMark (get_or (xs ++ ys) k 0)
mark_front xs ys k (inl e) = inl (code_front xs ys k 0 e)
mark_front xs ys k (inr e) = inr (code_front xs ys k 1 e)

pub first_code : (xs ys : List ℕ) (c : ℕ) → get_or (xs ++ c ∷ ys) (length xs) 0 ≡ c
first_code [] ys c = refl
first_code (x ∷ xs) ys c = first_code xs ys c

-- a code that was set
pub set_two : (xs : List ℕ) (p c k : ℕ) → c ≢ 2 → get_or (set xs p c) k 0 ≡ 2 → get_or xs k 0 ≡ 2
set_two [] p c k other e = e
set_two (x ∷ xs) zero c zero other e = absurd (other e)
set_two (x ∷ xs) zero c (suc k) other e = e
set_two (x ∷ xs) (suc p) c zero other e = e
set_two (x ∷ xs) (suc p) c (suc k) other e = set_two xs p c k other e

pub due_code : (t : Tables) (place : ℕ) → is_due_at (watch_of t) place ≡ true → get_or t.news place 0 ≡ 3
due_code t place d = eqb-true (get_or t.news place 0) 3 (sym (due_at t.news place) ∙ d)

pub code_due : (t : Tables) (place : ℕ) → get_or t.news place 0 ≡ 3 → is_due_at (watch_of t) place ≡ true
code_due t place e = due_at t.news place ∙ eq-eqb (get_or t.news place 0) 3 e

-- ---- a step of the collector that brings nothing up to date

-- the same replica's field is still to be brought
pub due_same : (u : Theirs) (r s : Replica) (i : ℕ) → IsSameReplica r s → IsDue (its u) r.object.raw r.place r.original i → IsDue (its u) s.object.raw s.place s.original i
due_same u r s i same d = subst (λ (z : Bool × (ℕ × ℕ)). IsDue (its u) z.0 z.1.0 z.1.1 i) (λ k. (sym same.raw k, (sym same.place k, sym same.original k))) d

pub kept_knows : (t : Tables) (seen new : List ℕ) (x u : Theirs) → Brings (λ _. ⊥) x u → Knows t seen new x → Knows t seen new u
kept_knows t seen new x u is k = record {
  found = k.found;
  pairs = k.pairs ∙ sym is.pairs;
  taken = λ a two. let r = k.taken a two in let s = is.replicas r.0 r.1 in (s.0, s.1, s.2.original ∙ r.2);
  olds = k.olds;
  news = k.news;
  free = k.free;
  due = λ place d.
      let l = k.due place d in
      let s = is.replicas l.replica l.there in
      record {
        replica = s.0;
        there = s.1;
        field = l.field;
        has_field = (let n = s.2.len in let m = l.has_field in omega arith);
        at = l.at ∙ ap (λ p. field_place p l.field) (sym s.2.place);
        why = ⊎_elim
            (λ d. inl (due_same u l.replica s.0 l.field s.2 (⊎_elim (λ (no : ⊥). absurd no) (λ d. d) (is.due l.replica l.field l.there l.has_field d))))
            (λ (d : IsSeenToDiffer seen new x l.replica l.field). inr (record {
              within = subst (λ a. field_place a l.field < length seen) (sym s.2.original) d.within;
              differs = (λ j. alike (s.2.raw j) (is.pairs j) (slice_index seen (field_place (s.2.original j) l.field)) (slice_index new (field_place (s.2.place j) l.field))) ∙ d.differs;
            }))
            l.why;
      };
  old_room = (let n = is.from in let m = k.old_room in omega arith);
  new_room = (let n = is.into in let m = k.new_room in omega arith);
}

same_replica : (r : Replica) → IsSameReplica r r
same_replica r = record { original = refl; place = refl; raw = refl; len = refl }

pub wants_brings : (a : ℕ) (x : Theirs) → Brings (λ _. ⊥) x (wants a x)
wants_brings a x = record { from = refl; into = refl; pairs = refl; replicas = λ r there. (r, there, same_replica r); due = λ r i there low d. inr d }

pub keeps_brings : (x : Theirs) → Brings (λ _. ⊥) x x
keeps_brings x = record { from = refl; into = refl; pairs = refl; replicas = λ r there. (r, there, same_replica r); due = λ r i there low d. inr d }

pub logs_brings : (log : List (ℕ × ℕ)) (x : Theirs) → Brings (λ _. ⊥) x (record x { due = x.due ++ log })
logs_brings log x = record { from = refl; into = refl; pairs = refl; replicas = λ r there. (r, there, same_replica r); due = λ r i there low d. inr (later r i d) }
  where
    later : (r : Replica) (i : ℕ) → IsDue (its x) r.object.raw r.place r.original i → IsDue (its (record x { due = x.due ++ log })) r.object.raw r.place r.original i
    later r i (inl d) = inl d
    later r i (inr (zero, h)) = inr (0, in_left (r.original, i) x.due log h)
    later r i (inr (suc k, h)) = absurd h

-- no other log
one_log : (x : Theirs) (a i k : ℕ) → In {X = ℕ × ℕ} (a, i) (unwrap_or (slice_get (x.due ∷ []) k) []) → In {X = ℕ × ℕ} (a, i) x.due
one_log x a i zero h = h
one_log x a i (suc k) h = absurd h

pub left_brings : (x : Theirs) (entry : ℕ × ℕ) (rest : List (ℕ × ℕ)) → x.due ≡ entry ∷ rest → replica_of (its x) entry.0 ≡ None → Brings (λ _. ⊥) x (entry_dropped x)
left_brings x entry rest due missing = record {
  from = refl;
  into = refl;
  pairs = refl;
  replicas = λ r there. (r, there, same_replica r);
  due = λ r i there low d. inr (⊎_elim
      (λ u. inl u)
      (λ (h : (k : ℕ) × In {X = ℕ × ℕ} (r.original, i) (unwrap_or (slice_get (x.due ∷ []) k) [])). inr (0, other r i there (subst (In {X = ℕ × ℕ} (r.original, i)) due (one_log x r.original i h.0 h.1))))
      d);
}
  where
    other : (r : Replica) (i : ℕ) → In r x.replicas → In {X = ℕ × ℕ} (r.original, i) (entry ∷ rest) → In {X = ℕ × ℕ} (r.original, i) (drop 1 x.due)
    other r i there (inl e) = absurd (
        let s = replica_exists (its x) r there in
        let name : entry.0 ≡ r.original = ap (λ (z : ℕ × ℕ). z.0) e in
        let no : None ≡ Some s.0 = sym missing ∙ ap (replica_of (its x)) name ∙ s.1 in cc)
    other r i there (inr h) = subst (In {X = ℕ × ℕ} (r.original, i)) (sym (ap (drop 1) due)) h

pub passed_brings : (x : Theirs) (q : Replica) → ∥ Loose x ∥₁ → In q x.replicas → q.place ≡ x.scan_place → (q.object.raw ≡ true) ⊎ (x.scan_field ≡ length q.object.fields) → Brings (λ _. ⊥) x (passed q x)
passed_brings x q loose here at done = record {
  from = refl;
  into = refl;
  pairs = refl;
  replicas = λ r there. (r, there, same_replica r);
  due = λ r i there low d. inr (later r i there low d);
}
  where
    -- a replica behind this one
    behind : (r : Replica) → In r x.replicas → x.scan_place < r.place → q.place + (length q.object.fields + 2) ≤ r.place
    behind r there less = ∥∥₁_elim loose (hlevel props) (λ (l : Loose x). ⊎_elim
        (λ (e : placed q ≡ placed r). absurd (let p : q.place ≡ r.place = ap (λ (z : ℕ × Rattle.gc_graph.specs.Graph.Object). z.0) e in omega arith))
        (λ z. ⊎_elim (λ (past : q.place + (length q.object.fields + 2) ≤ r.place). past) (λ (past : r.place + (length r.object.fields + 2) ≤ q.place). absurd (omega arith)) z)
        (laid_apart 1 (map placed x.replicas) (replicas_end x.replicas) (placed q) (placed r) (l.belongs).laid (in_map placed q x.replicas here) (in_map placed r x.replicas there)))

    -- nothing of this one is left to scan
    over : (r : Replica) (i : ℕ) → In r x.replicas → i < length r.object.fields → r.object.raw ≡ false → x.scan_place ≡ r.place → x.scan_field ≤ i → ⊥
    over r i there low plain same past = ∥∥₁_elim (one_q r there same) (hlevel props) (λ (e : q ≡ r). ⊎_elim
        (λ (raw : q.object.raw ≡ true). (let no : true ≡ false = sym raw ∙ ap (λ (p : Replica). p.object.raw) e ∙ plain in cc))
        (λ (end : x.scan_field ≡ length q.object.fields). (let n : length q.object.fields ≡ length r.object.fields = ap (λ (p : Replica). length p.object.fields) e in omega arith))
        done)
      where
        one_q : (r : Replica) → In r x.replicas → x.scan_place ≡ r.place → ∥ q ≡ r ∥₁
        one_q r there same = one_there x loose q r here there (at ∙ same)

    reached : (r : Replica) (i : ℕ) → q.place + (length q.object.fields + 2) ≤ r.place → ((passed q x).scan_place < r.place) ⊎ (((passed q x).scan_place ≡ r.place) × ((passed q x).scan_field ≤ i))
    reached r i past = ⊎_elim
        (λ less. inl less)
        (λ (more : r.place ≤ (passed q x).scan_place). inr ((let p = at in omega arith), omega arith))
        (cases_lt (passed q x).scan_place r.place)

    later : (r : Replica) (i : ℕ) → In r x.replicas → i < length r.object.fields → IsDue (its x) r.object.raw r.place r.original i → IsDue (its (passed q x)) r.object.raw r.place r.original i
    later r i there low (inl (plain, inl less)) = inl (plain, reached r i (behind r there less))
    later r i there low (inl (plain, inr (same, past))) = absurd (over r i there low plain same past)
    later r i there low (inr h) = inr h

-- ---- a field is brought up to date

raw_written : (name i : ℕ) (w : Value) (r : Replica) → (with_written name i w r).object.raw ≡ r.object.raw
raw_written name i w r = grind (arith, common_steps, cases_Bool)

same_written : (name i : ℕ) (w : Value) (r : Replica) → IsSameReplica r (with_written name i w r)
same_written name i w r = record {
  original = ap (λ (z : ℕ × ℕ). z.0) (with_written_pair name i w r);
  place = ap (λ (z : ℕ × ℕ). z.1) (with_written_pair name i w r);
  raw = raw_written name i w r;
  len = with_written_length name i w r;
}

pub scanned_brings : (x : Theirs) (q : Replica) (v : Value) → q.place ≡ x.scan_place → Brings (λ p. p ≡ field_place q.place x.scan_field) x (scanned q.original x.scan_field v x)
scanned_brings x q v at = record {
  from = refl;
  into = refl;
  pairs = pairs_written q.original x.scan_field (moved (its x) v) x.replicas;
  replicas = λ r there. (with_written q.original x.scan_field (moved (its x) v) r, in_map (with_written q.original x.scan_field (moved (its x) v)) r x.replicas there, same_written q.original x.scan_field (moved (its x) v) r);
  due = λ r i there low d. later r i d;
}
  where
    later : (r : Replica) (i : ℕ) → IsDue (its x) r.object.raw r.place r.original i → (field_place r.place i ≡ field_place q.place x.scan_field) ⊎ IsDue (its (scanned q.original x.scan_field v x)) r.object.raw r.place r.original i
    later r i (inl (plain, inl less)) = inr (inl (plain, inl less))
    later r i (inl (plain, inr (same, past))) = ⊎_elim
        (λ (e : x.scan_field ≡ i). inl (let p = at in let s : x.scan_place ≡ r.place = same in omega arith))
        (λ other. inr (inl (plain, inr (same, omega arith))))
        (cases_eq x.scan_field i)
    later r i (inr h) = inr (inr h)

pub applied_brings : (x : Theirs) (q : Replica) (i : ℕ) (v : Value) (rest : List (ℕ × ℕ)) → ∥ Loose x ∥₁ → In q x.replicas → x.due ≡ (q.original, i) ∷ rest → Brings (λ p. p ≡ field_place q.place i) x (applied q.original i v x)
applied_brings x q i v rest loose here due = record {
  from = refl;
  into = refl;
  pairs = pairs_written q.original i (moved (its x) v) x.replicas;
  replicas = λ r there. (with_written q.original i (moved (its x) v) r, in_map (with_written q.original i (moved (its x) v)) r x.replicas there, same_written q.original i (moved (its x) v) r);
  due = λ r j there low d. later r j there d;
}
  where
    next : (r : Replica) (j : ℕ) → In r x.replicas → (field_place r.place j ≡ field_place q.place i → ⊥) → In {X = ℕ × ℕ} (r.original, j) ((q.original, i) ∷ rest) → In {X = ℕ × ℕ} (r.original, j) (drop 1 x.due)
    next r j there other (inl e) = absurd (
        let name : q.original ≡ r.original = ap (λ (z : ℕ × ℕ). z.0) e in
        let field : i ≡ j = ap (λ (z : ℕ × ℕ). z.1) e in
        ∥∥₁_elim loose (hlevel props) (λ (l : Loose x).
        let one : r ≡ q = same_original x.replicas r q (l.belongs).once there here (sym name) in
        other (λ k. field_place (one k).place (sym field k))))
    next r j there other (inr h) = subst (In {X = ℕ × ℕ} (r.original, j)) (sym (ap (drop 1) due)) h

    later : (r : Replica) (j : ℕ) → In r x.replicas → IsDue (its x) r.object.raw r.place r.original j → (field_place r.place j ≡ field_place q.place i) ⊎ IsDue (its (applied q.original i v x)) r.object.raw r.place r.original j
    later r j there (inl u) = inr (inl u)
    later r j there (inr (k, h)) = ⊎_elim
        (λ e. inl e)
        (λ other. inr (inr (0, next r j there other (subst (In {X = ℕ × ℕ} (r.original, j)) due (one_log x r.original j k h)))))
        (cases_eq (field_place r.place j) (field_place q.place i))

three : (due : Bool) → code_of due ≡ 3 → due ≡ true
three true e = refl
three false e = absurd (let no : 0 ≡ 3 = e in omega arith)

no_two : (due : Bool) → code_of due ≢ 2
no_two true e = let no : 3 ≡ 2 = e in omega arith
no_two false e = let no : 0 ≡ 2 = e in omega arith

not_true : (b : Bool) → not b ≡ true → b ≡ false
not_true true e = absurd (let no : false ≡ true = e in cc)
not_true false e = refl

module _ (t after : Tables) (seen seen' : List ℕ) (space : SpaceWords) (r : Replica) (i w : ℕ) (x u : Theirs) (h : Holds space x) (loose : ∥ Loose x ∥₁) (follows : Follows t seen space.words) (k : Knows t seen space.words x)
    (there : In r x.replicas) (low : i < length r.object.fields) (c : Compared r.place i t after seen seen' (slice_set space.words (field_place r.place i) w)) (is : Brings (λ p. p ≡ field_place r.place i) x u) where
  abbrev q : ℕ
  q = field_place r.place i

  abbrev p : ℕ
  p = field_place (slice_index_or t.origins r.place 0) i

  origin : slice_index_or t.origins r.place 0 ≡ r.original
  origin = (origin_there t seen space.words x k r there).1

  abbrev l : Looked seen' (slice_set space.words (field_place r.place i) w) r.place i t after
  l = c.looked

  whole : IsSpace (record { size = 4294967295; words = seen })
  whole = subst (λ ws. IsSpace (record { size = 4294967295; words = ws })) (all_of (length seen) seen refl) (follows k.found).1.space

  field_seen : IsSome (field_at seen (slice_index_or t.origins r.place 0) i)
  field_seen = subst (λ a. IsSome (field_at seen a i)) (sym origin) (original_there t seen space x h loose follows k r there i low)

  field_new : IsSome (field_at space.words r.place i)
  field_new =
      let b = in_memory x space h loose r there in
      Rattle.gc_words.proofs.Public.field_within space.words r.place i b.0.header (h.shaped).walked (ap Rattle.gc_words.specs.Image.header_of b.1) (let m = b.3 in omega arith)

  abbrev due_is : Bool
  due_is = not (field_words_correspond l.0 (pairs_in t.origins) (slice_index seen' (field_place l.1 i)) (slice_index (slice_set space.words q w) q))

  long : length t.news ≡ length space.words
  long = (follows k.found).2

  q_low : q < length t.news
  q_low = l.2.within

  same_seen : (r0 : Replica) (j : ℕ) → In r0 x.replicas → j < length r0.object.fields → field_place r0.place j ≢ q → slice_index seen' (field_place r0.original j) ≡ slice_index seen (field_place r0.original j)
  same_seen r0 j there0 low0 other =
      ap (λ ws. get_or ws (field_place r0.original j) 0) c.sees
      ∙ get_or-set_other seen p (field_place r0.original j) c.word 0 (λ e.
      let same : r0.original ≡ slice_index_or t.origins r.place 0 = same_object seen r0.original (slice_index_or t.origins r.place 0) j i whole.walked (original_there t seen space x h loose follows k r0 there0 j low0) field_seen e in
      let fields : j ≡ i = (let e' : field_place r0.original j ≡ field_place (slice_index_or t.origins r.place 0) i = e in omega arith) in
      ∥∥₁_elim loose (hlevel props) (λ (m : Loose x).
      let one : r0 ≡ r = same_original x.replicas r0 r (m.belongs).once there0 there (same ∙ origin) in
      other (λ n. field_place (one n).place (fields n))))

  -- this field is due if the words differ
  here_left : get_or (set t.news q (code_of due_is)) q 0 ≡ 3 → IsLeft seen' (slice_set space.words q w) u q
  here_left e =
      let s = is.replicas r there in
      let differ : field_words_correspond l.0 (pairs_in t.origins) (slice_index seen' (field_place l.1 i)) (slice_index (slice_set space.words q w) q) ≡ false
      = not_true _ (three due_is (sym (get_or-set_same t.news q (code_of due_is) 0 q_low) ∙ e)) in
      let b = in_memory x space h loose r there in
      let st = stands_in space.words r.place b.0 (h.shaped).walked b.1 in
      let header : l.0 ≡ b.0.header =
      (let w0 : slice_index (slice_set space.words q w) r.place ≡ slice_index space.words r.place = get_or-set_other space.words q r.place w 0 (λ e. let f : r.place ≡ field_place r.place i = e in omega arith) in
      let both : Some l.0 ≡ Some b.0.header = sym l.2.header ∙ ap read_header w0 ∙ st.header in cc) in
      let raw : s.0.object.raw ≡ l.0.raw = s.2.raw ∙ b.2 ∙ ap (λ (g : Header). g.raw) (sym header) in
      let pairs : pairs_of (its u) ≡ pairs_in t.origins = is.pairs ∙ sym k.pairs in
      let name : s.0.original ≡ l.1 = s.2.original ∙ sym origin ∙ l.2.origin in
      record {
        replica = s.0;
        there = s.1;
        field = i;
        has_field = (let n = s.2.len in omega arith);
        at = ap (λ z. field_place z i) (sym s.2.place);
        why = inr (record {
          within = (let n = l.3 in omega arith);
          differs = (λ j. alike (raw j) (pairs j) (slice_index seen' (field_place (name j) i)) (slice_index (slice_set space.words q w) (field_place (s.2.place j) i))) ∙ differ;
        });
      }

  -- another is due as it was
  other_left : (place : ℕ) → place ≢ q → IsLeft seen space.words x place → IsLeft seen' (slice_set space.words q w) u place
  other_left place other m =
      let r0 = m.replica in
      let j = m.field in
      let s = is.replicas r0 m.there in
      let apart : field_place r0.place j ≢ q = (λ e. other (m.at ∙ e)) in
      record {
        replica = s.0;
        there = s.1;
        field = j;
        has_field = (let n = s.2.len in let f = m.has_field in omega arith);
        at = m.at ∙ ap (λ z. field_place z j) (sym s.2.place);
        why = ⊎_elim
            (λ d. inl (due_same u r0 s.0 j s.2 (⊎_elim (λ e. absurd (apart e)) (λ d. d) (is.due r0 j m.there m.has_field d))))
            (λ (d : IsSeenToDiffer seen space.words x r0 j). inr (record {
              within = subst (λ a. field_place a j < length seen') (sym s.2.original) (let n : length seen' ≡ length seen = ap (length {A = ℕ}) c.sees ∙ length-set seen p c.word in let f = d.within in omega arith);
              differs = (λ n. alike (s.2.raw n) (is.pairs n) (slice_index seen' (field_place (s.2.original n) j)) (slice_index (slice_set space.words q w) (field_place (s.2.place n) j)))
                  ∙ (λ n. alike r0.object.raw (pairs_of (its x)) (same_seen r0 j m.there m.has_field apart n) (get_or-set_other space.words q (field_place r0.place j) w 0 apart n))
                  ∙ d.differs;
            }))
            m.why;
      }

  pub compared_knows : Knows after seen' (slice_set space.words (field_place r.place i) w) u
  compared_knows = subst (λ z. Knows z seen' (slice_set space.words q w) u) (sym l.5) (record {
    found = k.found;
    pairs = k.pairs ∙ sym is.pairs;
    taken = λ a two. let z = k.taken a two in let s = is.replicas z.0 z.1 in (s.0, s.1, s.2.original ∙ z.2);
    olds = λ a start. k.olds a (field_start_back (record { size = 4294967295; words = seen }) (slice_index_or t.origins r.place 0) i c.word whole field_seen a (subst (λ ws. is_start ws a ≡ true) c.sees start));
    news = λ b start.
        let before : is_start space.words b ≡ true = field_start_back space r.place i w h.shaped field_new b start in
        get_or-set_other t.news q b (code_of due_is) 0 (λ e. field_no_start space.words r.place i (h.shaped).walked field_new (subst (λ z. is_start space.words z ≡ true) e before)) ∙ k.news b before;
    free = λ b two. k.free b (set_two t.news q (code_of due_is) b (no_two due_is) two);
    due = λ place d.
        let code : get_or (set t.news q (code_of due_is)) place 0 ≡ 3 = due_code (with_due t q due_is) place d in
        ⊎_elim
        (λ (e : place ≡ q). subst (IsLeft seen' (slice_set space.words q w) u) (sym e) (here_left (subst (λ z. get_or (set t.news q (code_of due_is)) z 0 ≡ 3) e code)))
        (λ other. other_left place other (k.due place (code_due t place (sym (get_or-set_other t.news q place (code_of due_is) 0 other) ∙ code))))
        (cases_eq place q);
    old_room = (let n = is.from in let m = k.old_room in omega arith);
    new_room = (let n = is.into in let m = k.new_room in omega arith);
  })

-- ---- the walk over the mutator's space

pub can_see : (t : Tables) (found size : ℕ) (me me' : Sat) → me.0.theirs.old ≤ t.room → me.0.theirs.old ≤ size → SeesNext (length t.olds) found me me' → CanSee found size t
can_see t found size me me' room low sees = (sees.header, sees.read, (let n = sees.next.within in let m = sees.fits in omega arith), (let n = sees.next.within in let m = sees.fits in omega arith))

module _ (t : Tables) (new : List ℕ) (found : ℕ) (me me' : Sat) (x : Theirs) (sees : SeesNext (length t.olds) found me me') (follows : Follows t me.0.seen new) (k : Knows t me.0.seen new x) where
  abbrev n : ℕ
  n = length t.olds

  abbrev all : List ℕ
  all = me.0.seen ++ sees.more

  f : Tells me.0.seen new t × IsSeen (length me.0.seen) me.0.seen × (length t.news ≡ length new)
  f = follows k.found

  upto : IsSeen n me.0.seen
  upto = f.0.watches.old_seen

  upto_all : IsSeen n all
  upto_all = (old_more_tells me.0.seen new sees.more t f.0).watches.old_seen

  -- a start before the walk was seen before
  start_before : (a : ℕ) → is_start all a ≡ true → a < n → is_start me.0.seen a ≡ true
  start_before a start less = sees.starts a start (let w = upto.within in omega arith)

  all_ok : IsOk (walk_words all)
  all_ok = subst (λ ws. IsOk (walk_words ws)) (all_of (length all) all refl) sees.whole.space.walked

  -- no other start within the next object
  start_next : (a : ℕ) → is_start all a ≡ true → n ≤ a → a < n + (sees.header.len + 2) → n ≡ a
  start_next a start past less =
      let within = sees.next.within in
      let next = start_there n all upto_all sees.whole (omega arith) in
      let b = some_of (block_at all n) (some_header all n next.0 next.2) in
      let st = stands_in all n b.0 all_ok b.1 in
      let same : b.0.header ≡ sees.header = (let s : Some b.0.header ≡ Some sees.header = sym st.header ∙ sees.next.header in cc) in
      let len : b.0.header.len ≡ sees.header.len = ap (λ (h : Header). h.len) same in
      ⊎_elim (λ e. e) (λ other. absurd (
      let apart : n + (b.0.header.len + 2) ≤ a = objects_apart (blocks all) 1 n a b.0 (laid_out_words all all_ok) b.1 start (omega arith) in omega arith))
      (cases_eq n a)

  pub saw_knows : (after : Tables) → Saw found t after → Knows after me'.0.seen new x
  saw_knows after saw =
      let h : Header = saw.0 in
      let same : h ≡ sees.header = (let s : Some h ≡ Some sees.header = sym saw.1 ∙ sees.read in cc) in
      let len : h.len ≡ sees.header.len = ap (λ (h : Header). h.len) same in
      let is : me'.0.seen ≡ all = ap (λ (m : Sat). m.0.seen) sees.same in
      subst (λ (z : Tables × List ℕ). Knows z.0 z.1 new x) (λ i. (sym saw.3 i, sym is i)) (record {
        found = k.found;
        pairs = k.pairs;
        taken = λ a two. k.taken a (two_among t.olds h.len 0 a (λ e. omega arith) two);
        olds = λ a start less. ⊎_elim
            (λ before. mark_front t.olds (object_codes h.len 0) a (k.olds a (start_before a start before) before))
            (λ past.
            let e : n ≡ a = start_next a start past (let m : length (t.olds ++ object_codes h.len 0) ≡ n + (h.len + 2) = omega (arith, length-append t.olds (object_codes h.len 0), codes_length h.len 0) in omega arith) in
            inl (ap (λ z. get_or (t.olds ++ object_codes h.len 0) z 0) (sym e) ∙ first_code t.olds (0 ∷ replicate h.len 0) 1))
            (cases_lt a n);
        news = k.news;
        free = k.free;
        due = λ place d.
            let l = k.due place d in
            record {
              replica = l.replica;
              there = l.there;
              field = l.field;
              has_field = l.has_field;
              at = l.at;
              why = ⊎_elim (λ d. inl d) (λ (d : IsSeenToDiffer me.0.seen new x l.replica l.field). inr (record {
                within = (let m : length all ≡ length me.0.seen + length sees.more = length-append me.0.seen sees.more in let w = d.within in omega arith);
                differs = ap (λ v. alike l.replica.object.raw (pairs_of (its x)) v (slice_index new (field_place l.replica.place l.field))) (get_or_append_left me.0.seen sees.more 0 (field_place l.replica.original l.field) d.within) ∙ d.differs;
              })) l.why;
            };
        old_room = k.old_room;
        new_room = k.new_room;
      })

-- ---- a collection begins

no_start : (b : ℕ) → is_start (0 ∷ []) b ≡ true → ⊥
no_start b e = let no : false ≡ true = e in cc

none_due : (olds : List ℕ) (missing room : ℕ) (place : ℕ) → is_due_at (watch_of (record { olds = olds; news = 0 ∷ []; origins = 0 ∷ []; missing = missing; room = room; lost = false })) place ≡ true → ⊥
none_due olds missing room zero e = let no : false ≡ true = e in cc
none_due olds missing room (suc place) e = let no : false ≡ true = e in cc

no_code : (b : ℕ) → ◌≡◌ {A = ℕ} (get_or (0 ∷ []) b 0) 2 → ⊥
no_code zero e = let no : 0 ≡ 2 = e in omega arith
no_code (suc b) e = let no : 0 ≡ 2 = e in omega arith

-- tables of an empty new space
empty_knows : (t : Tables) (olds seen : List ℕ) (heap : HeapWords) (old size : ℕ) → t.lost ≡ false → t.olds ≡ olds → t.news ≡ 0 ∷ [] → t.origins ≡ 0 ∷ [] → ((a : ℕ) → get_or olds a 0 ≢ 2)
    → ((a : ℕ) → is_start seen a ≡ true → a < length olds → IsMark (get_or olds a 0)) → old ≤ t.room → size ≤ t.room → Knows t seen (0 ∷ []) (opening_theirs heap old size)
empty_knows t olds seen heap old size fine is news origins free marks old_room new_room = record {
  found = fine;
  pairs = ap pairs_in origins;
  taken = λ a two. absurd (free a (ap (λ xs. get_or xs a 0) (sym is) ∙ two));
  olds = λ a start less. subst (λ xs. IsMark (get_or xs a 0)) (sym is) (marks a start (let n : length t.olds ≡ length olds = ap (length {A = ℕ}) is in omega arith));
  news = λ b start. absurd (no_start b start);
  free = λ b two. no_code b (ap (λ xs. get_or xs b 0) (sym news) ∙ two);
  due = λ place d. absurd (none_due [] 0 0 place (ap (λ codes. get_or (due_in codes) place false) (sym news) ∙ d));
  old_room = old_room;
  new_room = new_room;
}

pub opening_knows : (t : Tables) (room : ℕ) (heap : HeapWords) → t ≡ opening_tables room → 1 ≤ room → Knows t (0 ∷ []) (0 ∷ []) (opening_theirs heap room 1)
opening_knows t room heap is low = subst (λ z. Knows z (0 ∷ []) (0 ∷ []) (opening_theirs heap room 1)) (sym is)
    (empty_knows (opening_tables room) (0 ∷ []) (0 ∷ []) heap room 1 refl refl refl refl no_code (λ a start _. absurd (no_start a start)) (omega arith) low)

-- the new space is the mutator's from now on
pub flipped_knows : (t after : Tables) (seen new : List ℕ) (x : Theirs) (heap : HeapWords) (size : ℕ) → after ≡ flipped_tables t → size ≡ x.size → 1 ≤ x.old → Knows t seen new x → Knows after new (0 ∷ []) (opening_theirs heap size 1)
flipped_knows t after seen new x heap size is same low k = subst (λ z. Knows z new (0 ∷ []) (opening_theirs heap size 1)) (sym is)
    (empty_knows (flipped_tables t) t.news new heap size 1 k.found refl refl refl k.free (λ a start _. inl (k.news a start)) (let r = k.new_room in omega arith) (let r = k.old_room in omega arith))

-- the collection begins anew
pub dropped_knows : (t after : Tables) (room : ℕ) (seen new : List ℕ) (x : Theirs) (heap : HeapWords) (old size : ℕ) → after.lost ≡ false → Freed (record t { room = room }) after → old ≤ room → size ≤ room → Knows t seen new x → Knows after seen (0 ∷ []) (opening_theirs heap old size)
dropped_knows t after room seen new x heap old size fine freed old_room new_room k =
    empty_knows after after.olds seen heap old size fine refl (ap (λ (t : Tables). t.news) freed.rest) (ap (λ (t : Tables). t.origins) freed.rest) free marks
    (let r : after.room ≡ room = ap (λ (t : Tables). t.room) freed.rest in omega arith) (let r : after.room ≡ room = ap (λ (t : Tables). t.room) freed.rest in omega arith)
  where
    free : (a : ℕ) → get_or after.olds a 0 ≢ 2
    free a two = ⊎_elim
        (λ (same : get_or after.olds a 0 ≡ get_or t.olds a 0).
        let r = k.taken a (sym same ∙ two) in
        let o = origin_there t seen new x k r.0 r.1 in
        let one : get_or after.olds (get_or t.origins r.0.place 0) 0 ≡ 1 = freed.freed r.0.place (let l = o.0 in let e = o.1 in omega arith) in
        let no : 1 ≡ 2 = sym one ∙ ap (λ z. get_or after.olds z 0) (o.1 ∙ r.2) ∙ two in omega arith)
        (λ z. (let no : 1 ≡ 2 = sym z.1 ∙ two in omega arith))
        (freed.codes a)

    marks : (a : ℕ) → is_start seen a ≡ true → a < length after.olds → IsMark (get_or after.olds a 0)
    marks a start less = ⊎_elim
        (λ (same : get_or after.olds a 0 ≡ get_or t.olds a 0). subst IsMark (sym same) (k.olds a start (let n = freed.count in omega arith)))
        (λ z. inl z.1)
        (freed.codes a)
