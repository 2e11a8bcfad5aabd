-- Each step of the collector keeps the rule: it is a step of gc_model at the moment of a load.
use Rattle.std.proofs.Common.{◌≡◌, ℕ, suc, ◌≤◌, ◌<◌, ◌==◌, ◌||◌, Bool, true, false, List, [], ◌∷◌, length, get_or, set, map, Some, None, is_some, refl, ap, sym, ◌∙◌, subst, inl, ⊎_elim, arith}
use Rattle.std.specs.Prelude.{IfSome, drop}
use Rattle.std.specs.Option.{option_map}
use Rattle.std.specs.declared.option.Option.{Option as Opt}
use Rattle.std.proofs.lemmas.Grind.{common_steps}
use Rattle.std.proofs.lemmas.Bool.{cond-true, cond-false, ne_eqb, cases_Bool}
use lib.ListN.{get_elem?}
use mathlib.Core.Option.{some, none}
use Rattle.atomic_table.specs.Table.{step, keeps, stepped, Allows}
use Rattle.gc_graph.specs.Graph.{Value, Nil, Num, Ref, Object, Graph, lookup, field_of}
use Rattle.gc_words.specs.Word.{value_of, is_value, field_value}
use Rattle.gc_words.specs.Layout.{field_place}
use Rattle.gc_words.specs.Image.{Block, header_of, block_at, field_at, objects_of, object_of_block}
use Rattle.gc_words.specs.Space.{end_of}
use Rattle.gc_words.specs.Closed.{IsWordOfField, RefersToStart}
use Rattle.gc_words.proofs.Public.{object_found, field_found, field_read, fields_counted, field_within, some_of, closed_field_read}
use Rattle.gc_model.specs.State.{Replica, Collection, State, replica_of, replica_at, moved, new_end}
use Rattle.gc_model.specs.Steps.{with_written, with_replica, write_replica, bring_value, bring_up_to_date, next_field, scan, scan_done, scan_replica, with_collection, if_room, apply_log}
use Rattle.gc_model.specs.Members.{In}
use Rattle.gc_model.specs.Belonging.{IsOpened, IsDue, Belongs}
use Rattle.gc_model.specs.declared.step.Step.TheVariants as steps
use Rattle.gc_model.specs.declared.step.StepReply.{StepReply}
use Rattle.gc_model.specs.declared.step.StepReply.TheVariants.{Scanned, Applied}
use Rattle.gc_model.proofs.Public.{laid_range, in_map, same_place, same_original, placed, replicas_end, found_by_place, found_by_name, open_keeps}
use Rattle.gc_concurrent.specs.Ends.{Known, Mine, Theirs}
use Rattle.gc_concurrent.specs.Unreachable.{MayBeCopied}
use Rattle.gc_concurrent.specs.Internal.Plans.{collection_of, plan}
use Rattle.gc_concurrent.specs.Internal.Carrying.{KeepsUnreachableOut}
use Rattle.gc_concurrent.specs.Internal.Rule.{RootWords, IsAtRest, IsConcurrent, IsWordAs, brought, scanned, applied, wants, after_read, lacks, read_as, Sat, tells_scan_of, tells_apply_of, tells_scan, tells_apply}
use Rattle.gc_concurrent.specs.Ends.{its}
use Rattle.gc_concurrent.proofs.Hands.{St, seats_theirs}
use Rattle.gc_concurrent.proofs.Shown.{shown_set}
use Rattle.gc_concurrent.proofs.Fitting.{end_brought}
use Rattle.gc_concurrent.proofs.Keeping.{kept_brought, kept_wants, kept_target}
use Rattle.gc_concurrent.proofs.Loosely.{Leaves, loosely, block_is}
use lib.Seq.{set-get_or}

-- ---- a step that changes the collection alone

pub theirs_keep : (size : ℕ) (s : St) (r : IsConcurrent size s) (k id : ℕ) (v : Known) (c : List (ℕ × RootWords)) (t' : Theirs) → get_elem? s.views id ≡ some v → v.copies ≡ true → t'.old ≡ r.theirs.old
    → ((a : ℕ) → In a t'.wanted → (o : Object) × (lookup (objects_of r.mine.space.words) a ≡ Some o))
    → IsOpened (plan r.mine r.theirs) (collection_of r.mine t') → KeepsUnreachableOut r.mine t' → new_end (its t') ≤ end_of r.mine.space → (r.mine.logs ≡ false → IsAtRest r.mine t')
    → IsConcurrent size (stepped s k (get_or s.words k 0) id c (record v { theirs = t' }) keeps)
theirs_keep size s r k id v c t' here copies old wanted opened carries fits rests =
    subst (λ (ws : List ℕ). IsConcurrent size (record { words = ws; homes = s.homes; views = set s.views id (record v { theirs = t' }) })) (sym (set-get_or s.words k 0)) (record {
      mine = r.mine;
      theirs = t';
      seen = r.seen;
      writer = r.writer;
      copier = r.copier;
      wide = r.wide;
      sized = r.sized;
      older = old ∙ r.older;
      now = r.now;
      free = r.free;
      space = r.space;
      closed = r.closed;
      wanted = wanted;
      opened = record { belongs = opened.belongs; size = opened.size; logs = opened.logs };
      carries = carries;
      fits = fits;
      rests = rests;
      seats = seats_theirs r.writer r.copier id r.mine r.theirs t' s.views v here copies r.seats;
      told = r.told;
      shown = shown_set r.seen s.views id (record v { theirs = t' }) (r.shown id v here) r.shown;
    })

-- ---- what is at rest has no replicas

pub replica_works : (m : Mine) (t : Theirs) (q : Replica) → (m.logs ≡ false → IsAtRest m t) → In q t.replicas → m.logs ≡ false → ⊥
replica_works m t q rests here e = subst (In q) (rests e).copied here

-- ---- the collector's own collection finds the same replicas

lacks_same : (m : Mine) (t : Theirs) (v : Value) → lacks (collection_of m t) v ≡ lacks (its t) v
lacks_same m t Nil = refl
lacks_same m t (Num n) = refl
lacks_same m t (Ref a) = refl

pub moved_same : (m : Mine) (t : Theirs) (v : Value) → moved (collection_of m t) v ≡ moved (its t) v
moved_same m t Nil = refl
moved_same m t (Num n) = refl
moved_same m t (Ref a) = refl

-- ---- what a load of a field finds

pub record Reads (size : ℕ) (s : St) (r : IsConcurrent size s) (q : Replica) (i : ℕ) : Type 0 where
  pub block : Block
  pub found : block_at r.mine.space.words q.original ≡ Some block
  pub raw : q.object.raw ≡ block.header.raw
  pub read : field_at r.mine.space.words q.original i ≡ Some (get_or s.words (field_place q.original i) 0)
  pub value : field_of (lookup (objects_of r.mine.space.words) q.original) i ≡ Some (field_value block.header (get_or s.words (field_place q.original i) 0))

reads_field : (size : ℕ) (s : St) (r : IsConcurrent size s) (q : Replica) (i : ℕ) → In q r.theirs.replicas → i < length q.object.fields → Reads size s r q i
reads_field size s r q i here within =
    let words : List ℕ = r.mine.space.words in
    let k = (r.opened).belongs in
    let rep = k.replicas q here in
    let b = block_is (block_at words q.original) rep.original (sym (object_found words q.original) ∙ rep.found) in
    let ok = (r.space).walked in
    let many : length (object_of_block b.0).fields ≡ b.0.header.len = fields_counted words q.original b.0 ok b.1 in
    let same : length (object_of_block b.0).fields ≡ length rep.original.fields = ap (λ (o : Object). length o.fields) b.2 in
    let long = rep.len in
    let has = field_within words q.original i b.0.header ok (ap header_of b.1) (omega arith) in
    let f = field_read words q.original i ok has in
    let is : Some (get_or words (field_place q.original i) 0) ≡ Some (get_or s.words (field_place q.original i) 0) = ap (λ (w : ℕ). Some w) (sym (r.now (field_place q.original i) f.within)) in
    let read = f.word ∙ is in
    record {
      block = b.0;
      found = b.1;
      raw = rep.raw ∙ sym (ap (λ (o : Object). o.raw) b.2);
      read = read;
      value = field_found words q.original i b.0 b.1 ∙ ap (option_map (field_value b.0.header)) read;
    }

-- the target of a field is an object
target_starts : (words : List ℕ) (raw : Bool) (w name : ℕ) → IsWordOfField raw words w → read_as raw w ≡ Ref name → is_some (block_at words name) ≡ true
target_starts words true w name is e = absurd cc
target_starts words false w name is e = subst (RefersToStart words) e is.start

pub target_there : (words : List ℕ) (name : ℕ) → is_some (block_at words name) ≡ true → (o : Object) × (lookup (objects_of words) name ≡ Some o)
target_there words name start = let b = some_of (block_at words name) start in (object_of_block b.0, object_found words name ∙ ap (option_map object_of_block) b.1)

lacking : (c : Collection) (v : Value) (name : ℕ) → lacks c v ≡ Some name → (v ≡ Ref name) × (replica_of c name ≡ None)
lacking c Nil name e = absurd cc
lacking c (Num n) name e = absurd cc
lacking c (Ref a) name e = grind (arith, common_steps, cases_Bool)

-- ---- a field that lacks no replica is brought up to date

with_is : (c : Collection) (g : Graph) (v : Value) → lacks c v ≡ None → with_replica c g v ≡ Some c
with_is c g Nil e = refl
with_is c g (Num n) e = refl
with_is c g (Ref a) e = grind (arith, common_steps, cases_Bool)

bring_is : (c : Collection) (g : Graph) (name i : ℕ) (v : Value) → field_of (lookup g.objects name) i ≡ Some v → lacks c v ≡ None → bring_up_to_date c g name i ≡ Some (write_replica c name i (moved c v))
bring_is c g name i v is nl = ap (bring_value c g name i) is ∙ ap (option_map (λ d. write_replica d name i (moved d v))) (with_is c g v nl)

scan_is : (s : State) (c : Collection) (q : Replica) (v : Value) → Belongs s.heap.graph.objects c → In q c.replicas → q.place ≡ c.scan_place → q.object.raw ≡ false → c.scan_field < length q.object.fields
    → field_of (lookup s.heap.graph.objects q.original) c.scan_field ≡ Some v → lacks c v ≡ None
    → scan s c ≡ (Scanned, with_collection s (Some (next_field (write_replica c q.original c.scan_field (moved c v)))))
scan_is s c q v k here place plain within is nl =
    cond-false (scan_done c) _ _ (ne_eqb c.scan_place (new_end c) (λ e. let x = laid_range 1 (map placed c.replicas) (replicas_end c.replicas) (placed q) k.laid (in_map placed q c.replicas here) in omega arith))
    ∙ ap (scan_replica s c) (ap (replica_at c) (sym place) ∙ found_by_place (IsDue c) s.heap.graph.objects c k q here)
    ∙ cond-false (q.object.raw || (c.scan_field == length q.object.fields)) _ _ (ap (λ b. b || (c.scan_field == length q.object.fields)) plain ∙ ne_eqb c.scan_field (length q.object.fields) (λ e. omega arith))
    ∙ ap (λ o. if_room s Scanned (option_map next_field o)) (bring_is c s.heap.graph q.original c.scan_field v is nl)

-- a field that follows takes no words
brought_fits : (size : ℕ) (s : St) (r : IsConcurrent size s) (name i : ℕ) (v : Value) → new_end (its (brought name i v r.theirs)) ≤ end_of r.mine.space
brought_fits size s r name i v = let e = end_brought r.theirs name i v in let f = r.fits in omega arith

-- ---- the steps

-- a value read that lacks a replica is wanted
want : (size : ℕ) (s : St) (r : IsConcurrent size s) (k id : ℕ) (me : Sat) (name : ℕ) → get_elem? s.views id ≡ some me.0 → me.0.copies ≡ true
    → is_some (block_at r.mine.space.words name) ≡ true → MayBeCopied r.mine.base name → (r.mine.logs ≡ false → ⊥)
    → IsConcurrent size (stepped s k (get_or s.words k 0) id me.1 (record me.0 { theirs = wants name r.theirs }) keeps)
want size s r k id me name seat copies start allowed works =
    theirs_keep size s r k id me.0 me.1 (wants name r.theirs) seat copies refl
    (λ a h. ⊎_elim (λ (e : name ≡ a). subst (λ x. (o : Object) × (lookup (objects_of r.mine.space.words) x ≡ Some o)) e (target_there r.mine.space.words name start)) (λ (e : ⊥). absurd e) h)
    r.opened (kept_wants r.mine r.theirs r.carries name allowed) r.fits (λ e. absurd (works e))

-- a field word of an object that is not raw is a value
value_of_field : (words : List ℕ) (raw : Bool) (w : ℕ) → raw ≡ false → IsWordOfField raw words w → is_value w ≡ true
value_of_field words true w plain is = absurd cc
value_of_field words false w plain is = is.value

found_value : (size : ℕ) (s : St) (r : IsConcurrent size s) (q : Replica) (i : ℕ) → (f : Reads size s r q i) → f.block.header.raw ≡ false → is_value (get_or s.words (field_place q.original i) 0) ≡ true
found_value size s r q i f plain = value_of_field r.mine.space.words f.block.header.raw (get_or s.words (field_place q.original i) 0) plain
    (closed_field_read r.mine.space.words [] q.original i (get_or s.words (field_place q.original i) 0) f.block r.closed f.found f.read)

word_as : (words : List ℕ) (raw : Bool) (w : ℕ) → IsWordOfField raw words w → IsWordAs raw w
word_as words true w is = is
word_as words false w is = is.value

found_as : (size : ℕ) (s : St) (r : IsConcurrent size s) (q : Replica) (i : ℕ) → (f : Reads size s r q i) → IsWordAs f.block.header.raw (get_or s.words (field_place q.original i) 0)
found_as size s r q i f = word_as r.mine.space.words f.block.header.raw (get_or s.words (field_place q.original i) 0)
    (closed_field_read r.mine.space.words [] q.original i (get_or s.words (field_place q.original i) 0) f.block r.closed f.found f.read)

-- the target of the value read, where it lacks a replica
found_start : (size : ℕ) (s : St) (r : IsConcurrent size s) (q : Replica) (i name : ℕ) → (f : Reads size s r q i) → read_as f.block.header.raw (get_or s.words (field_place q.original i) 0) ≡ Ref name
    → is_some (block_at r.mine.space.words name) ≡ true
found_start size s r q i name f e = target_starts r.mine.space.words f.block.header.raw (get_or s.words (field_place q.original i) 0) name
    (closed_field_read r.mine.space.words [] q.original i (get_or s.words (field_place q.original i) 0) f.block r.closed f.found f.read) e

-- field i of the replica follows
follow_opened : (m : Mine) (t : Theirs) (S : State) (name i n : ℕ) (v : Value)
    → IsOpened S (record (write_replica (collection_of m t) name i (moved (collection_of m t) v)) { scan_field = n })
    → IsOpened S (record (collection_of m t) { replicas = map (with_written name i (moved (its t) v)) t.replicas; scan_field = n })
follow_opened m t S name i n v h = subst (λ x. IsOpened S (record (collection_of m t) { replicas = map (with_written name i x) t.replicas; scan_field = n })) (moved_same m t v) h

scan_at : (slots size : ℕ) (s : St) (r : IsConcurrent size s) (id : ℕ) (me : Sat) (q : Replica) → get_elem? s.views id ≡ some me.0 → me.0.copies ≡ true
    → In q r.theirs.replicas → q.place ≡ r.theirs.scan_place → q.object.raw ≡ false → r.theirs.scan_field < length q.object.fields
    → Leaves size s (field_place q.original r.theirs.scan_field) id me (tells_scan_of r.theirs (step slots (field_place q.original r.theirs.scan_field) 0 0 none) me)
scan_at slots size s r id me q seat copies here place plain within = go (lacks (its t) v) refl
  where
    t : Theirs
    t = r.theirs

    k : ℕ
    k = field_place q.original t.scan_field

    v : Value
    v = value_of (get_or s.words k 0)

    S : State
    S = plan r.mine t

    c : Collection
    c = collection_of r.mine t

    f : Reads size s r q t.scan_field
    f = reads_field size s r q t.scan_field here within

    plainly : f.block.header.raw ≡ false
    plainly = sym f.raw ∙ plain

    is : field_of (lookup S.heap.graph.objects q.original) t.scan_field ≡ Some v
    is = f.value ∙ ap (λ (b : Bool). Some (read_as b (get_or s.words k 0))) plainly

    one : (p : Replica) → In p t.replicas → p.place ≡ t.scan_place → q ≡ p
    one p l e = same_place 1 t.replicas (replicas_end t.replicas) q p ((r.opened).belongs).laid here l (place ∙ sym e)

    go : (o : Opt ℕ) → lacks (its t) v ≡ o → Leaves size s k id me (tells_scan_of t (step slots k 0 0 none) me)
    go None e = (
      record me.0 { theirs = scanned q.original t.scan_field v t },
      keeps,
      tt,
      theirs_keep size s r k id me.0 me.1 (scanned q.original t.scan_field v t) seat copies refl r.wanted
          (follow_opened r.mine t S q.original t.scan_field (suc t.scan_field) v
          (subst (λ (x : StepReply × State). IfSome x.1.collection (IsOpened S)) (scan_is S c q v (r.opened).belongs here place plain within is (lacks_same r.mine t v ∙ e))
          (open_keeps S c steps.Scan refl r.opened (λ e. cc e))))
          (kept_brought r.mine t r.carries q.original t.scan_field (moved (its t) v) (scanned q.original t.scan_field v t) refl refl refl)
          (brought_fits size s r q.original t.scan_field v) (λ e. absurd (replica_works r.mine t q r.rests here e)),
      λ p l e' _ _ _. (found_value size s r q t.scan_field f plainly, λ j. (record me.0 { theirs = after_read (scanned (one p l e' j).original t.scan_field v) (sym e j) t }, me.1)),
    )
    go (Some name) e = let lack = lacking (its t) v name e in (
      record me.0 { theirs = wants name t },
      keeps,
      tt,
      want size s r k id me name seat copies (found_start size s r q t.scan_field name f (ap (λ (b : Bool). read_as b (get_or s.words k 0)) plainly ∙ lack.0))
          (kept_target r.mine t r.carries q t.scan_field v name here is lack.0) (replica_works r.mine t q r.rests here),
      λ p l e' _ _ _. (found_value size s r q t.scan_field f plainly, λ j. (record me.0 { theirs = after_read (scanned p.original t.scan_field v) (sym e j) t }, me.1)),
    )

scans : (slots size id : ℕ) (me : Sat) (q : Replica) → me.0.copies ≡ true
    → In q me.0.theirs.replicas → q.place ≡ me.0.theirs.scan_place → q.object.raw ≡ false → me.0.theirs.scan_field < length q.object.fields
    → Allows (IsConcurrent size) slots id me (field_place q.original me.0.theirs.scan_field) (λ x. x) (tells_scan (step slots (field_place q.original me.0.theirs.scan_field) 0 0 none) me)
scans slots size id me q copies here place plain within s r _ seat _ =
    loosely size s (field_place q.original me.0.theirs.scan_field) id me (tells_scan_of me.0.theirs (step slots (field_place q.original me.0.theirs.scan_field) 0 0 none) me) seat (
    subst (λ (t : Theirs). In q t.replicas → q.place ≡ t.scan_place → t.scan_field < length q.object.fields → Leaves size s (field_place q.original t.scan_field) id me (tells_scan_of t (step slots (field_place q.original t.scan_field) 0 0 none) me))
    (sym ((r.seats id me.0 seat).1 copies).1)
    (λ here place within. scan_at slots size s r id me q seat copies here place plain within)
    here place within)

-- ---- the oldest entry is applied

-- without the oldest entry
abbrev pub without : List (ℕ × ℕ) → Theirs → Theirs
without rest t = record t { due = rest }

lacks_less : (t : Theirs) (rest : List (ℕ × ℕ)) (v : Value) → lacks (its (without rest t)) v ≡ lacks (its t) v
lacks_less t rest Nil = refl
lacks_less t rest (Num n) = refl
lacks_less t rest (Ref a) = refl

moved_less : (t : Theirs) (rest : List (ℕ × ℕ)) (v : Value) → moved (its (without rest t)) v ≡ moved (its t) v
moved_less t rest Nil = refl
moved_less t rest (Num n) = refl
moved_less t rest (Ref a) = refl

apply_is : (m : Mine) (t : Theirs) (q : Replica) (i : ℕ) (rest : List (ℕ × ℕ)) (v : Value) → let S = plan m t in let c = collection_of m t in let d = collection_of m (without rest t) in
    Belongs S.heap.graph.objects c → In q t.replicas → t.due ≡ (q.original, i) ∷ rest → field_of (lookup S.heap.graph.objects q.original) i ≡ Some v → lacks d v ≡ None
    → apply_log S c 1 t.due ≡ (Applied, with_collection S (Some (write_replica d q.original i (moved d v))))
apply_is m t q i rest v k here due is nl =
    let S = plan m t in let c = collection_of m t in let d = collection_of m (without rest t) in
    ap (apply_log S c 1) due
    ∙ ap (if_room S Applied) (cond-true (is_some (replica_of d q.original)) _ _ (ap is_some (found_by_name (IsDue c) S.heap.graph.objects c k q here)) ∙ bring_is d S.heap.graph q.original i v is nl)

-- the field of an entry is there
entry_within : (size : ℕ) (s : St) (r : IsConcurrent size s) (q : Replica) (i : ℕ) (rest : List (ℕ × ℕ)) → In q r.theirs.replicas → r.theirs.due ≡ (q.original, i) ∷ rest → i < length q.object.fields
entry_within size s r q i rest here due =
    let k = (r.opened).belongs in
    let there = k.entries q.original i (1, subst (In {X = ℕ × ℕ} (q.original, i)) (sym due) (inl refl)) in
    let rep = k.replicas q here in
    let same : Some there.0 ≡ Some rep.original = sym there.1 ∙ rep.found in
    let same' : there.0 ≡ rep.original = cc same in
    let e : length there.0.fields ≡ length rep.original.fields = ap (λ (o : Object). length o.fields) same' in
    let l = rep.len in let x = there.2 in omega arith

apply_at : (slots size : ℕ) (s : St) (r : IsConcurrent size s) (id : ℕ) (me : Sat) (q : Replica) (i : ℕ) (rest : List (ℕ × ℕ)) → get_elem? s.views id ≡ some me.0 → me.0.copies ≡ true
    → In q r.theirs.replicas → r.theirs.due ≡ (q.original, i) ∷ rest
    → Leaves size s (field_place q.original i) id me (tells_apply_of r.theirs (step slots (field_place q.original i) 0 0 none) me)
apply_at slots size s r id me q i rest seat copies here due = go (lacks (its t) v) refl
  where
    t : Theirs
    t = r.theirs

    k : ℕ
    k = field_place q.original i

    S : State
    S = plan r.mine t

    c : Collection
    c = collection_of r.mine t

    d : Collection
    d = collection_of r.mine (without rest t)

    f : Reads size s r q i
    f = reads_field size s r q i here (entry_within size s r q i rest here due)

    v : Value
    v = read_as q.object.raw (get_or s.words k 0)

    is : field_of (lookup S.heap.graph.objects q.original) i ≡ Some v
    is = f.value ∙ ap (λ (b : Bool). Some (read_as b (get_or s.words k 0))) (sym f.raw)

    -- another way to see the oldest entry
    one : (p : Replica) (j : ℕ) (more : List (ℕ × ℕ)) → In p t.replicas → t.due ≡ (p.original, j) ∷ more → (q ≡ p) × (i ≡ j)
    one p j more l e =
        let both : (q.original, i) ∷ rest ≡ (p.original, j) ∷ more = sym due ∙ e in
        let first : (q.original, i) ≡ (p.original, j) = cc both in (
          same_original t.replicas q p ((r.opened).belongs).once here l (ap (λ (x : ℕ × ℕ). x.0) first),
          ap (λ (x : ℕ × ℕ). x.1) first,
        )

    tell : (o : Opt ℕ) → lacks (its t) v ≡ o → (p : Replica) (j : ℕ) → (q ≡ p) × (i ≡ j)
        → ◌≡◌ {A = Sat} (record me.0 { theirs = after_read (applied q.original i v) o t }, me.1) (let u = read_as p.object.raw (get_or s.words k 0) in (record me.0 { theirs = after_read (applied p.original j u) (lacks (its t) u) t }, me.1))
    tell o e p j w =
        let both : o ≡ lacks (its t) (read_as p.object.raw (get_or s.words k 0)) = sym e ∙ ap (λ (z : Replica). lacks (its t) (read_as z.object.raw (get_or s.words k 0))) w.0 in
        λ x. (record me.0 { theirs = after_read (applied (w.0 x).original (w.1 x) (read_as (w.0 x).object.raw (get_or s.words k 0))) (both x) t }, me.1)

    go : (o : Opt ℕ) → lacks (its t) v ≡ o → Leaves size s k id me (tells_apply_of t (step slots k 0 0 none) me)
    go None e = (
      record me.0 { theirs = applied q.original i v t },
      keeps,
      tt,
      theirs_keep size s r k id me.0 me.1 (applied q.original i v t) seat copies refl r.wanted
          (subst (λ (x : List (ℕ × ℕ) × Value). IsOpened S (record c { replicas = map (with_written q.original i x.1) t.replicas; logs = r.mine.log ∷ x.0 ∷ [] }))
          (λ j. (sym (ap (drop 1) due) j, (moved_same r.mine (without rest t) v ∙ moved_less t rest v) j))
          (subst (λ (x : StepReply × State). IfSome x.1.collection (IsOpened S)) (apply_is r.mine t q i rest v (r.opened).belongs here due is (lacks_same r.mine (without rest t) v ∙ lacks_less t rest v ∙ e))
          (open_keeps S c (steps.Apply 1) refl r.opened (λ e. cc e))))
          (kept_brought r.mine t r.carries q.original i (moved (its t) v) (applied q.original i v t) refl refl refl)
          (brought_fits size s r q.original i v) (λ e. absurd (replica_works r.mine t q r.rests here e)),
      λ p j more l e' _. let w = one p j more l e' in (subst (λ (b : Bool). IsWordAs b (get_or s.words k 0)) (sym f.raw ∙ ap (λ (x : Replica). x.object.raw) w.0) (found_as size s r q i f), tell None e p j w),
    )
    go (Some name) e = let lack = lacking (its t) v name e in (
      record me.0 { theirs = wants name t },
      keeps,
      tt,
      want size s r k id me name seat copies (found_start size s r q i name f (ap (λ (b : Bool). read_as b (get_or s.words k 0)) (sym f.raw) ∙ lack.0))
          (kept_target r.mine t r.carries q i v name here is lack.0) (replica_works r.mine t q r.rests here),
      λ p j more l e' _. let w = one p j more l e' in (subst (λ (b : Bool). IsWordAs b (get_or s.words k 0)) (sym f.raw ∙ ap (λ (x : Replica). x.object.raw) w.0) (found_as size s r q i f), tell (Some name) e p j w),
    )

applies : (slots size id : ℕ) (me : Sat) (q : Replica) (i : ℕ) (rest : List (ℕ × ℕ)) → me.0.copies ≡ true
    → In q me.0.theirs.replicas → me.0.theirs.due ≡ (q.original, i) ∷ rest
    → Allows (IsConcurrent size) slots id me (field_place q.original i) (λ x. x) (tells_apply (step slots (field_place q.original i) 0 0 none) me)
applies slots size id me q i rest copies here due s r _ seat _ =
    loosely size s (field_place q.original i) id me (tells_apply_of me.0.theirs (step slots (field_place q.original i) 0 0 none) me) seat (
    subst (λ (t : Theirs). In q t.replicas → t.due ≡ (q.original, i) ∷ rest → Leaves size s (field_place q.original i) id me (tells_apply_of t (step slots (field_place q.original i) 0 0 none) me))
    (sym ((r.seats id me.0 seat).1 copies).1)
    (λ here due. apply_at slots size s r id me q i rest seat copies here due)
    here due)

-- ---- the same for callers, who have the place by an equation

pub scans_at : (slots size id : ℕ) (me : Sat) (q : Replica) (k : ℕ) → k ≡ field_place q.original me.0.theirs.scan_field → me.0.copies ≡ true
    → In q me.0.theirs.replicas → q.place ≡ me.0.theirs.scan_place → q.object.raw ≡ false → me.0.theirs.scan_field < length q.object.fields
    → Allows (IsConcurrent size) slots id me k (λ x. x) (tells_scan (step slots k 0 0 none) me)
scans_at slots size id me q k is copies here place plain within =
    subst (λ (z : ℕ). Allows (IsConcurrent size) slots id me z (λ x. x) (tells_scan (step slots z 0 0 none) me)) (sym is) (scans slots size id me q copies here place plain within)

pub applies_at : (slots size id : ℕ) (me : Sat) (q : Replica) (i : ℕ) (rest : List (ℕ × ℕ)) (k : ℕ) → k ≡ field_place q.original i → me.0.copies ≡ true
    → In q me.0.theirs.replicas → me.0.theirs.due ≡ (q.original, i) ∷ rest
    → Allows (IsConcurrent size) slots id me k (λ x. x) (tells_apply (step slots k 0 0 none) me)
applies_at slots size id me q i rest k is copies here due =
    subst (λ (z : ℕ). Allows (IsConcurrent size) slots id me z (λ x. x) (tells_apply (step slots z 0 0 none) me)) (sym is) (applies slots size id me q i rest copies here due)
