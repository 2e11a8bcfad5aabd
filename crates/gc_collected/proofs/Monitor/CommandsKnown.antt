-- The tables of a standing checker know the heap through the mutators' commands, and it is not lost at any.
-- For the theorem that the monitor is never lost.
use Rattle.std.proofs.lemmas.Grind.{common_steps}
use Rattle.std.proofs.Common.{◌≡◌, ◌≢◌, ◌⊎◌, inl, inr, ⊎_elim, ℕ, zero, suc, ◌+◌, ◌-◌, ◌<◌, ◌≤◌, ◌==◌, ◌&&◌, not, nat_lt, Bool, true, false, List, [], ◌∷◌, ◌++◌, map, length, get_or, set, Option, Some, None, refl, ap, sym, ◌∙◌, subst, arith}
use Rattle.std.specs.Prelude.{slice_get, slice_set, slice_index}
use Rattle.std.specs.Option.{unwrap_or}
use Rattle.std.proofs.lemmas.Bool.{cases_Bool, cases_eq, cond_both, ltb-true, ltb-false}
use Rattle.std.proofs.lemmas.List.{get_or_append_left, get_or-append_right, get_or-set_same, get_or-set_other}
use Rattle.gc_graph.specs.Graph.{Value, Nil, Num, Ref, Object, Graph, root, set_field, with_field, new_object, lookup}
use Rattle.gc_graph.specs.Machine.{Roomy, get_field, put_field, is_number, step, words_taken}
use Rattle.gc_graph.specs.Slots.{place}
use Rattle.gc_graph.specs.declared.command.Op.{Op}
use Rattle.gc_graph.specs.declared.command.Op.TheVariants as ops
use Rattle.gc_graph.specs.declared.reply.Reply.{Reply}
use Rattle.gc_words.specs.Word.{read_header}
use Rattle.gc_words.specs.Layout.{field_place}
use Rattle.gc_words.specs.declared.header.Header.{Header}
use Rattle.gc_model.specs.State.{Replica, Collection, State, heap_end, new_end}
use Rattle.gc_model.specs.Steps.{logged, mutate, fresh_collection}
use Rattle.gc_model.specs.Linked.{LeadsTo, object_header}
use Rattle.gc_model.specs.Members.{In}
use Rattle.gc_model.specs.Belonging.{IsDue, IsLogged, IsNamed, IsSpaceGraph, IsOpened}
use Rattle.gc_model.proofs.Public.{set_from, laid_range, laid_apart, end_is, in_left, in_push, in_map, placed}
use Rattle.gc_monitor.specs.Claims.{CanMake, CanWrite, IsLinked}
use Rattle.gc_monitor.specs.Events.{Made, Wrote, object_codes, old_added}
use Rattle.gc_monitor.specs.Tables.{Tables, watch_of, due_in}
use Rattle.gc_monitor.specs.Telling.{IsMark}
use Rattle.gc_monitor.proofs.Public.{agree_old, agree_due, in_front}
use Rattle.gc_collected.specs.Internal.Beside.{heap_words}
use Rattle.gc_collected.specs.Internal.Knows.{Knows, KnowsAll, open_or_fresh}
use Rattle.gc_collected.specs.Internal.Stays.{WatchFits}
use Rattle.gc_collected.proofs.Monitor.Claimed.{linked, is_at}
use Rattle.gc_collected.proofs.Monitor.Grown.{EndsMore}
use Rattle.gc_collected.proofs.Monitor.Shown.{AreSized, shown_at}
use Rattle.gc_collected.proofs.Monitor.StepsKnown.{unscanned_same}
use Rattle.gc_collected.proofs.Monitor.Told.{marked_at, fits_marked, replica_there}

-- ---- names

names_set : (name i : ℕ) (v : Value) (objects : List (ℕ × Object)) (a : ℕ) → IsNamed (set_field objects name i v) a → IsNamed objects a
names_set name i v objects a (o, l) =
    let w = set_from name i v objects (a, o) l in
    let is : w.0.0 ≡ a = ⊎_elim (λ e. ap (λ (e : ℕ × Object). e.0) e) (λ e. ap (λ (e : ℕ × Object). e.0) e) w.2 in
    (w.0.1, subst (λ n. In {X = ℕ × Object} (n, w.0.1) objects) is w.1)

names_put : (g : Graph) (v : Value) (target : Option Object) (found : Option Value) (i : ℕ) (w : Value) (a : ℕ) → IsNamed (put_field g v target found i w).1.objects a → IsNamed g.objects a
names_put g Nil target found i w a h = h
names_put g (Num n) target found i w a h = h
names_put g (Ref b) None found i w a h = h
names_put g (Ref b) (Some o) None i w a h = h
names_put g (Ref b) (Some o) (Some before) i w a h = cond_both (o.raw && not (is_number w)) _ _ (λ (next : Reply × Graph). IsNamed next.1.objects a → IsNamed g.objects a)
    (λ t n. n)
    (λ t n. names_set b i w g.objects a n)
    h

names_get : (g : Graph) (d : ℕ) (target : Option Object) (found : Option Value) (a : ℕ) → IsNamed (get_field g d target found).1.objects a → IsNamed g.objects a
names_get g d target found a h = grind (arith, common_steps)

-- a new object's name, if the command makes one
abbrev pub NewName : State → Op → ℕ → Type 0
NewName s op a = (1 ≤ words_taken op) × (a ≡ heap_end s)

names_more : (objects : List (ℕ × Object)) (name : ℕ) (o : Object) (a : ℕ) → IsNamed (objects ++ (name, o) ∷ []) a → IsNamed objects a ⊎ (a ≡ name)
names_more objects name o a (p, l) = ⊎_elim (λ k. inl (p, k)) (λ k. inr (sym (ap (λ (e : ℕ × Object). e.0) k))) (in_push (a, p) (name, o) objects l)

names_step : (g : Graph) (m : ℕ) (op : Op) (name a : ℕ) → IsNamed (step g m op name).1.objects a → IsNamed g.objects a ⊎ ((1 ≤ words_taken op) × (a ≡ name))
names_step g m (ops.New d kind len) name a h = ⊎_elim (λ k. inl k) (λ k. inr (omega arith, k)) (names_more g.objects name (new_object false kind len) a h)
names_step g m (ops.NewRaw d kind len) name a h = ⊎_elim (λ k. inl k) (λ k. inr (omega arith, k)) (names_more g.objects name (new_object true kind len) a h)
names_step g m (ops.Num d n) name a h = inl h
names_step g m (ops.Nil d) name a h = inl h
names_step g m (ops.Move d s) name a h = inl h
names_step g m (ops.Get d s i) name a h = inl (names_get g (place d m) _ _ a h)
names_step g m (ops.Put s i t) name a h = inl (names_put g (root g (place s m)) _ _ i (root g (place t m)) a h)
names_step g m (ops.Same s t) name a h = inl h
names_step g m (ops.Look s) name a h = inl h

-- ---- names stay

kept_set : (name i : ℕ) (v : Value) (objects : List (ℕ × Object)) (a : ℕ) → IsNamed objects a → IsNamed (set_field objects name i v) a
kept_set name i v [] a (o, l) = absurd l
kept_set name i v (e ∷ rest) a (o, l) = cond_both (e.0 == name) _ _ (λ (objects : List (ℕ × Object)). IsNamed objects a)
    (λ t. ⊎_elim (λ k. (with_field e.1 i v, inl (ap (λ (d : ℕ × Object). (d.0, with_field e.1 i v)) k))) (λ k. (o, inr k)) l)
    (λ f. ⊎_elim (λ k. (o, inl k)) (λ k. (let r = kept_set name i v rest a (o, k) in (r.0, inr r.1))) l)

kept_put : (g : Graph) (v : Value) (target : Option Object) (found : Option Value) (i : ℕ) (w : Value) (a : ℕ) → IsNamed g.objects a → IsNamed (put_field g v target found i w).1.objects a
kept_put g Nil target found i w a h = h
kept_put g (Num n) target found i w a h = h
kept_put g (Ref b) None found i w a h = h
kept_put g (Ref b) (Some o) None i w a h = h
kept_put g (Ref b) (Some o) (Some before) i w a h = cond_both (o.raw && not (is_number w)) _ _ (λ (next : Reply × Graph). IsNamed next.1.objects a)
    (λ t. h)
    (λ t. kept_set b i w g.objects a h)

kept_get : (g : Graph) (d : ℕ) (target : Option Object) (found : Option Value) (a : ℕ) → IsNamed g.objects a → IsNamed (get_field g d target found).1.objects a
kept_get g d target found a h = grind (arith, common_steps)

kept_step : (g : Graph) (m : ℕ) (op : Op) (name a : ℕ) → IsNamed g.objects a → IsNamed (step g m op name).1.objects a
kept_step g m (ops.New d kind len) name a h = (h.0, in_left {X = ℕ × Object} (a, h.0) g.objects ((name, new_object false kind len) ∷ []) h.1)
kept_step g m (ops.NewRaw d kind len) name a h = (h.0, in_left {X = ℕ × Object} (a, h.0) g.objects ((name, new_object true kind len) ∷ []) h.1)
kept_step g m (ops.Num d n) name a h = h
kept_step g m (ops.Nil d) name a h = h
kept_step g m (ops.Move d s) name a h = h
kept_step g m (ops.Get d s i) name a h = kept_get g (place d m) _ _ a h
kept_step g m (ops.Put s i t) name a h = kept_put g (root g (place s m)) _ _ i (root g (place t m)) a h
kept_step g m (ops.Same s t) name a h = h
kept_step g m (ops.Look s) name a h = h

-- ---- what goes on through commands

-- the same collection but for entries more
pub record SameBut (c d : Collection) : Type 0 where
  pub size : d.size ≡ c.size
  pub replicas : d.replicas ≡ c.replicas
  pub scan_place : d.scan_place ≡ c.scan_place
  pub scan_field : d.scan_field ≡ c.scan_field
  pub logged : (a i : ℕ) → IsLogged c a i → IsLogged d a i

same_but : (c : Collection) → SameBut c c
same_but c = record { size = refl; replicas = refl; scan_place = refl; scan_field = refl; logged = λ a i l. l }

abbrev pub SameOpen : Option Collection → Option Collection → Type 0
SameOpen None None = Unit {0}
SameOpen None (Some d) = ⊥
SameOpen (Some c) None = ⊥
SameOpen (Some c) (Some d) = SameBut c d

-- commands led from one state to another, no objects but these were made, and none is gone
pub record Continues (s s' : State) (New : ℕ → Type 0) : Type 0 where
  pub mutators : s'.mutators ≡ s.mutators
  pub size : s'.size ≡ s.size
  pub collection : SameOpen s.collection s'.collection
  pub names : (a : ℕ) → IsNamed s'.heap.graph.objects a → IsNamed s.heap.graph.objects a ⊎ New a
  pub stays : (a : ℕ) → IsNamed s.heap.graph.objects a → IsNamed s'.heap.graph.objects a

same_open : (o : Option Collection) → SameOpen o o
same_open o = grind (arith, common_steps, same_but)

pub continues_same : (s : State) (New : ℕ → Type 0) → Continues s s New
continues_same s New = record { mutators = refl; size = refl; collection = same_open s.collection; names = λ a n. inl n; stays = λ a n. n }

open_trans : (o p q : Option Collection) → SameOpen o p → SameOpen p q → SameOpen o q
open_trans None None None h k = tt
open_trans None None (Some d) h k = absurd k
open_trans None (Some d) q h k = absurd h
open_trans (Some c) None q h k = absurd h
open_trans (Some c) (Some d) None h k = absurd k
open_trans (Some c) (Some d) (Some e) h k = grind (arith, common_steps)

pub continues_on : (s mid s' : State) (One Two All : ℕ → Type 0) → ((a : ℕ) → One a → All a) → ((a : ℕ) → Two a → All a) → Continues s mid One → Continues mid s' Two → Continues s s' All
continues_on s mid s' One Two All f g h k = record {
  mutators = k.mutators ∙ h.mutators;
  size = k.size ∙ h.size;
  collection = open_trans s.collection mid.collection s'.collection h.collection k.collection;
  names = λ a n. ⊎_elim (λ m. ⊎_elim (λ l. inl l) (λ l. inr (f a l)) (h.names a m)) (λ m. inr (g a m)) (k.names a n);
  stays = λ a n. k.stays a (h.stays a n);
}

-- entries behind those of a log
log_more : (logs : List (List (ℕ × ℕ))) (m : ℕ) (more : List (ℕ × ℕ)) (k : ℕ) (e : ℕ × ℕ) → In e (unwrap_or (slice_get logs k) []) → In e (unwrap_or (slice_get (slice_set logs m (unwrap_or (slice_get logs m) [] ++ more)) k) [])
log_more [] m more k e l = l
log_more (log ∷ logs) zero more zero e l = in_left e log more l
log_more (log ∷ logs) zero more (suc k) e l = l
log_more (log ∷ logs) (suc m) more zero e l = l
log_more (log ∷ logs) (suc m) more (suc k) e l = log_more logs m more k e l

logged_open : (o : Option Collection) (m : ℕ) (more : List (ℕ × ℕ)) → SameOpen o (logged o m more)
logged_open None m more = tt
logged_open (Some c) m more = record { size = refl; replicas = refl; scan_place = refl; scan_field = refl; logged = λ a i l. (l.0, log_more c.logs m more l.0 (a, i) l.1) }

pub continues_one : (s s' : State) (m : ℕ) (op : Op) (reply : Reply) → mutate s m op ≡ (reply, s') → Continues s s' (NewName s op)
continues_one s s' m op reply said = subst (λ (x : Reply × State). Continues s x.1 (NewName s op)) said (record {
  mutators = refl;
  size = refl;
  collection = logged_open s.collection m _;
  names = λ a. cond_both (nat_lt s.heap.free (words_taken op)) _ _ (λ (next : Reply × Roomy). IsNamed next.1.graph.objects a → IsNamed s.heap.graph.objects a ⊎ NewName s op a)
      (λ full n. inl n)
      (λ fits n. names_step s.heap.graph m op (heap_end s) a n);
  stays = λ a n. cond_both (nat_lt s.heap.free (words_taken op)) _ _ (λ (next : Reply × Roomy). IsNamed next.1.graph.objects a)
      (λ full. n)
      (λ fits. kept_step s.heap.graph m op (heap_end s) a n);
})

-- ---- tables that stay as they are

open_same : (s s' : State) (o p : Option Collection) → s'.mutators ≡ s.mutators → SameOpen o p → SameBut (open_or_fresh s o) (open_or_fresh s' p)
open_same s s' None None m h = subst (λ n. SameBut (fresh_collection s.mutators 1) (fresh_collection n 1)) (sym m) (same_but (fresh_collection s.mutators 1))
open_same s s' None (Some d) m h = absurd h
open_same s s' (Some c) None m h = absurd h
open_same s s' (Some c) (Some d) m h = h

due_on : (c d : Collection) → SameBut c d → (raw : Bool) (p a i : ℕ) → IsDue c raw p a i → IsDue d raw p a i
due_on c d same raw p a i x = grind (arith, common_steps, unscanned_same)

-- the marks of the later objects are all that is asked of them
known_on : (s s' : State) (c d : Collection) (t : Tables) → SameBut c d → s'.size ≡ s.size → ((a : ℕ) → IsNamed s'.heap.graph.objects a → IsMark (get_or t.olds a 0)) → ((a : ℕ) → IsNamed s.heap.graph.objects a → IsNamed s'.heap.graph.objects a) → Knows s c t → Knows s' d t
known_on s s' c d t same size marked stays k = grind (arith, common_steps, due_on)

pub quiet_known : (s s' : State) (t : Tables) (New : ℕ → Type 0) → Continues s s' New → ((a : ℕ) → New a → ⊥) → KnowsAll s t → KnowsAll s' t
quiet_known s s' t New on none k = known_on s s' (open_or_fresh s s.collection) (open_or_fresh s' s'.collection) t (open_same s s' s.collection s'.collection on.mutators on.collection) on.size
    (λ a n. ⊎_elim (λ l. k.marks.olds a l) (λ l. absurd (none a l)) (on.names a n)) on.stays k

-- ---- an object made

mark_in_front : (xs ys : List ℕ) (k : ℕ) → IsMark (get_or xs k 0) → IsMark (get_or (xs ++ ys) k 0)
mark_in_front xs ys k h = grind (arith, common_steps, in_front)

no_mark : (n k : ℕ) → get_or (object_codes n 0) k 0 ≢ 2
no_mark n k e = grind (arith, common_steps)

-- only the first word of a new object has a mark
only_first : (n k : ℕ) → IsMark (get_or (object_codes n 0) k 0) → k ≡ 0
only_first n k mark = grind (arith, common_steps, get_or)

module _ (s s' : State) (t : Tables) (links : ℕ → ℕ) (later : IsSpaceGraph s'.size s'.heap.free s'.heap.graph) (more : EndsMore s s') (on : Continues s s' (λ a. a ≡ heap_end s)) (seen : length t.olds ≡ heap_end s) (k : KnowsAll s t) where
  count : length (heap_words links s') ≡ heap_end s'
  count = end_is links s'.size s'.heap.free s'.heap.graph later

  -- there is room for it
  pub can_make : CanMake (heap_words links s') t
  can_make less = ⊎_elim
      (λ (same : heap_end s ≡ heap_end s'). absurd (omega (arith, count)))
      (λ (one : (e : Object) × (In (heap_end s, e) s'.heap.graph.objects × (heap_end s + (length e.fields + 2) ≡ heap_end s'))).
      (let sized : AreSized s'.heap.graph.objects = (λ d l. (let o = later.objects d.0 d.1 l in (o.kind, o.len))) in
      let shows = shown_at links s'.heap.graph.objects (heap_end s') (heap_end s) one.0 later.laid sized one.1.0 in
      let end : heap_end s + (length one.0.fields + 2) ≡ heap_end s' = one.1.1 in
      let high : s'.size ≤ 4294967295 = later.high in
      let size : s'.size ≡ s.size = on.size in
      let room : s.size ≤ t.room = k.old_room in (
        object_header one.0,
        record {
          header = ap (λ n. read_header (slice_index (heap_words links s') n)) seen ∙ shows.header;
          within = omega (arith, count);
          bound = omega arith;
        },
        omega arith,
      )))
      more

  pub made_known : (after : Tables) → Made (heap_words links s') t after → KnowsAll s' after
  made_known after is = elim (cases_Bool (nat_lt (length t.olds) (length (heap_words links s')))) [
    | inl y ↦ (let m = is.more (ltb-true (length t.olds) (length (heap_words links s')) y) in subst (KnowsAll s') (sym m.2) (one_more (ltb-true (length t.olds) (length (heap_words links s')) y) m.0))
    | inr n ↦ (let past : length (heap_words links s') ≤ length t.olds = ltb-false (length t.olds) (length (heap_words links s')) n in
        subst (KnowsAll s') (sym (is.at_end past)) (known_on s s' (open_or_fresh s s.collection) (open_or_fresh s' s'.collection) t same on.size
        (λ a l. ⊎_elim (λ old. k.marks.olds a old) (λ new. absurd (none_behind a l (omega (arith, count)))) (on.names a l)) on.stays k))
  ]
    where
      same : SameBut (open_or_fresh s s.collection) (open_or_fresh s' s'.collection)
      same = open_same s s' s.collection s'.collection on.mutators on.collection

      none_behind : (a : ℕ) → IsNamed s'.heap.graph.objects a → heap_end s' ≤ a → ⊥
      none_behind a (o, l) past = let range = laid_range 1 s'.heap.graph.objects (heap_end s') (a, o) later.laid l in let high : a + (length o.fields + 2) ≤ heap_end s' = range.1 in absurd (omega arith)

      -- the object that the walk came to
      new_name : length t.olds < length (heap_words links s') → IsNamed s'.heap.graph.objects (length t.olds)
      new_name less = grind (arith, common_steps, same, count)

      one_more : length t.olds < length (heap_words links s') → (h : Header) → KnowsAll s' (old_added t h)
      one_more less h = record {
        agree = agree_old t h k.agree;
        due = λ place x. (let f = k.due place x in (f.0, subst (In f.0) (sym same.replicas) f.1, f.2, f.3, f.4, due_on (open_or_fresh s s.collection) (open_or_fresh s' s'.collection) same f.0.object.raw f.0.place f.0.original f.2 f.5));
        marks = record {
          olds = λ a l. ⊎_elim
              (λ old. mark_in_front t.olds (object_codes h.len 0) a (k.marks.olds a old))
              (λ new. inl (get_or-append_right t.olds (object_codes h.len 0) (length t.olds) a 0 refl (omega arith) ∙ ap (λ n. get_or (object_codes h.len 0) n 0) (let z : a - length t.olds ≡ 0 = omega arith in z)))
              (on.names a l);
          starts = λ a mark. elim (cases_Bool (nat_lt a (length t.olds))) [
            | inl y ↦ on.stays a (k.marks.starts a (subst IsMark (get_or_append_left t.olds (object_codes h.len 0) 0 a (ltb-true a (length t.olds) y)) mark))
            | inr n ↦ (let past : length t.olds ≤ a = ltb-false a (length t.olds) n in
                let first : a - length t.olds ≡ 0 = only_first h.len (a - length t.olds) (subst IsMark (get_or-append_right t.olds (object_codes h.len 0) (length t.olds) a 0 refl past) mark) in
                let here : length t.olds ≡ a = omega arith in
                subst (IsNamed s'.heap.graph.objects) here (new_name less))
          ];
          taken = λ a e. elim (cases_Bool (nat_lt a (length t.olds))) [
            | inl y ↦ (let r = k.marks.taken a (sym (get_or_append_left t.olds (object_codes h.len 0) 0 a (ltb-true a (length t.olds) y)) ∙ e) in (r.0, subst (In r.0) (sym same.replicas) r.1, r.2))
            | inr n ↦ absurd (no_mark h.len (a - length t.olds) (sym (get_or-append_right t.olds (object_codes h.len 0) (length t.olds) a 0 refl (ltb-false a (length t.olds) n)) ∙ e))
          ];
          news = λ r l. k.marks.news r (subst (In r) same.replicas l);
          places = λ b e. (let r = k.marks.places b e in (r.0, subst (In r.0) (sym same.replicas) r.1, r.2));
          free = k.marks.free;
        };
        old_room = subst (λ n. n ≤ t.room) (sym on.size) k.old_room;
        new_room = subst (λ n. n ≤ t.room) (sym same.size) k.new_room;
      }

-- ---- a field that was written, and logged

module _ (s : State) (d : Collection) (links : ℕ → ℕ) (heap : IsSpaceGraph s.size s.heap.free s.heap.graph) (opened : IsOpened s d) (t : Tables) (fits : WatchFits (heap_end s) d (watch_of t)) (k : Knows s d t) (a i : ℕ) (noted : IsLogged d a i) where
  field_is : (q : Replica) → In q d.replicas → q.original ≡ a → i < length q.object.fields
  field_is q l name =
      let h = opened.belongs.entries a i noted in
      let ok = opened.belongs.replicas q l in
      let same : h.0 ≡ ok.original = (let e : Some h.0 ≡ Some ok.original = sym h.1 ∙ (ap (lookup s.heap.graph.objects) (sym name) ∙ ok.found) in cc) in
      let len : length q.object.fields ≡ length ok.original.fields = ok.len in
      let less : i < length h.0.fields = h.2 in
      let one : length h.0.fields ≡ length ok.original.fields = ap (λ (o : Object). length o.fields) same in
      omega arith

  row_has : (q : Replica) → In q d.replicas → q.original ≡ a → field_place q.place i < length t.news
  row_has q l name = grind (arith, common_steps, (is_at s d links heap opened q l).place_within, field_is q l name)

  pub can_write : LeadsTo links d → CanWrite (heap_words links s) a i t
  can_write lead taken =
      let r = k.marks.taken a taken in
      (r.0.place, subst (λ n. IsLinked (heap_words links s) t n r.0.place) r.2 (linked s d links heap opened t r.0 r.1 lead fits), row_has r.0 r.1 r.2)

  pub wrote_known : (after : Tables) → Wrote a i t after → Knows s d after × WatchFits (heap_end s) d (watch_of after)
  wrote_known after (inl (none, same)) = subst (λ (x : Tables). Knows s d x × WatchFits (heap_end s) d (watch_of x)) (sym same) (k, fits)
  wrote_known after (inr (b, at, within, is)) =
      let q = replica_there (heap_end s) d t fits a b at in
      let name : q.0.original ≡ a = ap (λ (p : ℕ × ℕ). p.0) q.2 in
      let place : q.0.place ≡ b = ap (λ (p : ℕ × ℕ). p.1) q.2 in
      subst (λ (x : Tables). Knows s d x × WatchFits (heap_end s) d (watch_of x)) (sym is) (
        record {
          agree = agree_due t (field_place b i) true k.agree;
          due = λ p x. elim (cases_eq p (field_place b i)) [
            | inl here ↦ (q.0, q.1, i, field_is q.0 q.1 name, here ∙ ap (λ n. field_place n i) (sym place), inr (subst (λ n. IsLogged d n i) (sym name) noted))
            | inr other ↦ k.due p (sym (get_or-set_other (due_in t.news) (field_place b i) p true false other) ∙ (sym (ap (λ bs. get_or bs p false) (marked_at t (field_place b i) true)) ∙ x))
          ];
          marks = record {
            olds = k.marks.olds;
            starts = k.marks.starts;
            taken = k.marks.taken;
            news = λ r l. get_or-set_other t.news (field_place b i) r.place 3 0 (apart q.0 q.1 name place r l) ∙ k.marks.news r l;
            places = λ p e. elim (cases_eq p (field_place b i)) [
              | inl here ↦ absurd (let no : 3 ≡ 1 = sym (ap (λ n. get_or (set t.news (field_place b i) 3) n 0) here ∙ get_or-set_same t.news (field_place b i) 3 0 within) ∙ e in omega arith)
              | inr other ↦ k.marks.places p (sym (get_or-set_other t.news (field_place b i) p 3 0 other) ∙ e)
            ];
            free = λ p e. elim (cases_eq p (field_place b i)) [
              | inl here ↦ absurd (let no : 3 ≡ 2 = sym (ap (λ n. get_or (set t.news (field_place b i) 3) n 0) here ∙ get_or-set_same t.news (field_place b i) 3 0 within) ∙ e in omega arith)
              | inr other ↦ k.marks.free p (sym (get_or-set_other t.news (field_place b i) p 3 0 other) ∙ e)
            ];
          };
          old_room = k.old_room;
          new_room = k.new_room;
        },
        fits_marked (heap_end s) d t (field_place b i) true fits,
      )
    where
      apart : (q : Replica) → In q d.replicas → q.original ≡ a → q.place ≡ b → (r : Replica) → In r d.replicas → r.place ≢ field_place b i
      apart q l name place r m e =
          let less : i < length q.object.fields = field_is q l name in
          ⊎_elim
          (λ same. (let p : r.place ≡ q.place = ap (λ (e : ℕ × Object). e.0) same in absurd (omega arith)))
          (⊎_elim (λ x. (let y : r.place + (length r.object.fields + 2) ≤ q.place = x in absurd (omega arith))) (λ x. (let y : q.place + (length q.object.fields + 2) ≤ r.place = x in absurd (omega arith))))
          (laid_apart 1 (map placed d.replicas) (new_end d) (placed r) (placed q) opened.belongs.laid (in_map placed r d.replicas m) (in_map placed q d.replicas l))
