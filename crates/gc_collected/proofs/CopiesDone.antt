-- Where a copy of fields may begin, each of its fields takes a value, which is read there again.
use Rattle.std.proofs.lemmas.Grind.{common_steps}
use Rattle.std.proofs.Common.{◌≡◌, ◌<◌, ◌≤◌, ◌+◌, ◌-◌, ℕ, zero, suc, List, [], ◌∷◌, ◌++◌, length, take, drop, Some, None, Option, Bool, true, false, refl, sym, ap, ◌∙◌, subst, cond, arith}
use Rattle.std.specs.Prelude.{◌==◌, get_or, slice_get, slice_set, not, ◌||◌, ◌&&◌}
use Rattle.std.specs.List.{list_all}
use Rattle.std.specs.Option.{option_map, unwrap_or}
use Rattle.std.proofs.lemmas.List.{length-map, length-set}
use Rattle.std.proofs.lemmas.Option.{slice_get-get_or}
use Rattle.gc_graph.specs.Graph.{Value, Nil, Num, Ref, Object, Graph, field_of, lookup, object_of, root, set_field, with_field}
use Rattle.gc_graph.specs.Slots.{SlotName, place}
use Rattle.gc_graph.specs.declared.reply.Reply.{Reply}
use Rattle.gc_model.proofs.Public.{get_set_same, in_right, lookup_in, lookup_written}
use Rattle.gc_graph.specs.Machine.{is_number, put_field}
use Rattle.gc_graph.specs.declared.reply.Reply.TheVariants.{Done, NoObject}
use Rattle.std.proofs.lemmas.Bool.{cases_Bool, cases_eq, le-leb, leb-true}
use Rattle.std.proofs.Common.{eq-eqb, eqb-true, inl, inr, ⊎_elim}
use Rattle.gc_words.specs.Image.{Block, block_at, header_at, header_of, object_of_block}
use Rattle.gc_words.specs.Space.{free_in}
use Rattle.gc_words.specs.declared.header.Header.{Header}
use Rattle.gc_words.proofs.Public.{object_found}
use Rattle.gc_heap.specs.Filling.{PutsValue}
use Rattle.gc_heap.specs.Heap.{HeapWords, graph_in}
use Rattle.gc_heap.specs.Places.{root_at}
use Rattle.gc_model.specs.Belonging.{IsLogged, IsOpened, IsSpaceGraph}
use Rattle.gc_model.specs.Members.{In}
use Rattle.gc_model.specs.State.{Collection}
use Rattle.gc_model.specs.Steps.{log_at}
use Rattle.gc_copy.specs.Words.{CollectionWords, BelongsTo, collection_in, entries_of, open_state}
use Rattle.gc_monitor.specs.Claims.{CanWriteRow}
use Rattle.gc_monitor.specs.Events.{WroteRow}
use Rattle.gc_monitor.specs.Tables.{Tables}
use Rattle.gc_collected.specs.Internal.Beside.{AreOld}
use Rattle.gc_collected.specs.Internal.Follows.{Follows}
use Rattle.gc_collected.specs.Copying.{copy_reply, object_in, value_in, values_in}
use Rattle.gc_collected.specs.Internal.Together.{Logs, fields_from}
use Rattle.gc_collected.proofs.Monitor.Ran.{Ran}
use Rattle.gc_collected.proofs.ValuesPut.{given}
use Rattle.gc_collected.proofs.Monitor.Follows.{IsAmong, follows_written}

-- ---- an object after a write

pub written_itself : (objects : List (ℕ × Object)) (n i : ℕ) (v : Value) (o : Object) → lookup objects n ≡ Some o → lookup (set_field objects n i v) n ≡ Some (with_field o i v)
written_itself objects n i v o there = lookup_written n i v objects n o there ∙ ap (λ b. Some (cond b (with_field o i v) o)) (eq-eqb n n refl)

written_beside : (objects : List (ℕ × Object)) (n i : ℕ) (v : Value) (x : ℕ) (o : Object) → (x == n) ≡ false → lookup objects x ≡ Some o → lookup (set_field objects n i v) x ≡ Some o
written_beside objects n i v x o other there = lookup_written n i v objects x o there ∙ ap (λ b. Some (cond b (with_field o i v) o)) other

-- ---- values in a row

opened : (values : List Value) (j n : ℕ) (v : Value) → slice_get values j ≡ Some v → take (suc n) (drop j values) ≡ v ∷ take n (drop (suc j) values)
opened [] j n v there = absurd (let no : None ≡ Some v = there in cc)
opened (w ∷ values) zero n v there = ap (λ x. x ∷ take n values) (let same : Some w ≡ Some v = there in cc)
opened (w ∷ values) (suc j) n v there = opened values j n v there

-- a number that is written leaves numbers
numbers_kept : (values : List Value) (i j n : ℕ) (v : Value) → is_number v ≡ true → list_all is_number (take n (drop j values)) ≡ true → list_all is_number (take n (drop j (slice_set values i v))) ≡ true
numbers_kept [] i j n v is all = all
numbers_kept (w ∷ values) zero zero zero v is all = refl
numbers_kept (w ∷ values) zero zero (suc n) v is all = grind (arith, common_steps)
numbers_kept (w ∷ values) zero (suc j) n v is all = all
numbers_kept (w ∷ values) (suc i) zero zero v is all = refl
numbers_kept (w ∷ values) (suc i) zero (suc n) v is all = grind (arith, common_steps, numbers_kept values i zero n v is)
numbers_kept (w ∷ values) (suc i) (suc j) n v is all = numbers_kept values i j n v is all

-- ---- two objects

-- fields of one object from i on take as many values of the other from j on
record CanCopy (target source : Object) (i j count : ℕ) : Type 0 where
  wide : i + count ≤ length target.fields
  long : j + count ≤ length source.fields
  taken : (not target.raw || list_all is_number (take count (drop j source.fields))) ≡ true

values_taken : (source : Object) (j count : ℕ) → values_in source j count ≡ take count (drop j source.fields)
values_taken source j count = ap (λ n. take n (drop j source.fields)) (let e : j + count - j ≡ count = omega arith in e)

can_copy : (target source : Object) (i j count : ℕ) → copy_reply i j count (Some target) (Some source) ≡ Done → CanCopy target source i j count
can_copy target source i j count done = grind (arith, common_steps, values_taken, le-leb, leb-true)

copy_done : (target source : Object) (i j count : ℕ) → CanCopy target source i j count → copy_reply i j count (Some target) (Some source) ≡ Done
copy_done target source i j count can = grind (arith, common_steps, values_taken, le-leb)

-- one field further, after its value was written to the first object
abbrev first_value : Object → ℕ → Value
first_value source j = get_or source.fields j Nil

first_there : (target source : Object) (i j count : ℕ) → CanCopy target source i j (suc count) → slice_get source.fields j ≡ Some (first_value source j)
first_there target source i j count can = slice_get-get_or source.fields j Nil (let long = can.long in omega arith)

first_taken : (target source : Object) (i j count : ℕ) → CanCopy target source i j (suc count) → (not target.raw || (is_number (first_value source j) && list_all is_number (take count (drop (suc j) source.fields)))) ≡ true
first_taken target source i j count can = ap (λ vs. not target.raw || list_all is_number vs) (sym (opened source.fields j count (first_value source j) (first_there target source i j count can))) ∙ can.taken

accepted : (raw number rest : Bool) → (not raw || (number && rest)) ≡ true → (raw && not number) ≡ false
accepted false number rest taken = refl
accepted true false rest taken = absurd (let no : false ≡ true = taken in cc)
accepted true true rest taken = refl

rest_taken : (raw number rest : Bool) → (not raw || (number && rest)) ≡ true → (not raw || rest) ≡ true
rest_taken false number rest taken = refl
rest_taken true false rest taken = absurd (let no : false ≡ true = taken in cc)
rest_taken true true rest taken = taken

can_go_on : (target source : Object) (i j count : ℕ) (v : Value) → CanCopy target source i j (suc count) → CanCopy (with_field target i v) source (suc i) (suc j) count
can_go_on target source i j count v can = record {
  wide = let wide = can.wide in let same = length-set target.fields i v in omega arith;
  long = let long = can.long in omega arith;
  taken = rest_taken target.raw (is_number (first_value source j)) (list_all is_number (take count (drop (suc j) source.fields))) (first_taken target source i j count can);
}

-- within one object
still_taken : (raw : Bool) (fields : List Value) (i j count : ℕ) (v : Value) → (not raw || (is_number v && list_all is_number (take count (drop j fields)))) ≡ true → (not raw || list_all is_number (take count (drop j (slice_set fields i v)))) ≡ true
still_taken false fields i j count v taken = refl
still_taken true fields i j count v taken = grind (arith, common_steps, numbers_kept fields i j count v)

can_go_on_within : (object : Object) (i j count : ℕ) → CanCopy object object i j (suc count) → (let next = with_field object i (first_value object j) in CanCopy next next (suc i) (suc j) count)
can_go_on_within object i j count can = record {
  wide = let wide = can.wide in let same = length-set object.fields i (first_value object j) in omega arith;
  long = let long = can.long in let same = length-set object.fields i (first_value object j) in omega arith;
  taken = still_taken object.raw object.fields i (suc j) count (first_value object j) (first_taken object object i j count can);
}

-- ---- in a graph

abbrev both_found : (o p : Option Object) (i j count : ℕ) → copy_reply i j count o p ≡ Done → (target : Object) × (source : Object) × (o ≡ Some target) × (p ≡ Some source)
both_found None p i j count done = absurd (let no : NoObject ≡ Done = done in cc)
both_found (Some target) None i j count done = absurd (let no : NoObject ≡ Done = done in cc)
both_found (Some target) (Some source) i j count done = (target, source, refl, refl)

referred : (objects : List (ℕ × Object)) (v : Value) (o : Object) → object_of objects v ≡ Some o → (b : ℕ) × (v ≡ Ref b) × (lookup objects b ≡ Some o)
referred objects Nil o found = absurd (let no : None ≡ Some o = found in cc)
referred objects (Num n) o found = absurd (let no : None ≡ Some o = found in cc)
referred objects (Ref b) o found = (b, refl, found)

-- ---- with the log and the monitor

among_fields : (a i n x j : ℕ) → In {X = ℕ × ℕ} (x, j) (fields_from a i n) → IsAmong a i n x j
among_fields a i zero x j h = absurd h
among_fields a i (suc n) x j (inl e) = (sym (ap (λ (p : ℕ × ℕ). p.0) e), (let same : i ≡ j = ap (λ (p : ℕ × ℕ). p.1) e in omega arith), (let same : i ≡ j = ap (λ (p : ℕ × ℕ). p.1) e in omega arith))
among_fields a i (suc n) x j (inr h) = let later = among_fields a (suc i) n x j h in (later.0, omega (arith, later.1), omega (arith, later.2))

in_fields : (a i n j : ℕ) → i ≤ j → j < i + n → In {X = ℕ × ℕ} (a, j) (fields_from a i n)
in_fields a i zero j low high = absurd (omega (arith, low, high))
in_fields a i (suc n) j low high = elim (cases_eq i j) [
  | inl same ↦ inl (ap (λ k. (a, k)) same)
  | inr other ↦ inr (in_fields a (suc i) n j (omega (arith, low, other)) (omega (arith, high)))
]

-- while a collection is open the monitor is told of all fields
pub row_told : (heap new : HeapWords) (c next : CollectionWords) (m a i count : ℕ) (old : List ℕ) (w after : Tables) → BelongsTo heap c → m < heap.mutators
    → Ran (open_state heap c) (open_state new next) (λ b k. In {X = ℕ × ℕ} (b, k) (fields_from a i count)) → Logs c m (fields_from a i count) next → IsOpened (open_state heap c) (collection_in c) → IsOpened (open_state new next) (collection_in next) → IsSpaceGraph new.space.size (free_in new.space) (graph_in new)
    → AreOld (open_state new next) old → (w.lost ≡ false → CanWriteRow old a i count w → after.lost ≡ false) → (after.lost ≡ false → WroteRow a i count w after) → Follows (open_state heap c) w → Follows (open_state new next) after
row_told heap new c next m a i count old w after belongs less ran logs opened_then opened_now graph olds stays wrote f =
    follows_written (open_state heap c) (open_state new next) a i count (λ b k. In {X = ℕ × ℕ} (b, k) (fields_from a i count)) old w after opened_then opened_now graph
    ran (λ x k. among_fields a i count x k)
    (λ e. cc)
    (λ e there k low high. (let same : collection_in next ≡ e = cc there in subst (λ (e : Collection). IsLogged e a k) same (logged k low high)))
    olds stays wrote f
  where
    within : m < length (collection_in c).logs
    within = let e : length c.logs ≡ heap.mutators = belongs.logs in let n = length-map c.logs entries_of in omega arith

    log : log_at (collection_in next) m ≡ log_at (collection_in c) m ++ fields_from a i count
    log = ap (λ (e : Collection). log_at e m) logs.collection ∙ ap (λ o. unwrap_or o []) (get_set_same (collection_in c).logs m (log_at (collection_in c) m ++ fields_from a i count) within)

    logged : (k : ℕ) → i ≤ k → k < i + count → IsLogged (collection_in next) a k
    logged k low high = (m, subst (λ (es : List (ℕ × ℕ)). In (a, k) es) (sym log) (in_right {X = ℕ × ℕ} (a, k) (log_at (collection_in c) m) (fields_from a i count) (in_fields a i count k low high)))

-- the fields end within an object
pub fields_fit : (size free : ℕ) (g : Graph) (m i j count : ℕ) (d s : SlotName) → IsSpaceGraph size free g → copy_reply i j count (object_in g d m) (object_in g s m) ≡ Done → i + count ≤ 65535
fields_fit size free g m i j count d s graph done =
    let both = both_found (object_in g d m) (object_in g s m) i j count done in
    let name = referred g.objects (root g (place d m)) both.0 both.2 in
    let can = can_copy both.0 both.1 i j count (sym (ap (λ o. copy_reply i j count o (Some both.1)) both.2 ∙ refl) ∙ sym (ap (λ p. copy_reply i j count (object_in g d m) p) both.3) ∙ done) in
    let short = (graph.objects name.0 both.0 (lookup_in g.objects name.0 both.0 name.2)).len in
    omega (arith, can.wide, short)

-- ---- a field that is copied through no root

-- the first of the two roots refers to an object
pub taker_named : (g : Graph) (p q i j n : ℕ) → copy_reply i j n (object_in g (root_at p) 0) (object_in g (root_at q) 0) ≡ Done → (a : ℕ) × (root g p ≡ Ref a)
taker_named g p q i j n done =
    let both = both_found (object_in g (root_at p) 0) (object_in g (root_at q) 0) i j n done in
    let name = referred g.objects (root g p) both.0 both.2 in
    (name.0, name.1)

module _ (g : Graph) (p q a i j n : ℕ) (target : root g p ≡ Ref a) (done : copy_reply i j (suc n) (object_in g (root_at p) 0) (object_in g (root_at q) 0) ≡ Done) where
  abbrev both : (o : Object) × (r : Object) × (object_in g (root_at p) 0 ≡ Some o) × (object_in g (root_at q) 0 ≡ Some r)
  both = both_found (object_in g (root_at p) 0) (object_in g (root_at q) 0) i j (suc n) done

  abbrev takes : Object
  takes = both.0

  abbrev gives : Object
  gives = both.1

  fitting : CanCopy takes gives i j (suc n)
  fitting = can_copy takes gives i j (suc n) (sym (ap (λ o. copy_reply i j (suc n) o (Some gives)) both.2 ∙ refl) ∙ sym (ap (λ r. copy_reply i j (suc n) (object_in g (root_at p) 0) r) both.3) ∙ done)

  abbrev first : Value
  first = first_value gives j

  is_first : value_in g q j ≡ first
  is_first = ap (λ o. unwrap_or (field_of o j) Nil) both.3 ∙ ap (λ o. unwrap_or o Nil) (first_there takes gives i j n fitting)

  -- what is read
  pub value_there : (o : Object) × (object_in g (root_at q) 0 ≡ Some o) × (slice_get o.fields j ≡ Some (value_in g q j))
  value_there = (gives, both.3, first_there takes gives i j n fitting ∙ ap (λ v. Some v) (sym is_first))

  taker_there : lookup g.objects a ≡ Some takes
  taker_there = ap (object_of g.objects) (sym target) ∙ both.2

  giver_there : (b : ℕ) × (root g q ≡ Ref b) × (lookup g.objects b ≡ Some gives)
  giver_there = referred g.objects (root g q) gives both.3

  field_before : slice_get takes.fields i ≡ Some (first_value takes i)
  field_before = slice_get-get_or takes.fields i Nil (let wide = fitting.wide in omega arith)

  number_first : takes.raw ≡ true → is_number (value_in g q j) ≡ true
  number_first raw = ap is_number is_first ∙ of_all takes.raw (is_number first) (list_all is_number (take n (drop (suc j) gives.fields))) raw (first_taken takes gives i j n fitting)
    where
      of_all : (r number rest : Bool) → r ≡ true → (not r || (number && rest)) ≡ true → number ≡ true
      of_all true true rest is all = refl
      of_all true false rest is all = absurd (let no : false ≡ true = all in cc)
      of_all false number rest is all = absurd (let no : false ≡ true = is in cc)

  abbrev pub later : Graph
  later = record g { objects = set_field g.objects a i first }

  pub value_put : given g (root g p) i (value_in g q j) ≡ (Done, later)
  value_put = ap (given g (root g p) i) is_first ∙ computed
    where
      computed : (let o = object_of g.objects (root g p) in put_field g (root g p) o (field_of o i) i first) ≡ (Done, later)
      computed = grind (arith, common_steps, taker_there, target, field_before, accepted takes.raw (is_number first) (list_all is_number (take n (drop (suc j) gives.fields))) (first_taken takes gives i j n fitting))

  now_taker : object_in later (root_at p) 0 ≡ Some (with_field takes i first)
  now_taker = ap (object_of later.objects) target ∙ written_itself g.objects a i first takes taker_there

  -- what was written is read again
  pub value_again : (o : Object) × (object_in later (root_at p) 0 ≡ Some o) × (slice_get o.fields i ≡ Some (value_in g q j))
  value_again = (with_field takes i first, now_taker, get_set_same takes.fields i first (let wide = fitting.wide in omega arith) ∙ ap (λ v. Some v) (sym is_first))

  now_giver : object_in later (root_at q) 0 ≡ lookup later.objects giver_there.0
  now_giver = ap (object_of later.objects) giver_there.1

  -- the rest can be copied
  pub goes_on : copy_reply (suc i) (suc j) n (object_in later (root_at p) 0) (object_in later (root_at q) 0) ≡ Done
  goes_on = ⊎_elim one_object two_objects (cases_Bool (giver_there.0 == a))
    where
      with_giver : (r : Object) → object_in later (root_at q) 0 ≡ Some r → CanCopy (with_field takes i first) r (suc i) (suc j) n → copy_reply (suc i) (suc j) n (object_in later (root_at p) 0) (object_in later (root_at q) 0) ≡ Done
      with_giver r is can = ap (λ o. copy_reply (suc i) (suc j) n o (object_in later (root_at q) 0)) now_taker ∙ ap (copy_reply (suc i) (suc j) n (Some (with_field takes i first))) is ∙ copy_done (with_field takes i first) r (suc i) (suc j) n can

      two_objects : (giver_there.0 == a) ≡ false → copy_reply (suc i) (suc j) n (object_in later (root_at p) 0) (object_in later (root_at q) 0) ≡ Done
      two_objects other = with_giver gives (now_giver ∙ written_beside g.objects a i first giver_there.0 gives other giver_there.2) (can_go_on takes gives i j n first fitting)

      one_object : (giver_there.0 == a) ≡ true → copy_reply (suc i) (suc j) n (object_in later (root_at p) 0) (object_in later (root_at q) 0) ≡ Done
      one_object same =
          let e : giver_there.0 ≡ a = eqb-true giver_there.0 a same in
          let one : gives ≡ takes = (let two : Some gives ≡ Some takes = sym giver_there.2 ∙ ap (lookup g.objects) e ∙ taker_there in cc) in
          with_giver (with_field takes i first) (now_giver ∙ ap (lookup later.objects) e ∙ written_itself g.objects a i first takes taker_there)
          (subst (λ o. CanCopy (with_field takes i (first_value o j)) (with_field takes i (first_value o j)) (suc i) (suc j) n) (sym one) (can_go_on_within takes i j n (subst (λ o. CanCopy takes o i j (suc n)) one fitting)))

-- ---- in a heap

module _ (h next : HeapWords) (p q a i j n : ℕ) (target : root (graph_in h) p ≡ Ref a) (done : copy_reply i j (suc n) (object_in (graph_in h) (root_at p) 0) (object_in (graph_in h) (root_at q) 0) ≡ Done) where
  -- a raw object takes a number
  pub number_taken : (header : Header) → header_at h.space.words a ≡ Some header → header.raw ≡ true → is_number (value_in (graph_in h) q j) ≡ true
  number_taken header met raw = go (block_at h.space.words a) refl
    where
      there : lookup (graph_in h).objects a ≡ Some (takes (graph_in h) p q a i j n target done)
      there = taker_there (graph_in h) p q a i j n target done

      go : (o : Option Block) → block_at h.space.words a ≡ o → is_number (value_in (graph_in h) q j) ≡ true
      go None none = absurd (let no : None ≡ Some header = sym (ap header_of none) ∙ met in cc)
      go (Some b) is =
          let same : b.header ≡ header = (let one : Some b.header ≡ Some header = sym (ap header_of is) ∙ met in cc) in
          let object : takes (graph_in h) p q a i j n target done ≡ object_of_block b = (let one : Some (takes (graph_in h) p q a i j n target done) ≡ Some (object_of_block b) = sym there ∙ (object_found h.space.words a ∙ ap (option_map object_of_block) is) in cc) in
          number_first (graph_in h) p q a i j n target done (ap (λ (o : Object). o.raw) object ∙ (ap (λ (k : Header). k.raw) same ∙ raw))

  pub value_goes_on : PutsValue h p i (value_in (graph_in h) q j) next → copy_reply (suc i) (suc j) n (object_in (graph_in next) (root_at p) 0) (object_in (graph_in next) (root_at q) 0) ≡ Done
  value_goes_on puts =
      subst (λ (x : Graph). copy_reply (suc i) (suc j) n (object_in x (root_at p) 0) (object_in x (root_at q) 0) ≡ Done)
      (sym (ap (λ (x : Reply × Graph). x.1) (puts.graph ∙ value_put (graph_in h) p q a i j n target done)))
      (goes_on (graph_in h) p q a i j n target done)
