-- The rule of a space of objects that a collector's thread copies while a mutator reads and writes it, and what each step tells.
-- The words of the table are those of the space. One table serves from one flip to the next.
use Rattle.std.specs.Prelude.{[], ◌≡◌, ◌≢◌, ◌⊎◌, ℕ, zero, suc, ◌+◌, ◌<◌, ◌≤◌, ◌^◌, Bool, true, false, List, ◌∷◌, ◌++◌, length, slice_index, slice_set, drop, map, Some, None, IsSome, IsTrue, is_some, nat_lt, if◌then◌else◌}
use Rattle.std.specs.declared.vec.Vec.{Vec}
use Rattle.std.specs.declared.alloc.Global.{Global}
use Rattle.std.specs.declared.option.Option.{Option as Opt}
use mathlib.Core.Option.{some}
use lib.ListN.{get_elem?}
use Rattle.atomic_table.specs.Table.{State, Me, Step}
use Rattle.gc_graph.specs.Graph.{Value, Num, Ref, Object, lookup, new_object}
use Rattle.gc_graph.specs.Machine.{object_words}
use Rattle.gc_words.specs.Word.{IsHeader, read_header, value_of, is_value, header_word}
use Rattle.gc_words.specs.Layout.{field_place, next_place}
use Rattle.gc_words.specs.Image.{objects_of, header_at, field_at, is_start}
use Rattle.gc_words.specs.Space.{IsSpace, end_of, with_object, with_field_at}
use Rattle.gc_words.specs.Closed.{IsClosed}
use Rattle.gc_words.specs.declared.header.Header.{Header}
use Rattle.gc_model.specs.State.{Replica, Collection, replica_of, moved, new_end, new_free}
use Rattle.gc_model.specs.Steps.{with_written}
use Rattle.gc_model.specs.Members.{In}
use Rattle.gc_model.specs.Belonging.{IsOpened, BelongsBy}
use Rattle.gc_heap.specs.Heap.{HeapWords}
use Rattle.gc_concurrent.specs.Ends.{Mine, Theirs, its, one_heap, opening_mine, opening_theirs}
use Rattle.gc_concurrent.specs.Moves.{half}
use Rattle.gc_concurrent.specs.Internal.Carrying.{KeepsUnreachableOut}
use Rattle.gc_concurrent.specs.Internal.Plans.{collection_of, plan}
use Rattle.gc_concurrent.specs.Internal.Told.{ComesFromSeen}
use Rattle.gc_monitor.specs.Watch.{IsNext, IsSeen}
use Rattle.gc_concurrent.specs.Ends.{Known as View}

-- The roots that a step names to its `Play`. The cells have no slots, so the type of what a slot holds serves for that alone.
abbrev pub RootWords : Type 0
RootWords = Vec ℕ Global

-- one seat is the mutator's, and one the collector's
abbrev pub Seated : ℕ → ℕ → Mine → Theirs → ℕ → View → Type 0
Seated writer copier mine theirs j v = (v.writes ≡ true → (j ≡ writer) × (v.mine ≡ mine)) × (v.copies ≡ true → (j ≡ copier) × (v.theirs ≡ theirs))

abbrev pub AreSeated : ℕ → ℕ → Mine → Theirs → List View → Type 0
AreSeated writer copier mine theirs views = (j : ℕ) (v : View) → get_elem? views j ≡ some v → Seated writer copier mine theirs j v

-- each seat that copies knows what was seen
abbrev pub AreShown : List ℕ → List View → Type 0
AreShown seen views = (j : ℕ) (v : View) → get_elem? views j ≡ some v → v.copies ≡ true → v.seen ≡ seen

-- Nothing was logged, and nothing is copied, due or wanted.
pub record IsAtRest (m : Mine) (t : Theirs) : Type 0 where
  pub logged : m.log ≡ []
  pub copied : t.replicas ≡ []
  pub due : t.due ≡ []
  pub wanted : t.wanted ≡ []

-- The mutator's words are those of the table, and the words behind them are 0. They are a closed space, and the collection is open in
-- gc_model's sense: a field of a replica is up to date unless it is not yet scanned, or in one of the two logs. Nothing that was unreachable when
-- the collection began is copied, until a reference is made from an address alone. The replicas take no more words than the objects. While writes are not logged, the collection is at rest.
-- The words come from those that the standing checker has seen by the writes in the log, and by objects made.
pub record IsConcurrent (size : ℕ) (s : State RootWords View) : Type 0 where
  pub mine : Mine
  pub theirs : Theirs
  pub seen : List ℕ
  pub writer : ℕ
  pub copier : ℕ
  pub wide : length s.words ≡ size
  pub sized : mine.space.size ≡ size
  pub older : theirs.old ≡ size
  pub now : (k : ℕ) → k < length mine.space.words → slice_index s.words k ≡ slice_index mine.space.words k
  pub free : (k : ℕ) → length mine.space.words ≤ k → k < size → slice_index s.words k ≡ 0
  pub space : IsSpace mine.space
  pub closed : IsClosed mine.space.words []
  pub wanted : (a : ℕ) → In a theirs.wanted → (o : Object) × (lookup (objects_of mine.space.words) a ≡ Some o)
  pub opened : IsOpened (plan mine theirs) (collection_of mine theirs)
  pub carries : KeepsUnreachableOut mine theirs
  pub fits : new_end (its theirs) ≤ end_of mine.space
  pub rests : mine.logs ≡ false → IsAtRest mine theirs
  pub seats : AreSeated writer copier mine theirs s.views
  pub told : ComesFromSeen seen mine
  pub shown : AreShown seen s.views

-- the word of a field was written, and logged unless the collection is at rest
abbrev pub wrote : ℕ → ℕ → ℕ → Mine → Mine
wrote a i w m = record m { space = with_field_at m.space a i w; log = if m.logs then m.log ++ (a, i) ∷ [] else m.log }

-- an object was made at the end
abbrev pub made : Header → Mine → Mine
made h m = record m { space = with_object m.space h }

-- a reference was made from an address alone
abbrev pub referring : Mine → Mine
referring m = record m { base = record m.base { referred = true } }

-- field i of the replica of `name` becomes what this value of its original moves to
abbrev pub brought : ℕ → ℕ → Value → Theirs → Theirs
brought name i v t = record t { replicas = map (with_written name i (moved (its t) v)) t.replicas }

abbrev pub scanned : ℕ → ℕ → Value → Theirs → Theirs
scanned name i v t = record (brought name i v t) { scan_field = suc t.scan_field }

abbrev pub applied : ℕ → ℕ → Value → Theirs → Theirs
applied name i v t = record (brought name i v t) { due = drop 1 t.due }

-- an object starts at this address
abbrev pub wants : ℕ → Theirs → Theirs
wants a t = record t { wanted = a ∷ [] }

-- the mutator's entries become the collector's, and its words are those that are seen
abbrev pub logs_taken : View → View
logs_taken v = record v { mine = record v.mine { log = [] }; theirs = record v.theirs { due = v.theirs.due ++ v.mine.log }; seen = v.mine.space.words }

-- the value of a field word of an object that is raw or not
abbrev pub read_as : Bool → ℕ → Value
read_as raw w = if raw then Num w else value_of w

-- the word is one of a field of an object that is raw or not: a number below 2 ^ 63, or a value
abbrev pub IsWordAs : Bool → ℕ → Type 0
IsWordAs true w = w < 2 ^ 63
IsWordAs false w = IsTrue (is_value w)

-- the value's target, if it has no replica
abbrev pub lacks : Collection → Value → Opt ℕ
lacks c (Ref name) = if is_some (replica_of c name) then None else Some name
lacks c v = None

-- a field was read: its replica follows, unless the target still lacks one
abbrev pub after_read : (Theirs → Theirs) → Opt ℕ → Theirs → Theirs
after_read follow None t = follow t
after_read follow (Some name) t = wants name t

abbrev pub passed : Replica → Theirs → Theirs
passed q t = record t { scan_place = next_place t.scan_place (length q.object.fields); scan_field = 0 }

-- fields i to i + n - 1 of this object
abbrev pub entries_of_fields : ℕ → ℕ → ℕ → List (ℕ × ℕ)
entries_of_fields name i zero = []
entries_of_fields name i (suc n) = (name, i) ∷ entries_of_fields name (suc i) n

-- a replica as it is placed: nil in each field, or 0 in a raw object, whose fields are then due
abbrev pub blank_replica : ℕ → ℕ → Object → Replica
blank_replica name place object = record { original = name; place = place; object = new_object object.raw object.kind (length object.fields) }

abbrev pub to_fill : Object → ℕ
to_fill object = if object.raw then length object.fields else 0

abbrev pub placed_one : ℕ → Object → Theirs → Theirs
placed_one name object t = record t { replicas = t.replicas ++ blank_replica name (new_end (its t)) object ∷ []; wanted = []; due = entries_of_fields name 0 (to_fill object) ++ t.due }

abbrev pub entry_dropped : Theirs → Theirs
entry_dropped t = record t { due = drop 1 t.due }

-- The collection belongs to some heap in a space of this size, whatever is due. No two objects of that heap start at addresses with the same half.
pub record Loose (t : Theirs) : Type 0 where
  pub objects : List (ℕ × Object)
  pub belongs : BelongsBy (λ _ _ _ _. Unit {0}) objects (its t)
  pub within : (a : ℕ) (o : Object) → lookup objects a ≡ Some o → a + (length o.fields + 2) ≤ t.old
  pub apart : (a b : ℕ) → IsSome (lookup objects a) → IsSome (lookup objects b) → half a ≡ half b → a ≡ b
  pub wanted : (a : ℕ) → In a t.wanted → (o : Object) × (lookup objects a ≡ Some o)
  pub high : t.size ≤ 4294967295
  pub old_low : 1 ≤ t.old
  pub old_high : t.old ≤ 4294967295

-- each replica is that of an object of the mutator's space
abbrev pub StartsThere : Mine → Theirs → Type 0
StartsThere m t = (r : Replica) → In r t.replicas → IsTrue (is_start m.space.words r.original)

abbrev pub only_writes : View → View
only_writes v = record v { copies = false }

abbrev pub only_copies : View → View
only_copies v = record v { writes = false }

-- a heap without words
abbrev pub no_heap : HeapWords
no_heap = one_heap (record { size = 0; words = [] }) []

-- two seats become one
abbrev pub both_ends : View → View → View
both_ends v w = record { writes = true; copies = true; mine = w.mine; theirs = v.theirs; seen = v.seen }

abbrev pub spent_view : View
spent_view = record { writes = false; copies = false; mine = opening_mine no_heap; theirs = opening_theirs no_heap 0 0; seen = [] }

abbrev pub Sat : Type 0
Sat = Me RootWords View

abbrev pub OneStep : Type 0
OneStep = Step RootWords

-- the collector knows after a step that its collection belongs to some heap
abbrev pub KnowsBelonging : Sat → Type 0
KnowsBelonging me = me.0.copies ≡ true → ∥ Loose me.0.theirs ∥₁

-- a word of the space was read
abbrev pub tells_get : OneStep → Sat → ℕ → Sat → Type 0
tells_get st me found me' = (me' ≡ me) × (st.word < length me.0.mine.space.words → found ≡ slice_index me.0.mine.space.words st.word)

abbrev pub tells_put : OneStep → Sat → ℕ → Sat → Type 0
tells_put st me found me' = (a i : ℕ) → st.word ≡ field_place a i → IsSome (field_at me.0.mine.space.words a i) → (me' ≡ (record me.0 { mine = wrote a i st.first me.0.mine }, me.1))

abbrev pub tells_new : OneStep → Sat → ℕ → Sat → Type 0
tells_new st me found me' = ((h : Header) → IsHeader h → header_word h ≡ st.first → me' ≡ (record me.0 { mine = made h me.0.mine }, me.1)) × IsClosed me.0.mine.space.words []

-- The header of an object was read, to which a reference is made from its address alone.
abbrev pub tells_refer : OneStep → Sat → ℕ → Sat → Type 0
tells_refer st me found me' = me' ≡ (record me.0 { mine = referring me.0.mine }, me.1)

-- The field at the scan pointer was read. Its replica is up to date from this moment on.
abbrev pub tells_scan_of : Theirs → OneStep → Sat → ℕ → Sat → Type 0
tells_scan_of t st me found me' = ((q : Replica) → In q t.replicas → q.place ≡ t.scan_place → q.object.raw ≡ false → t.scan_field < length q.object.fields → st.word ≡ field_place q.original t.scan_field
    → (is_value found ≡ true) × (me' ≡ (record me.0 { theirs = after_read (scanned q.original t.scan_field (value_of found)) (lacks (its t) (value_of found)) t }, me.1)))

abbrev pub tells_scan : OneStep → Sat → ℕ → Sat → Type 0
tells_scan st me found me' = tells_scan_of me.0.theirs st me found me' × KnowsBelonging me'

-- The field of the oldest entry was read.
abbrev pub tells_apply_of : Theirs → OneStep → Sat → ℕ → Sat → Type 0
tells_apply_of t st me found me' = ((q : Replica) (i : ℕ) (rest : List (ℕ × ℕ)) → In q t.replicas → t.due ≡ (q.original, i) ∷ rest → st.word ≡ field_place q.original i
    → IsWordAs q.object.raw found × (let v = read_as q.object.raw found in me' ≡ (record me.0 { theirs = after_read (applied q.original i v) (lacks (its t) v) t }, me.1)))

abbrev pub tells_apply : OneStep → Sat → ℕ → Sat → Type 0
tells_apply st me found me' = tells_apply_of me.0.theirs st me found me' × KnowsBelonging me'

-- The header of an object that is wanted was read: it has a replica from this moment on, if there is room. The fields of a raw one are still to be brought.
-- There is room if the new space is as large as the old one, and the replicas then take no more words than the objects. With both ends at hand, the object is
-- one of the mutator's space.
abbrev pub tells_place_of : Theirs → OneStep → Sat → ℕ → Sat → Type 0
tells_place_of t st me found me' = (In st.word t.wanted → replica_of (its t) st.word ≡ None → (o : Object) × (read_header found ≡ Some (record { raw = o.raw; kind = o.kind; len = length o.fields }))
    × (me' ≡ (record me.0 { theirs = if nat_lt (new_free (its t)) (object_words (length o.fields)) then t else placed_one st.word o t }, me.1))
    × (t.old ≤ t.size → nat_lt (new_free (its t)) (object_words (length o.fields)) ≡ false) × (me.0.writes ≡ true → new_end (its t) + object_words (length o.fields) ≤ end_of me.0.mine.space) × (me.0.writes ≡ true → IsTrue (is_start me.0.mine.space.words st.word)))

abbrev pub tells_place : OneStep → Sat → ℕ → Sat → Type 0
tells_place st me found me' = tells_place_of me.0.theirs st me found me' × KnowsBelonging me'

-- The handshake was read, and the collector goes on behind a replica that is scanned.
abbrev pub tells_pass_of : Theirs → OneStep → Sat → ℕ → Sat → Type 0
tells_pass_of t st me found me' = ((q : Replica) → In q t.replicas → q.place ≡ t.scan_place → (q.object.raw ≡ true) ⊎ (t.scan_field ≡ length q.object.fields) → me' ≡ (record me.0 { theirs = passed q t }, me.1))

abbrev pub tells_pass : OneStep → Sat → ℕ → Sat → Type 0
tells_pass st me found me' = tells_pass_of me.0.theirs st me found me' × KnowsBelonging me'

-- The handshake was read, and an entry whose object has no replica is left out.
abbrev pub tells_leave_of : Theirs → OneStep → Sat → ℕ → Sat → Type 0
tells_leave_of t st me found me' = ((entry : ℕ × ℕ) (rest : List (ℕ × ℕ)) → t.due ≡ entry ∷ rest → replica_of (its t) entry.0 ≡ None → me' ≡ (record me.0 { theirs = entry_dropped t }, me.1))

abbrev pub tells_leave : OneStep → Sat → ℕ → Sat → Type 0
tells_leave st me found me' = tells_leave_of me.0.theirs st me found me' × KnowsBelonging me'

-- How the words of a seat that is both ends come from those that were seen. While writes are not logged, there are no replicas, and the log is empty.
pub record CatchesUp (v : View) : Type 0 where
  pub told : ComesFromSeen v.seen v.mine
  pub rests : v.mine.logs ≡ false → (v.theirs.replicas ≡ []) × (v.mine.log ≡ [])

-- The mutator's log becomes the collector's. Both ends know the same heap with which the collection began. All originals are objects of the mutator's space,
-- and the replicas take no more words.
abbrev pub tells_take : OneStep → Sat → ℕ → Sat → Type 0
tells_take st me found me' = ((me' ≡ (logs_taken me.0, me.1)) × (me.0.theirs.base ≡ me.0.mine.base.heap) × CatchesUp me.0 × StartsThere me.0.mine me.0.theirs × (new_end (its me.0.theirs) ≤ end_of me.0.mine.space)) × KnowsBelonging me'

-- The target of one of the mutator's roots is wanted. From now on writes are logged.
abbrev pub root_wanted : ℕ → View → View
root_wanted a v = record v { mine = record v.mine { logs = true }; theirs = wants a v.theirs; seen = v.mine.space.words }

-- The header of such a target was read.
abbrev pub tells_root : OneStep → Sat → ℕ → Sat → Type 0
tells_root st me found me' = ((me' ≡ (root_wanted st.word me.0, me.1)) × CatchesUp me.0) × KnowsBelonging me'

-- the same collection before its first step, in a new space of this size
abbrev pub begun_anew : ℕ → Theirs → Theirs
begun_anew size t = opening_theirs t.base t.old size

abbrev pub tells_renew : OneStep → Sat → ℕ → Sat → Type 0
tells_renew st me found me' = (me' ≡ (record me.0 { theirs = begun_anew st.first me.0.theirs }, me.1)) × KnowsBelonging me'

-- ---- loads of the standing checker

-- with these words as what is seen
abbrev pub seeing : List ℕ → Sat → Sat
seeing seen me = (record me.0 { seen = seen }, me.1)

-- A field was read, and is seen as it is now.
abbrev pub tells_look : OneStep → Sat → ℕ → Sat → Type 0
tells_look st me found me' = (a i : ℕ) → IsSome (field_at me.0.seen a i) → st.word ≡ field_place a i → me' ≡ seeing (slice_set me.0.seen st.word found) me

-- The header of a replica's original was read. It is that of the replica, and the original starts among the words that were seen, if they reach so far.
pub record IsOriginal (seen : List ℕ) (found : ℕ) (r : Replica) : Type 0 where
  pub header : read_header found ≡ Some (record { raw = r.object.raw; kind = r.object.kind; len = length r.object.fields })
  pub start : r.original < length seen → IsTrue (is_start seen r.original)

-- The header of an object that was seen was read. It is the same as then.
abbrev pub tells_header : OneStep → Sat → ℕ → Sat → Type 0
tells_header st me found me' = (me' ≡ me) × ((h : Header) → header_at me.0.seen st.word ≡ Some h → read_header found ≡ Some h)
    × ((r : Replica) → In r me.0.theirs.replicas → r.original ≡ st.word → IsOriginal me.0.seen found r)

-- An object starts behind the words up to n: it was seen, or it is now.
pub record SeesNext (n found : ℕ) (me me' : Sat) : Type 0 where
  pub header : Header
  pub more : List ℕ
  pub same : me' ≡ seeing (me.0.seen ++ more) me
  pub read : read_header found ≡ Some header
  pub next : IsNext n (me.0.seen ++ more) header
  pub whole : IsSeen (length (me.0.seen ++ more)) (me.0.seen ++ more)
  pub fits : length (me.0.seen ++ more) ≤ me.0.theirs.old
  pub starts : (a : ℕ) → IsTrue (is_start (me.0.seen ++ more) a) → a < length me.0.seen → IsTrue (is_start me.0.seen a)

-- No object starts behind the words up to n: all originals lie before, and so do the words of the mutator, if this seat is the mutator's too.
pub record SeesEnd (n : ℕ) (me me' : Sat) : Type 0 where
  pub same : me' ≡ me
  pub originals : (r : Replica) → In r me.0.theirs.replicas → r.original < n
  pub words : me.0.writes ≡ true → length me.0.mine.space.words ≤ n

-- The word behind those up to which the checker has walked was read.
abbrev pub tells_see : OneStep → Sat → ℕ → Sat → Type 0
tells_see st me found me' = IsSeen st.word me.0.seen → (found ≡ 0 → SeesEnd st.word me me') × (found ≢ 0 → SeesNext st.word found me me')
