-- Calls that perform many commands: which ones, in which order, and what such a call replies.
use Rattle.std.specs.Prelude.{◌≡◌, ◌⊎◌, ℕ, zero, suc, ◌+◌, ◌-◌, nat_le, ◌||◌, not, if◌then◌else◌, List, [], ◌∷◌, length, map, take, drop, Option, Some, None}
use Rattle.std.specs.List.{list_all}
use Rattle.std.specs.Option.{unwrap_or}
use Rattle.gc_graph.specs.Graph.{Value, Nil, Num, Object, Graph, field_of, object_of, root}
use Rattle.gc_graph.specs.Machine.{is_number}
use Rattle.gc_graph.specs.declared.command.Op.{Op}
use Rattle.gc_graph.specs.declared.command.Op.TheVariants as ops
use Rattle.gc_graph.specs.declared.reply.Reply.{Reply}
use Rattle.gc_graph.specs.declared.reply.Reply.TheVariants.{Done, Full, Made, NoObject, NoField, NoNumber}
use Rattle.gc_heap.specs.Heap.{HeapWords, IsHeap, graph_in}
use Rattle.gc_heap.specs.Places.{root_at}
use Rattle.gc_heap.specs.Raws.{numbers_in, numbers_reply}
use Rattle.gc_concurrent.specs.Law.{HasNoFull}
use Rattle.gc_concurrent.specs.Machines.{Does, DoesAll, PutsValue}

-- the object that the root at place p refers to
abbrev pub object_of_root : HeapWords → ℕ → Option Object
object_of_root heap p = object_of (graph_in heap).objects (root (graph_in heap) p)

-- All these commands are performed, one after another. None of them finds no room.
abbrev pub PerformsEach : List Op → HeapWords → HeapWords → Type 0
PerformsEach commands old new = (told : List Reply) × HasNoFull told × DoesAll old commands told new

-- A call that performs all or nothing: only the reply `Done` says that it did.
abbrev pub AllOrNothing : (HeapWords → HeapWords → Type 0) → HeapWords → Reply → HeapWords → Type 0
AllOrNothing did old Done new = did old new
AllOrNothing did old reply new = new ≡ old

-- ---- one value

-- The reply to a `Get` of field i of the object in the root at place s. It is the same whichever root takes the value, so it is told for that root itself.
abbrev pub Peeks : ℕ → ℕ → HeapWords → Reply → Type 0
Peeks s i old reply = (new : HeapWords) × IsHeap new × Does old (ops.Get (root_at s) (root_at s) i) reply new

-- ---- roots in a row

-- n roots from the one at place p on become nil
abbrev pub clear_commands : ℕ → ℕ → List Op
clear_commands p zero = []
clear_commands p (suc n) = ops.Nil (root_at p) ∷ clear_commands (suc p) n

-- n roots from the one at place p on take the fields, from field i on, of the object in the root at place s
abbrev pub get_commands : ℕ → ℕ → ℕ → ℕ → List Op
get_commands p s i zero = []
get_commands p s i (suc n) = ops.Get (root_at p) (root_at s) i ∷ get_commands (suc p) s (suc i) n

-- whether there is an object with so many fields
abbrev pub spread_told : ℕ → Option Object → Reply
spread_told count None = NoObject
spread_told count (Some object) = if nat_le count (length object.fields) then Done else NoField

-- n roots from the one at place p on take the first fields of the object in the root at place s, or none does
abbrev pub Spreads : ℕ → ℕ → ℕ → HeapWords → Reply → HeapWords → Type 0
Spreads p s n old reply new = (reply ≡ spread_told n (object_of_root old s)) × AllOrNothing (PerformsEach (get_commands p s 0 n)) old reply new

-- ---- a new object

-- the places of n roots, from p on
abbrev pub places_from : ℕ → ℕ → List ℕ
places_from p zero = []
places_from p (suc n) = p ∷ places_from (suc p) n

-- the fields from i on of the object in the root at place d take the values of the roots at these places
abbrev pub put_commands : ℕ → ℕ → List ℕ → List Op
put_commands d i [] = []
put_commands d i (p ∷ rest) = ops.Put (root_at d) i (root_at p) ∷ put_commands d (suc i) rest

-- An object is made in the root at place d, and its fields take the values of the roots at these places. If there is no room, the first command is all.
abbrev pub MakesFrom : ℕ → ℕ → List ℕ → HeapWords → Reply → HeapWords → Type 0
MakesFrom d kind places old reply new =
    let first = ops.New (root_at d) kind (length places) in
    ((reply ≡ Full) × Does old first Full new)
    ⊎ ((reply ≡ Made) × (told : List Reply) × HasNoFull told × DoesAll old (first ∷ put_commands d 0 places) (Made ∷ told) new)

-- ---- fields in a row

-- n fields, from field i on, of the object in the root at place s take the value of the root at place t
abbrev pub fill_commands : ℕ → ℕ → ℕ → ℕ → List Op
fill_commands s i zero t = []
fill_commands s i (suc n) t = ops.Put (root_at s) i (root_at t) ∷ fill_commands s (suc i) n t

-- whether there is an object, it has the fields below `to`, and it takes the value
abbrev pub fill_told : ℕ → Value → Option Object → Reply
fill_told to v None = NoObject
fill_told to v (Some object) = if nat_le to (length object.fields) then (if not object.raw || is_number v then Done else NoNumber) else NoField

-- the fields from `from` to the one before `to` take the value of the root at place t, or none does
abbrev pub FillsFields : ℕ → ℕ → ℕ → ℕ → HeapWords → Reply → HeapWords → Type 0
FillsFields s from to t old reply new =
    (reply ≡ fill_told to (root (graph_in old) t) (object_of_root old s)) × AllOrNothing (PerformsEach (fill_commands s from (to - from) t)) old reply new

-- These values go into the fields from i on of the object in the root at place s, in rising order. No root changes.
abbrev pub PutsEach : ℕ → ℕ → List Value → HeapWords → HeapWords → Type 0
PutsEach s i [] old new = new ≡ old
PutsEach s i (v ∷ rest) old new = (mid : HeapWords) × (reply : Reply) × IsHeap mid × PutsValue s i v old reply mid × PutsEach s (suc i) rest mid new

-- these numbers go into the fields from `first` on of the raw object in the root at place s, or none does
abbrev pub WritesNumbers : ℕ → ℕ → List ℕ → HeapWords → Reply → HeapWords → Type 0
WritesNumbers s first words old reply new =
    (reply ≡ numbers_reply first words (numbers_in (object_of_root old s))) × AllOrNothing (PutsEach s first (map Num words)) old reply new

-- What was read of the numbers in a raw object, from field `first` on: as many as the old list has, or else none.
abbrev pub ReadsNumbers : ℕ → Option (List ℕ) → List ℕ → Reply → List ℕ → Type 0
ReadsNumbers first None old reply new = (reply ≡ NoObject) × (new ≡ old)
ReadsNumbers first (Some fields) old reply new =
    let has_fields = nat_le (first + length old) (length fields) in
    (reply ≡ if has_fields then Done else NoField) × (new ≡ if has_fields then take (length old) (drop first fields) else old)

-- the value in field j of the object in the root at place s
abbrev pub value_in : Graph → ℕ → ℕ → Value
value_in g s j = unwrap_or (field_of (object_of g.objects (root g s)) j) Nil

-- n fields of the object in the root at place s, from field j on, go into the fields from i on of the object in the root at place d. Each takes, in
-- rising order, the value that the other field has then.
abbrev pub CopiesEach : ℕ → ℕ → ℕ → ℕ → ℕ → HeapWords → HeapWords → Type 0
CopiesEach d i s j zero old new = new ≡ old
CopiesEach d i s j (suc n) old new =
    (mid : HeapWords) × (reply : Reply) × IsHeap mid × PutsValue d i (value_in (graph_in old) s j) old reply mid × CopiesEach d (suc i) s (suc j) n mid new

-- whether there are two objects, both have the fields, and the first takes the values of the second
abbrev pub copy_told : ℕ → ℕ → ℕ → Option Object → Option Object → Reply
copy_told to from count None source = NoObject
copy_told to from count (Some target) None = NoObject
copy_told to from count (Some target) (Some source) =
    if nat_le (to + count) (length target.fields)
    then (if nat_le (from + count) (length source.fields)
    then (if not target.raw || list_all is_number (take count (drop from source.fields)) then Done else NoNumber)
    else NoField)
    else NoField

-- so many fields are copied, or none is
abbrev pub CopiesFields : ℕ → ℕ → ℕ → ℕ → ℕ → HeapWords → Reply → HeapWords → Type 0
CopiesFields d to s from count old reply new =
    (reply ≡ copy_told to from count (object_of_root old d) (object_of_root old s)) × AllOrNothing (CopiesEach d to s from count) old reply new
