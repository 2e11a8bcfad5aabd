-- Heaps whose names are addresses, and when a collection belongs to a heap.
use Rattle.std.specs.Prelude.{◌≡◌, ◌⊎◌, ℕ, Bool, true, false, ◌-◌, ◌<◌, ◌≤◌, ◌^◌, List, [], ◌∷◌, length, map, Some, slice_get, IsTrue, ⊤, IfSome}
use Rattle.gc_graph.specs.Limits.{largest_space, kinds, lengths}
use Rattle.gc_graph.specs.Slots.{roots_of}
use Rattle.gc_graph.specs.Graph.{Value, Num, Ref, Object, Graph, lookup}
use Rattle.gc_graph.specs.Machine.{is_number}
use Rattle.gc_graph.specs.Correspond.{correspond}
use Rattle.gc_words.specs.Layout.{next_place}
use Rattle.gc_model.specs.State.{Replica, Collection, State, new_objects, new_end, pairs_of}
use Rattle.gc_model.specs.Steps.{log_at}
use Rattle.gc_model.specs.Members.{In, Distinct}

-- ---- heaps

-- the objects lie back to back from place `at` to `end`
abbrev pub Laid : ℕ → List (ℕ × Object) → ℕ → Type 0
Laid at [] end = at ≡ end
Laid at (entry ∷ rest) end = (entry.0 ≡ at) × Laid (next_place at (length entry.1.fields)) rest end

-- an object has this name
abbrev pub IsNamed : List (ℕ × Object) → ℕ → Type 0
IsNamed objects name = (o : Object) × In (name, o) objects

-- nil, a number, or a reference to a name that satisfies P
abbrev pub RefersTo : (ℕ → Type 0) → Value → Type 0
RefersTo P (Ref name) = P name
RefersTo P v = ⊤

pub record IsObject (objects : List (ℕ × Object)) (o : Object) : Type 0 where
  pub kind : o.kind < kinds
  pub len : length o.fields < lengths
  pub fields : (v : Value) → In v o.fields → RefersTo (IsNamed objects) v

-- the fields of raw objects are numbers
abbrev pub HasRawNumbers : List (ℕ × Object) → Type 0
HasRawNumbers objects = (a : ℕ) (o : Object) → lookup objects a ≡ Some o → o.raw ≡ true → (v : Value) → In v o.fields → IsTrue (is_number v)

-- A graph of objects in a space with this size and this many free words. Each name is the address of its object.
pub record IsSpaceGraph (size free : ℕ) (g : Graph) : Type 0 where
  pub high : size ≤ largest_space
  pub room : free < size
  pub laid : Laid 1 g.objects (size - free)
  pub objects : (a : ℕ) (o : Object) → In (a, o) g.objects → IsObject g.objects o
  pub roots : (v : Value) → In v g.roots → RefersTo (IsNamed g.objects) v
  pub numbers : HasRawNumbers g.objects

-- if the value is a number, it is below 2^63
abbrev pub IsSmall : Value → Type 0
IsSmall (Num n) = n < 2 ^ 63
IsSmall v = ⊤

pub record HasSmallNumbers (g : Graph) : Type 0 where
  pub fields : (a : ℕ) (o : Object) → In (a, o) g.objects → (v : Value) → In v o.fields → IsSmall v
  pub roots : (v : Value) → In v g.roots → IsSmall v

-- ---- fields that are due

-- field i of the replica at place p is not yet scanned
abbrev pub IsUnscanned : Collection → ℕ → ℕ → Type 0
IsUnscanned c p i = (c.scan_place < p) ⊎ ((c.scan_place ≡ p) × (c.scan_field ≤ i))

-- some log has the entry (a, i)
abbrev pub IsLogged : Collection → ℕ → ℕ → Type 0
IsLogged c a i = (k : ℕ) × In (a, i) (log_at c k)

-- Field i of object a may differ from that of its replica at place p. Fields of raw objects count as scanned.
abbrev pub IsDue : Collection → Bool → ℕ → ℕ → ℕ → Type 0
IsDue c raw p a i = ((raw ≡ false) × IsUnscanned c p i) ⊎ IsLogged c a i

-- ---- collections

-- The replica has its original's kind and length, and is raw exactly if the original is. Fields that are not due correspond.
pub record IsReplica (objects : List (ℕ × Object)) (pairs : List (ℕ × ℕ)) (Due : Bool → ℕ → ℕ → ℕ → Type 0) (r : Replica) : Type 0 where
  pub original : Object
  pub found : lookup objects r.original ≡ Some original
  pub raw : r.object.raw ≡ original.raw
  pub kind : r.object.kind ≡ original.kind
  pub len : length r.object.fields ≡ length original.fields
  pub current : (i : ℕ) (v w : Value) → slice_get original.fields i ≡ Some v → slice_get r.object.fields i ≡ Some w → Due r.object.raw r.place r.original i ⊎ IsTrue (correspond pairs v w)

-- the scan pointer is at a field of a replica, at the end of a replica, or after the last replica
abbrev pub IsScanPlace : ℕ → ℕ → Collection → Type 0
IsScanPlace place field c = ((r : Replica) × In r c.replicas × (r.place ≡ place) × (field ≤ length r.object.fields)) ⊎ ((place ≡ new_end c) × (field ≡ 0))

abbrev pub HasField : List (ℕ × Object) → ℕ → ℕ → Type 0
HasField objects a i = (o : Object) × (lookup objects a ≡ Some o) × (i < length o.fields)

-- A collection of these objects. The replicas lie back to back in the new space, and each object has at most one. Only fields
-- that are due may differ. Each log entry names a field of an object.
pub record BelongsBy (Due : Bool → ℕ → ℕ → ℕ → Type 0) (objects : List (ℕ × Object)) (c : Collection) : Type 0 where
  pub laid : Laid 1 (new_objects c) (new_end c)
  pub room : new_end c ≤ c.size
  pub once : Distinct (map (λ r. r.original) c.replicas)
  pub replicas : (r : Replica) → In r c.replicas → IsReplica objects (pairs_of c) Due r
  pub scan : IsScanPlace c.scan_place c.scan_field c
  pub entries : (a i : ℕ) → IsLogged c a i → HasField objects a i
  pub numbers : HasRawNumbers objects

-- each field that is scanned and not logged is up to date
abbrev pub Belongs : List (ℕ × Object) → Collection → Type 0
Belongs objects c = BelongsBy (IsDue c) objects c

-- the same, but fields that satisfy E may be out of date as well
abbrev pub BelongsBut : (ℕ → ℕ → Type 0) → List (ℕ × Object) → Collection → Type 0
BelongsBut E objects c = BelongsBy (λ raw p a i. IsDue c raw p a i ⊎ E a i) objects c

-- ---- states

-- the open collection belongs to the heap, its space is within the size limit, and each mutator has a log
pub record IsOpened (s : State) (c : Collection) : Type 0 where
  pub belongs : Belongs s.heap.graph.objects c
  pub size : c.size ≤ largest_space
  pub logs : length c.logs ≡ s.mutators

-- the heap is sound, each mutator has its slots, which extra roots may follow, and the open collection belongs to the heap
pub record IsState (s : State) : Type 0 where
  pub heap : IsSpaceGraph s.size s.heap.free s.heap.graph
  pub numbers : HasSmallNumbers s.heap.graph
  pub roots : roots_of s.mutators ≤ length s.heap.graph.roots
  pub collection : IfSome s.collection (IsOpened s)
