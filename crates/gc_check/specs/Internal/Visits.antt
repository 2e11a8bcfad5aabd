-- A walk in breadth from the roots of an image: its visits, each with the reference by which it was found.
use Rattle.std.specs.Prelude.{◌≡◌, ◌↔◌, ℕ, suc, ◌<◌, ◌≤◌, ◌^◌, ◌==◌, true, not, List, length, map, slice_get, slice_index, slice_index_or, vec_capacity, Option, Some, IsTrue, ⊤}
use Rattle.gc_graph.specs.Graph.{Value, Ref, Graph, lookup, fields_of, follow, name_of}
use Rattle.gc_words.specs.Word.{value_of}
use Rattle.gc_words.specs.Image.{Image, graph_of, is_start}
use Rattle.gc_check.specs.Internal.Starts.{starts_from}
use Rattle.gc_check.specs.Internal.Meetings.{taken_in}
use Rattle.gc_check.specs.Internal.Tables.{HasEntries, by_address}
use Rattle.gc_check.specs.declared.visits.Node.{Node}
use Rattle.gc_check.specs.declared.visits.Node.TheVariants as node
use Rattle.gc_check.specs.declared.visits.Visit.{Visit}
use Rattle.gc_check.specs.declared.visits.Visits.{Visits}
use Rattle.gc_check.specs.declared.visits.Reference.{Reference}

-- ---- nodes

-- the values of a node: the roots, or the fields of an object
abbrev pub values_of : Graph → Node → List Value
values_of g node.Roots = g.roots
values_of g (node.Object a) = fields_of (lookup g.objects a)

-- value i of the node refers to this address
abbrev pub RefersAt : Graph → Node → ℕ → ℕ → Type 0
RefersAt g n i a = slice_get (values_of g n) i ≡ Some (Ref a)

-- the address to which each word refers
abbrev pub references : List ℕ → List (Option ℕ)
references words = map (λ w. name_of (value_of w)) words

-- the node is the roots, or an object that the image has
abbrev pub IsNode : Image → Node → Type 0
IsNode image node.Roots = ⊤
IsNode image (node.Object a) = IsTrue (is_start image.words a)

-- the value found by going on from a node: first to this place, then along these fields
abbrev pub along : Graph → Node → ℕ → List ℕ → Option Value
along g n place fields = follow g.objects (slice_get (values_of g n) place) fields

-- ---- visits

abbrev pub roots_visit : Visit
roots_visit = record { node = node.Roots; from = 0; place = 0; depth = 0 }

-- visit k
abbrev pub visit_at : List Visit → ℕ → Visit
visit_at visits k = slice_index_or visits k roots_visit

-- the visit is of an object to which the node of an earlier visit refers, and one step deeper than that visit
pub record IsFoundBy (image : Image) (parent found : Visit) (number : ℕ) : Type 0 where
  pub earlier : found.from < number
  pub deeper : found.depth ≡ suc parent.depth
  pub address : ℕ
  pub object : found.node ≡ node.Object address
  pub refers : RefersAt (graph_of image) parent.node found.place address

abbrev pub IsFound : Image → List Visit → ℕ → Type 0
IsFound image visits number = IsFoundBy image (visit_at visits (visit_at visits number).from) (visit_at visits number) number

-- the visits, in the order of their depth, which is below their number; the first is that of the roots
pub record AreVisits (image : Image) (visits : List Visit) : Type 0 where
  pub some : 1 ≤ length visits
  pub roots : visit_at visits 0 ≡ roots_visit
  pub found : (j : ℕ) → 1 ≤ j → j < length visits → IsFound image visits j
  pub low : (j : ℕ) → j < length visits → (visit_at visits j).depth ≤ j
  pub nodes : (j : ℕ) → j < length visits → IsNode image (visit_at visits j).node
  pub sorted : (i j : ℕ) → i ≤ j → j < length visits → (visit_at visits i).depth ≤ (visit_at visits j).depth

-- some visit is of this object, and at most this deep
pub record Visited (visits : List Visit) (a deep : ℕ) : Type 0 where
  pub number : ℕ
  pub within : number < length visits
  pub object : (visit_at visits number).node ≡ node.Object a
  pub depth : (visit_at visits number).depth ≤ deep

-- the objects to which the first `some` values of the node of visit k refer are visited, at most one step deeper
abbrev pub LeadsToVisits : Image → List Visit → ℕ → ℕ → Type 0
LeadsToVisits image visits k some =
    (i a : ℕ) → i < some → RefersAt (graph_of image) (visit_at visits k).node i a → IsTrue (is_start image.words a) → Visited visits a (suc (visit_at visits k).depth)

-- the same for all values of the nodes of all visits
abbrev pub AreAllVisited : Image → List Visit → Type 0
AreAllVisited image visits = (k some : ℕ) → k < length visits → LeadsToVisits image visits k some

-- no visit is deeper
abbrev pub AreWithin : List Visit → ℕ → Type 0
AreWithin visits deep = (j : ℕ) → j < length visits → (visit_at visits j).depth ≤ deep

-- the visits so far stay
pub record Continues (before after : List Visit) : Type 0 where
  pub more : length before ≤ length after
  pub same : (k : ℕ) → k < length before → visit_at after k ≡ visit_at before k

-- ---- references to an address

-- exactly these words of a node refer to addresses
abbrev pub HasReferences : Graph → Node → List ℕ → Type 0
HasReferences g n words = (i a : ℕ) → RefersAt g n i a ↔ (slice_get (references words) i ≡ Some (Some a))

-- the nodes of the first visits do not refer to the address
abbrev pub NoneRefers : Image → List Visit → ℕ → ℕ → Type 0
NoneRefers image visits count address = (k i : ℕ) → k < count → RefersAt (graph_of image) (visit_at visits k).node i address → ⊥

-- a reference to the address, and no earlier visit has one
pub record IsFirstReference (image : Image) (visits : List Visit) (reference : Reference) (address : ℕ) : Type 0 where
  pub within : reference.visit < length visits
  pub refers : RefersAt (graph_of image) (visit_at visits reference.visit).node reference.place address
  pub first : NoneRefers image visits reference.visit address

-- ---- the table of visits

-- the entry at the address of each visited object is the number of its visit, and each other entry is 0
pub record HoldsVisits (image : Image) (visits : List Visit) (row : List ℕ) : Type 0 where
  pub len : length row ≡ length image.words
  pub count : length visits ≡ suc (taken_in row)
  pub starts : (a : ℕ) → not (slice_index row a == 0) ≡ true → is_start image.words a ≡ true
  pub numbers : (a : ℕ) → not (slice_index row a == 0) ≡ true → (slice_index row a < length visits) × ((visit_at visits (slice_index row a)).node ≡ node.Object a)

-- the number of each object's visit, by address
abbrev pub visit_numbers : Image → Visits → List ℕ
visit_numbers image visits = by_address image.words visits.numbers

-- all that holds during a walk: the visits, their table, and room for a visit of each object
pub record HoldsWalk (image : Image) (visits : Visits) : Type 0 where
  pub entries : HasEntries image.words visits.numbers
  pub few : length image.words < 2 ^ 32
  pub list : AreVisits image visits.list.items
  pub table : HoldsVisits image visits.list.items (visit_numbers image visits)
  pub room : suc (starts_from image.words 0 (length image.words)) ≤ vec_capacity visits.list
