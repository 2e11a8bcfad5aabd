-- The object graph that a mutator sees: named objects and roots.
use Rattle.std.specs.Prelude.{◌≡◌, ℕ, suc, ◌==◌, Bool, true, false, if◌then◌else◌, max, List, [], ◌∷◌, ◌++◌, map, replicate, slice_get, slice_set, Option, Some, None, IsFalse}
use Rattle.std.specs.Option.{unwrap_or, option_and_then, option_map_or, option_to_list}
use Rattle.std.specs.List.{flat_map, list_any, fold}
use Rattle.gc_graph.specs.Slots.{roots_of}

-- a name is any natural number
pub data Value : Type 0 where
  Nil : Value
  Num : (n : ℕ) → Value
  Ref : (name : ℕ) → Value

-- The fields of a raw object are numbers and are never scanned for references.
pub record Object : Type 0 where
  pub raw : Bool
  pub kind : ℕ
  pub fields : List Value

-- The objects form a finite map. If two entries have the same name, the first one counts.
pub record Graph : Type 0 where
  pub objects : List (ℕ × Object)
  pub roots : List Value

-- the initial graph: no objects, and every root is nil
abbrev pub opening : ℕ → Graph
opening mutators = record { objects = []; roots = replicate (roots_of mutators) Nil }

-- the object with this name
abbrev pub lookup : List (ℕ × Object) → ℕ → Option Object
lookup [] name = None
lookup (entry ∷ rest) name = if entry.0 == name then Some entry.1 else lookup rest name

-- the name, if the value is a reference
abbrev pub name_of : Value → Option ℕ
name_of (Ref name) = Some name
name_of v = None

-- the object that a value refers to
abbrev pub object_of : List (ℕ × Object) → Value → Option Object
object_of objects v = option_and_then (lookup objects) (name_of v)

abbrev pub fields_of : Option Object → List Value
fields_of o = option_map_or (λ object. object.fields) o []

-- field i, if the object exists and has that field
abbrev pub field_of : Option Object → ℕ → Option Value
field_of o i = slice_get (fields_of o) i

-- the value of a root, or nil past the end of the roots
abbrev pub root : Graph → ℕ → Value
root g place = unwrap_or (slice_get g.roots place) Nil

-- ---- paths

-- the value found by following these field numbers from a value
abbrev pub follow : List (ℕ × Object) → Option Value → List ℕ → Option Value
follow objects None fields = None
follow objects (Some v) [] = Some v
follow objects (Some v) (i ∷ fields) = follow objects (field_of (object_of objects v) i) fields

-- a path is a place in the roots and a list of field numbers
abbrev pub at_path : Graph → ℕ → List ℕ → Option Value
at_path g place fields = follow g.objects (slice_get g.roots place) fields

-- some path finds a reference to this name
abbrev pub Reachable : Graph → ℕ → Type 0
Reachable g name = (place : ℕ) × (fields : List ℕ) × (at_path g place fields ≡ Some (Ref name))

-- ---- names

abbrev pub names_of : Value → List ℕ
names_of v = option_to_list (name_of v)

-- all names in the graph: of objects, in fields and in roots
abbrev pub names_in : Graph → List ℕ
names_in g = map (λ entry. entry.0) g.objects
    ++ flat_map (λ entry. flat_map names_of entry.1.fields) g.objects
    ++ flat_map names_of g.roots

-- the name occurs nowhere in the graph
abbrev pub IsUnused : Graph → ℕ → Type 0
IsUnused g name = IsFalse (list_any (λ other. other == name) (names_in g))

-- the least number above all names in the graph
abbrev pub fresh_name : Graph → ℕ
fresh_name g = fold (λ least name. max least (suc name)) 0 (names_in g)

-- the number that a value is, or 0 if it is not a number
abbrev pub number_of : Value → ℕ
number_of (Num n) = n
number_of v = 0

-- ---- changes

-- the initial value of each field: 0 if the object is raw, else nil
abbrev pub first_value : Bool → Value
first_value true = Num 0
first_value false = Nil

-- a new object of this kind with this many fields
abbrev pub new_object : Bool → ℕ → ℕ → Object
new_object raw kind len = record { raw = raw; kind = kind; fields = replicate len (first_value raw) }

-- the graph with the root at this place set to `v`
abbrev pub set_root : Graph → ℕ → Value → Graph
set_root g place v = record g { roots = slice_set g.roots place v }

abbrev pub add_object : Graph → ℕ → Object → Graph
add_object g name object = record g { objects = g.objects ++ (name, object) ∷ [] }

abbrev pub with_field : Object → ℕ → Value → Object
with_field object i v = record object { fields = slice_set object.fields i v }

-- the objects with field i of the named one set to `v`
abbrev pub set_field : List (ℕ × Object) → ℕ → ℕ → Value → List (ℕ × Object)
set_field [] name i v = []
set_field (entry ∷ rest) name i v = if entry.0 == name then (entry.0, with_field entry.1 i v) ∷ rest else entry ∷ set_field rest name i v
