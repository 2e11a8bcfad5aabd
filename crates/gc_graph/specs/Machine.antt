-- What each command does to a graph, and the same with a count of free words.
use Rattle.std.specs.Prelude.{ℕ, suc, ◌+◌, ◌-◌, ◌==◌, nat_lt, Bool, true, false, ◌&&◌, not, if◌then◌else◌, List, length, ◌≡◌, ◌≤◌, ⊤, Option, Some, None, is_some}
use Rattle.gc_graph.specs.Slots.{place, roots_of}
use Rattle.gc_graph.specs.Graph.{Value, Nil, Num, Ref, Object, Graph, opening, object_of, field_of, root, set_root, new_object, add_object, set_field, lookup, IsUnused}
use Rattle.gc_graph.specs.declared.command.Op.{Op}
use Rattle.gc_graph.specs.declared.command.Op.TheVariants as ops
use Rattle.gc_graph.specs.declared.reply.Reply.{Reply}
use Rattle.gc_graph.specs.declared.reply.Reply.TheVariants.{Full, Made, Done, NoObject, NoField, NoNumber, Saw, Yes, No}
use Rattle.gc_graph.specs.declared.reply.View.{View}
use Rattle.gc_graph.specs.declared.reply.View.TheVariants as views

-- the view of an object: its kind and length, and whether it is raw
abbrev pub view_of_object : Option Object → View
view_of_object None = views.Nil
view_of_object (Some object) = if object.raw then views.RawObj object.kind (length object.fields) else views.Obj object.kind (length object.fields)

-- the view of a value; a name without an object is shown as nil
abbrev pub view_of : List (ℕ × Object) → Value → View
view_of objects Nil = views.Nil
view_of objects (Num n) = views.Num n
view_of objects (Ref name) = view_of_object (lookup objects name)

-- both are nil, both are the same number, or both refer to the same object, which exists
abbrev pub same : List (ℕ × Object) → Value → Value → Bool
same objects Nil Nil = true
same objects (Num a) (Num b) = a == b
same objects (Ref a) (Ref b) = (a == b) && is_some (lookup objects a)
same objects v w = false

-- `get` into the root at place `d`, given the object that `s` refers to and the value of its field
abbrev pub get_field : Graph → ℕ → Option Object → Option Value → Reply × Graph
get_field g d None found = (NoObject, g)
get_field g d (Some object) None = (NoField, g)
get_field g d (Some object) (Some v) = (Saw (view_of g.objects v), set_root g d v)

abbrev pub is_number : Value → Bool
is_number (Num n) = true
is_number v = false

-- `put`, given the value of `s`, the object that it refers to, and the field's old value; a raw object accepts only numbers
abbrev pub put_field : Graph → Value → Option Object → Option Value → ℕ → Value → Reply × Graph
put_field g (Ref name) (Some object) (Some before) i v =
    if object.raw && not (is_number v) then (NoNumber, g)
    else (Done, record g { objects = set_field g.objects name i v })
put_field g (Ref name) (Some object) None i v = (NoField, g)
put_field g target target_object found i v = (NoObject, g)

-- The reply to mutator m's command, and the graph after it. `New` and `NewRaw` give the new object the name `name`, which
-- must be unused.
abbrev pub step : Graph → ℕ → Op → ℕ → Reply × Graph
step g m (ops.New d kind len) name = (Made, set_root (add_object g name (new_object false kind len)) (place d m) (Ref name))
step g m (ops.NewRaw d kind len) name = (Made, set_root (add_object g name (new_object true kind len)) (place d m) (Ref name))
step g m (ops.Num d n) name = (Done, set_root g (place d m) (Num n))
step g m (ops.Nil d) name = (Done, set_root g (place d m) Nil)
step g m (ops.Move d s) name = (Done, set_root g (place d m) (root g (place s m)))
step g m (ops.Get d s i) name = let target = object_of g.objects (root g (place s m)) in get_field g (place d m) target (field_of target i)
step g m (ops.Put s i t) name = let target = object_of g.objects (root g (place s m)) in put_field g (root g (place s m)) target (field_of target i) i (root g (place t m))
step g m (ops.Same s t) name = (if same g.objects (root g (place s m)) (root g (place t m)) then Yes else No, g)
step g m (ops.Look s) name = (Saw (view_of g.objects (root g (place s m))), g)

-- the command makes an object
abbrev pub MakesObject : Op → Type 0
MakesObject (ops.New d kind len) = ⊤
MakesObject (ops.NewRaw d kind len) = ⊤
MakesObject op = ⊥

-- ---- with a count of free words

pub record Roomy : Type 0 where
  pub graph : Graph
  pub free : ℕ

-- the number of words of an object with this many fields: its header, its link, and its fields
abbrev pub object_words : ℕ → ℕ
object_words len = len + 2

-- the number of words that a command allocates
abbrev pub words_taken : Op → ℕ
words_taken (ops.New d kind len) = object_words len
words_taken (ops.NewRaw d kind len) = object_words len
words_taken op = 0

-- the reply and the state after a command: `Full`, with no change, exactly if there are too few free words
abbrev pub roomy_step : Roomy → ℕ → Op → ℕ → Reply × Roomy
roomy_step s m op name =
    if nat_lt s.free (words_taken op) then (Full, s)
    else (let next = step s.graph m op name in (next.0, record { graph = next.1; free = s.free - words_taken op }))

-- the initial state in a space of this many words, the first of which is reserved
abbrev pub opening_roomy : ℕ → ℕ → Roomy
opening_roomy size mutators = record { graph = opening mutators; free = size - 1 }

-- the roots include mutator m's own slots
abbrev pub HasMutator : Graph → ℕ → Type 0
HasMutator g m = roots_of (suc m) ≤ length g.roots

-- The command gets this reply and leads to this state. A new object gets a name that was unused.
pub record Answers (old : Roomy) (m : ℕ) (op : Op) (reply : Reply) (new : Roomy) : Type 0 where
  pub name : ℕ
  pub unused : IsUnused old.graph name
  pub step : roomy_step old m op name ≡ (reply, new)
