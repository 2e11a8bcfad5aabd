-- Numbers that the fields of a raw object take, which may be read from two other objects meanwhile.
use Rattle.std.specs.Prelude.{◌≡◌, ◌≢◌, ℕ, true, List, length, map, Option, Some}
use Rattle.gc_graph.specs.Graph.{Graph, Object, Ref, lookup, new_object, object_of, root}
use Rattle.gc_model.specs.State.{State}
use Rattle.gc_collected.specs.Giving.{gives_step}
use Rattle.gc_collected.specs.declared.giving.FieldValue.TheVariants.{Number}

-- the fields, from field i on, of the object in root p take these numbers
abbrev pub numbers_given : State → ℕ → ℕ → ℕ → List ℕ → State
numbers_given s m p i numbers = gives_step s m p i (map Number numbers)

-- two objects that numbers are read from
abbrev pub Sources : Type 0
Sources = Option Object × Option Object

-- those with these names
abbrev pub sources_at : Graph → ℕ × ℕ → Sources
sources_at g names = (lookup g.objects names.0, lookup g.objects names.1)

-- neither has this name
abbrev pub AreApart : ℕ × ℕ → ℕ → Type 0
AreApart names a = (names.0 ≢ a) × (names.1 ≢ a)

-- root d refers to the new raw object at this address, and the others are as before
pub record IsNewRaw (old new : Graph) (d kind len at : ℕ) : Type 0 where
  pub name : root new d ≡ Ref at
  pub object : object_of new.objects (root new d) ≡ Some (new_object true kind len)
  pub others : (a : ℕ) → a ≢ at → lookup new.objects a ≡ lookup old.objects a
  pub roots : length new.roots ≡ length old.roots
