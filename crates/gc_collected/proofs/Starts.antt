-- The marks of a standing checker and the objects of a graph: where one starts, the graph has it.
use Rattle.std.proofs.lemmas.Grind.{common_steps}
use Rattle.std.proofs.Common.{◌≡◌, inl, inr, ℕ, Bool, true, false, List, [], ◌∷◌, is_some, Option, Some, None, refl, sym, arith}
use Rattle.std.proofs.lemmas.Bool.{cond-true, cond-false, cases_Bool, eq-eqb}
use Rattle.gc_graph.specs.Graph.{Object, lookup}
use Rattle.gc_model.specs.Belonging.{IsNamed}
use Rattle.gc_model.proofs.Public.{lookup_in}

named_some : (objects : List (ℕ × Object)) (a : ℕ) → IsNamed objects a → is_some (lookup objects a) ≡ true
named_some [] a (o, l) = absurd l
named_some (e ∷ rest) a h = grind (arith, common_steps, is_some, cond-true, cond-false, eq-eqb, named_some rest a)

some_named : (objects : List (ℕ × Object)) (a : ℕ) (o : Option Object) → lookup objects a ≡ o → is_some o ≡ true → IsNamed objects a
some_named objects a None e s = absurd (let no : false ≡ true = s in cc)
some_named objects a (Some o) e s = (o, lookup_in objects a o e)

-- what the marks tell is what the graph has
pub told_starts : (objects : List (ℕ × Object)) (a : ℕ) (Mark : Type 0) (told : Bool) → (told ≡ true → Mark) → (Mark → told ≡ true) → (Mark → IsNamed objects a) → (IsNamed objects a → Mark) → told ≡ is_some (lookup objects a)
told_starts objects a Mark true is_mark marks named back = sym (named_some objects a (named (is_mark refl)))
told_starts objects a Mark false is_mark marks named back = elim (cases_Bool (is_some (lookup objects a))) [
  | inl y ↦ absurd (let no : false ≡ true = marks (back (some_named objects a (lookup objects a) refl y)) in cc)
  | inr n ↦ sym n
]
