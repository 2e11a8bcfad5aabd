-- Graphs whose names and lengths are bounded.
use Rattle.std.specs.Prelude.{ℕ, ◌<◌, length, ⊤}
use Rattle.std.specs.List.{AllByRecursion}
use Rattle.gc_graph.specs.Limits.{lengths}
use Rattle.gc_graph.specs.Graph.{Value, Nil, Num, Ref, Graph}

abbrev pub ValueBelow : ℕ → Value → Type 0
ValueBelow next Nil = ⊤
ValueBelow next (Num n) = ⊤
ValueBelow next (Ref name) = name < next

-- every name in the graph is below `next`
pub record AreBelow (next : ℕ) (g : Graph) : Type 0 where
  pub keys : AllByRecursion (λ entry. entry.0 < next) g.objects
  pub fields : AllByRecursion (λ entry. AllByRecursion (ValueBelow next) entry.1.fields) g.objects
  pub roots : AllByRecursion (ValueBelow next) g.roots

-- every object has fewer than `lengths` fields
abbrev pub AreShort : Graph → Type 0
AreShort g = AllByRecursion (λ entry. length entry.1.fields < lengths) g.objects
