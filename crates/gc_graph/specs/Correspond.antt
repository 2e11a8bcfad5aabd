-- When values, objects and graphs correspond, given a list of pairs of names.
use Rattle.std.specs.Prelude.{◌≡◌, ℕ, ◌==◌, Bool, true, false, ◌&&◌, List, length, Option, Some, None, IsTrue, ⊤}
use Rattle.std.specs.List.{list_any, AllZip}
use Rattle.gc_graph.specs.Graph.{Value, Nil, Num, Ref, Object, Graph, lookup}

abbrev pub paired : List (ℕ × ℕ) → ℕ → ℕ → Bool
paired pairs a b = list_any (λ p. (p.0 == a) && (p.1 == b)) pairs

-- both are nil, both are the same number, or both are references whose names are a pair
abbrev pub correspond : List (ℕ × ℕ) → Value → Value → Bool
correspond pairs Nil Nil = true
correspond pairs (Num a) (Num b) = a == b
correspond pairs (Ref a) (Ref b) = paired pairs a b
correspond pairs v w = false

-- both paths find nothing, or both find values and these correspond
abbrev pub Agree : List (ℕ × ℕ) → Option Value → Option Value → Type 0
Agree pairs None None = ⊤
Agree pairs (Some v) (Some w) = IsTrue (correspond pairs v w)
Agree pairs v w = ⊥

-- both objects exist, are both raw or both not, have the same kind and length, and their fields correspond one by one
abbrev pub EqualFieldByField : List (ℕ × ℕ) → Option Object → Option Object → Type 0
EqualFieldByField pairs (Some o) (Some q) = (o.raw ≡ q.raw) × (o.kind ≡ q.kind) × (length o.fields ≡ length q.fields) × AllZip (λ v w. IsTrue (correspond pairs v w)) o.fields q.fields
EqualFieldByField pairs o q = ⊥

-- The roots correspond, the objects of each pair are equal field by field, and no name has two partners. Nothing is said
-- about other objects: an unreachable object needs no partner.
pub record Corresponding (pairs : List (ℕ × ℕ)) (g h : Graph) : Type 0 where
  pub roots : AllZip (λ v w. IsTrue (correspond pairs v w)) g.roots h.roots
  pub objects : (a b : ℕ) → IsTrue (paired pairs a b) → EqualFieldByField pairs (lookup g.objects a) (lookup h.objects b)
  pub one_right : (a b c : ℕ) → IsTrue (paired pairs a b) → IsTrue (paired pairs a c) → b ≡ c
  pub one_left : (a b c : ℕ) → IsTrue (paired pairs a c) → IsTrue (paired pairs b c) → a ≡ b
