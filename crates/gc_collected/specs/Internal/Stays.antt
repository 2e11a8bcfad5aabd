-- A watch beside an open collection: what both know of the replicas.
use Rattle.std.specs.Prelude.{◌≡◌, ◌⊎◌, ◌≤◌, ℕ, ◌<◌, Bool, false, List, length, IsTrue}
use Rattle.gc_graph.specs.Graph.{Object}
use Rattle.gc_model.specs.State.{Replica, Collection, pairs_of, new_end}
use Rattle.gc_model.specs.Members.{In}
use Rattle.gc_model.specs.Belonging.{IsReplica}
use Rattle.gc_monitor.specs.Watch.{Watch, is_due}

-- field i of the replica at place p is due for the watch
abbrev pub DueFor : Watch → Bool → ℕ → ℕ → ℕ → Type 0
DueFor w raw p a i = IsTrue (is_due w p i)

-- the watch has seen both spaces to their ends, and its pairs are the collection's
pub record WatchFits (end : ℕ) (c : Collection) (w : Watch) : Type 0 where
  pub pairs : w.pairs ≡ pairs_of c
  pub old_seen : w.old_seen ≡ end
  pub new_seen : w.new_seen ≡ new_end c
  pub row : length w.due ≡ w.new_seen

-- each field of a replica is due for the watch or up to date
pub record GoesAlong (objects : List (ℕ × Object)) (end : ℕ) (c : Collection) (w : Watch) : Type 0 where
  pub fits : WatchFits end c w
  pub replicas : (r : Replica) → In r c.replicas → IsReplica objects (pairs_of c) (DueFor w) r

-- a later watch has the fields of new replicas as due, unless they are raw, which were copied whole; and it has lost no mark but
-- that of field i of the replica of `name`
abbrev pub LosesOnly : ℕ → ℕ → ℕ → Watch → Collection → Watch → Type 0
LosesOnly end name i w next later = (r : Replica) → In r next.replicas → (j : ℕ) → j < length r.object.fields
    → ((r.object.raw ≡ false) × (end ≤ r.place)) ⊎ IsTrue (is_due w r.place j) → ((r.original ≡ name) × (j ≡ i)) ⊎ IsTrue (is_due later r.place j)

-- the same of a watch that has lost no mark
abbrev pub LosesNone : ℕ → Watch → Collection → Watch → Type 0
LosesNone end w next later = (r : Replica) → In r next.replicas → (j : ℕ) → j < length r.object.fields
    → ((r.object.raw ≡ false) × (end ≤ r.place)) ⊎ IsTrue (is_due w r.place j) → IsTrue (is_due later r.place j)

-- a later watch has lost no mark, and has the fields that were written as due
abbrev pub MarksWritten : (ℕ → ℕ → Type 0) → Watch → Collection → Watch → Type 0
MarksWritten Written w c later = (r : Replica) → In r c.replicas → (j : ℕ) → j < length r.object.fields
    → IsTrue (is_due w r.place j) ⊎ Written r.original j → IsTrue (is_due later r.place j)
