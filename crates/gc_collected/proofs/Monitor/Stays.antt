-- A watch beside a collection, through the collector's steps and the mutators' commands.
-- For the theorem that the monitor follows its heap.
use Rattle.std.proofs.lemmas.Grind.{common_steps}
use Rattle.std.proofs.Common.{◌≡◌, ◌⊎◌, inl, inr, ⊎_elim, ℕ, ◌≤◌, Bool, false, List, map, Some, None, refl, arith}
use Rattle.std.specs.Prelude.{IsTrue}
use Rattle.std.proofs.lemmas.Bool.{cases_eq}
use Rattle.gc_graph.specs.Graph.{Object, Graph, lookup}
use Rattle.gc_model.specs.State.{Collection, new_objects, new_end, replica_of}
use Rattle.gc_model.specs.Steps.{place_replica, bring_up_to_date, fresh_collection}
use Rattle.gc_model.specs.Members.{Distinct}
use Rattle.gc_model.specs.Belonging.{Laid, HasRawNumbers, Belongs}
use Rattle.gc_model.proofs.Public.{Evolves, Grown, placing, bringing, pair, replicas_end, AreReplicas, replicas_due, replicas_evolve}
use Rattle.gc_monitor.specs.Watch.{Watch, is_due}
use Rattle.gc_monitor.proofs.Public.{opening_watch}
use Rattle.gc_collected.specs.Internal.Stays.{DueFor, WatchFits, GoesAlong, LosesOnly, LosesNone, MarksWritten}

-- what the steps need of a collection, whatever its logs and its scan pointer
pub record Sound (objects : List (ℕ × Object)) (c : Collection) : Type 0 where
  pub laid : Laid 1 (new_objects c) (new_end c)
  pub room : new_end c ≤ c.size
  pub once : Distinct (map (λ r. r.original) c.replicas)
  pub numbers : HasRawNumbers objects

pub sound : (objects : List (ℕ × Object)) (c : Collection) → Belongs objects c → Sound objects c
sound objects c k = record { laid = k.laid; room = k.room; once = k.once; numbers = k.numbers }

-- the replicas with what is due for the watch
pub watched : (objects : List (ℕ × Object)) (end : ℕ) (c : Collection) (w : Watch) → Sound objects c → GoesAlong objects end c w → AreReplicas objects c.size (DueFor w) c.replicas
watched objects end c w k h = record { laid = k.laid; room = k.room; once = k.once; each = h.replicas }

-- what is due for the watch, and all that stands behind a place
abbrev Before : ℕ → Watch → Bool → ℕ → ℕ → ℕ → Type 0
Before end w raw p a j = ((raw ≡ false) × (end ≤ p)) ⊎ IsTrue (is_due w p j)

abbrev But : ℕ → ℕ → (Bool → ℕ → ℕ → ℕ → Type 0) → Bool → ℕ → ℕ → ℕ → Type 0
But name i Due raw p a j = Due raw p a j × ((a ≡ name) × (j ≡ i) → ⊥)

but_less : (name i : ℕ) (Due : Bool → ℕ → ℕ → ℕ → Type 0) (raw : Bool) (p a j : ℕ) → Due raw p a j → ((a ≡ name) × (j ≡ i)) ⊎ But name i Due raw p a j
but_less name i Due raw p a j d = grind (arith, common_steps, cases_eq)

along : (objects : List (ℕ × Object)) (end : ℕ) (c : Collection) (w : Watch) → Sound objects c → GoesAlong objects end c w → AreReplicas objects c.size (Before (replicas_end c.replicas) w) c.replicas
along objects end c w k h = replicas_due objects c.size (DueFor w) (Before (replicas_end c.replicas) w) c.replicas (watched objects end c w k h) (λ r l i m d. inr d)

-- ---- a field brought up to date: `scan` and `apply`

pub brought : (g : Graph) (end : ℕ) (c next : Collection) (w later : Watch) (name i : ℕ)
    → Sound g.objects c → GoesAlong g.objects end c w → bring_up_to_date c g name i ≡ Some next
    → WatchFits end next later → LosesOnly (new_end c) name i w next later
    → GoesAlong g.objects end next later
brought g end c next w later name i k h is fits loses = record { fits = fits; replicas = ok.each }
  where
    Due : Bool → ℕ → ℕ → ℕ → Type 0
    Due = Before (replicas_end c.replicas) w

    grown : Grown g.objects c (But name i Due) next
    grown = bringing g c Due (But name i Due) name i next k.numbers (along g.objects end c w k h) (λ a j. inl (refl, omega arith)) (but_less name i Due) is

    ok : AreReplicas g.objects next.size (DueFor later) next.replicas
    ok = replicas_due g.objects next.size (But name i Due) (DueFor later) next.replicas grown.replicas
        (λ r l j m d. ⊎_elim (λ x. absurd (d.1 x)) (λ x. x) (loses r l j m d.0))

-- ---- a replica placed: `roots`

pub placed_next : (objects : List (ℕ × Object)) (end : ℕ) (c next : Collection) (w later : Watch) (name : ℕ)
    → Sound objects c → GoesAlong objects end c w → replica_of c name ≡ None → place_replica c name (lookup objects name) ≡ Some next
    → WatchFits end next later → LosesNone (new_end c) w next later
    → GoesAlong objects end next later
placed_next objects end c next w later name k h none is fits loses = record { fits = fits; replicas = ok.each }
  where
    Due : Bool → ℕ → ℕ → ℕ → Type 0
    Due = Before (replicas_end c.replicas) w

    grown : Grown objects c Due next
    grown = (placing objects c Due name next k.numbers (along objects end c w k h) none (λ a j. inl (refl, omega arith)) is).0

    ok : AreReplicas objects next.size (DueFor later) next.replicas
    ok = replicas_due objects next.size Due (DueFor later) next.replicas grown.replicas loses

-- ---- a command: fields are written, objects made

pub commanded : (before after : List (ℕ × Object)) (Written : ℕ → ℕ → Type 0) (end end' : ℕ) (c : Collection) (w later : Watch)
    → Sound before c → GoesAlong before end c w → Evolves before after Written
    → WatchFits end' c later → MarksWritten Written w c later
    → GoesAlong after end' c later
commanded before after Written end end' c w later k h evolves fits marks = record { fits = fits; replicas = ok.each }
  where
    Due : Bool → ℕ → ℕ → ℕ → Type 0
    Due raw p a j = IsTrue (is_due w p j) ⊎ Written a j

    evolved : AreReplicas after c.size Due c.replicas
    evolved = replicas_evolve before after c.size (DueFor w) Due Written c.replicas (watched before end c w k h) evolves (λ raw p a i d. inl d) (λ raw p a i t. inr t)

    ok : AreReplicas after c.size (DueFor later) c.replicas
    ok = replicas_due after c.size Due (DueFor later) c.replicas evolved marks

-- ---- the beginning

pub begun : (objects : List (ℕ × Object)) (end mutators size : ℕ) → GoesAlong objects end (fresh_collection mutators size) (opening_watch end)
begun objects end mutators size = grind (arith, common_steps)

-- ---- the scan pointer and the logs do not matter

pub moved_on : (objects : List (ℕ × Object)) (end : ℕ) (c next : Collection) (w : Watch) → next.replicas ≡ c.replicas → GoesAlong objects end c w → GoesAlong objects end next w
moved_on objects end c next w same h = grind (arith, common_steps, pair, replicas_end)
