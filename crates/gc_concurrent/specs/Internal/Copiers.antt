-- The collector's memory.
use Rattle.std.specs.Prelude.{◌≡◌, ◌≢◌, ◌⊎◌, ℕ, ◌+◌, ◌<◌, ◌≤◌, ◌==◌, true, List, length, slice_index, IsSome}
use Rattle.std.specs.List.{find}
use Rattle.std.specs.Option.{option_map_or}
use Rattle.gc_graph.specs.Graph.{Value, Nil, Num, Ref}
use Rattle.gc_model.specs.State.{Replica, replica_of}
use Rattle.gc_model.specs.Members.{In}
use Rattle.gc_words.specs.Word.{value_of}
use Rattle.gc_concurrent.specs.Ends.{Theirs, its}
use Rattle.gc_concurrent.specs.Moves.{half}
use Rattle.gc_concurrent.specs.Works.{KeepsBeginning}
use Rattle.gc_concurrent.specs.Nearing.{ComesNearer, GetsOn}
use Rattle.gc_words.specs.Space.{end_of}
use Rattle.gc_concurrent.specs.Internal.Rule.{Sat, StartsThere, begun_anew}

-- the place of the replica whose original's address has this half, or 0
abbrev pub claim_by_half : List Replica → ℕ → ℕ
claim_by_half replicas k = option_map_or (λ r. r.place) (find (λ r. half r.original == k) replicas) 0

-- The row has, by half of the object's address, the place of each object's replica, or 0.
pub record Claims (row : List ℕ) (t : Theirs) : Type 0 where
  pub long : length row ≡ half t.old
  pub told : (k : ℕ) → k < half t.old → slice_index row k ≡ claim_by_half t.replicas k

-- An object may start at this address: it fits, and no other object with a replica starts at an address with the same half.
pub record HasOwnHalf (t : Theirs) (a : ℕ) : Type 0 where
  pub near : a + 2 ≤ t.old
  pub apart : (q : Replica) → In q t.replicas → half q.original ≡ half a → q.original ≡ a

-- the value as it refers to replicas
abbrev pub moved_by : List ℕ → Value → Value
moved_by row Nil = Nil
moved_by row (Num n) = Num n
moved_by row (Ref a) = Ref (slice_index row (half a))

-- no object loses its replica
abbrev pub KeepsReplicas : Theirs → Theirs → Type 0
KeepsReplicas old new = (a : ℕ) → IsSome (replica_of (its old) a) → IsSome (replica_of (its new) a)

-- What a step of the collector keeps of its seat: the mutator's end, if it has it, how the collection began, and what it holds. No object loses its
-- replica, and a seat that is both ends makes replicas of objects of the mutator's space alone.
pub record KeepsSeat (a b : Sat) : Type 0 where
  pub writes : b.0.writes ≡ a.0.writes
  pub mine : b.0.mine ≡ a.0.mine
  pub begun : KeepsBeginning a.0.theirs b.0.theirs
  pub replicas : KeepsReplicas a.0.theirs b.0.theirs
  pub starts : a.0.writes ≡ true → StartsThere a.0.mine a.0.theirs → StartsThere b.0.mine b.0.theirs
  pub holds : b.1 ≡ a.1

-- the seat, whose mutator logs its writes
abbrev pub logging : Sat → Sat
logging me = (record me.0 { mine = record me.0.mine { logs = true } }, me.1)

-- the seat, whose collection begins anew in a new space of one word
abbrev pub restarted : Sat → Sat
restarted me = (record me.0 { theirs = begun_anew 1 me.0.theirs }, me.1)

-- fewer steps are ahead of a seat that is both ends
abbrev pub NearsHeld : Sat → Sat → Type 0
NearsHeld a b = a.0.writes ≡ true → ComesNearer (end_of a.0.mine.space) a.0.theirs b.0.theirs

-- Fewer steps are ahead of a seat, beside a mutator too.
abbrev pub Nears : Sat → Sat → Type 0
Nears a b = NearsHeld a b × GetsOn a.0.theirs b.0.theirs

-- the seat is the same, or one that is both ends with fewer steps ahead
abbrev pub StaysOrNears : Sat → Sat → Type 0
StaysOrNears a b = (b ≡ a) ⊎ NearsHeld a b

-- each target of these root words has a claim
abbrev pub AreClaimed : List ℕ → List ℕ → Type 0
AreClaimed row roots = (k a : ℕ) → k < length roots → value_of (slice_index roots k) ≡ Ref a → slice_index row (half a) ≢ 0

-- the target of one of these root words has none
pub record LacksOne (row roots : List ℕ) : Type 0 where
  pub place : ℕ
  pub target : ℕ
  pub within : place < length roots
  pub refers : value_of (slice_index roots place) ≡ Ref target
  pub none : slice_index row (half target) ≡ 0
