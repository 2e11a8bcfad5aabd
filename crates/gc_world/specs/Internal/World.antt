-- How the fields of a world fit together.
use Rattle.std.specs.Prelude.{◌≡◌, ◌≤◌, Option, IfSome}
use Rattle.gc_graph.specs.Limits.{most_words}
use Rattle.gc_collected.specs.Flip.{IsCertified}
use Rattle.gc_model.specs.State.{State}
use Rattle.gc_cert.specs.Grammar.{CertifiedPair}
use Rattle.gc_world.specs.History.{IsHistory}
use Rattle.gc_world.specs.World.{Past, present}

-- a kept pair is certified, and its images are small
abbrev pub IsKeptPair : Option CertifiedPair → Type 0
IsKeptPair kept = IfSome kept (λ pair. IsCertified pair × (pair.old.size ≤ most_words) × (pair.new.size ≤ most_words))

-- the heap is the state that the history leads to
pub record IsWorld (now : State) (past : Past) : Type 0 where
  pub history : IsHistory past.size past.mutators past.entries
  pub state : now ≡ present past
  pub kept : IsKeptPair past.kept
