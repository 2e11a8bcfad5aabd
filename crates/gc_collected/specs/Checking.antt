-- What a check of the open collection finds.
use Rattle.std.specs.Prelude.{◌≡◌, ℕ, if◌then◌else◌, length, IfSome}
use Rattle.std.specs.Option.{option_map_or}
use Rattle.gc_cert.specs.Grammar.{CertifiedPair}
use Rattle.gc_model.specs.State.{State}
use Rattle.gc_model.specs.Steps.{is_ready}
use Rattle.gc_collected.specs.Flip.{flip_pair}
use Rattle.gc_collected.specs.declared.checking.Finding.{Finding}
use Rattle.gc_collected.specs.declared.checking.Finding.TheVariants.{Idle, NotReady, Holds}

-- the certificate of a ready collection holds, and has a pair for each replica
abbrev pub finding : State → Finding
finding s = option_map_or (λ c. if is_ready c s.heap.graph then Holds (length c.replicas) else NotReady) s.collection Idle

-- if the finding is `Holds`, `says` holds of the open collection's pair
abbrev pub HoldsOnly : (CertifiedPair → Type 0) → State → Finding → Type 0
HoldsOnly says s found = (pairs : ℕ) → found ≡ Holds pairs → IfSome s.collection (λ c. says (flip_pair s c))
