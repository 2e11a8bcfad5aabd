-- The first faulty pair is the least of the numbers that the pairs give.
use Rattle.std.specs.Prelude.{◌≡◌, ℕ, ◌<◌, ◌≤◌, true, if◌then◌else◌, Option, None, is_some}
use Rattle.gc_words.specs.Fault.{pair_fault}
use Rattle.gc_words.specs.declared.refusal.Refusal.{Refusal}
use Rattle.gc_cert.specs.Grammar.{CertifiedPair}
use Rattle.gc_check.specs.Pairs.{pair_at}

-- the fault of the objects of pair k
abbrev pub fault_at : CertifiedPair → ℕ → Option Refusal
fault_at checked k = pair_fault checked.old checked.new checked.pairs k (pair_at checked.pairs k)

-- k if its pair has a fault, otherwise the number of pairs
abbrev pub place_or : ℕ → (ℕ → Option Refusal) → ℕ → ℕ
place_or count fault k = if is_some (fault k) then k else count

-- the first number below the count whose pair has a fault, or the count if none has
pub record IsFirst (fault : ℕ → Option Refusal) (count first : ℕ) : Type 0 where
  pub within : first ≤ count
  pub before : (k : ℕ) → k < first → fault k ≡ None
  pub here : first < count → is_some (fault first) ≡ true
