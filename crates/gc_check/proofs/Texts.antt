-- What is true of the pair that was read is true of every pair that the text spells.
use Rattle.std.proofs.Common.{◌≡◌, ℕ, List, Option, IfSome, Result, IfOk, rules}
use Rattle.gc_graph.specs.Streams.{SendsFront}
use Rattle.gc_cert.specs.Grammar.{CertifiedPair, IsTextOf}
use Rattle.gc_cert.specs.Faults.{IsReadAsPair}
use Rattle.gc_check.specs.Verdict.{verdict_line}
use Rattle.gc_check.specs.Texts.{verdict_on, TellsFront}
use Rattle.gc_check.specs.declared.verdict.Verdict.{Verdict}

-- a text spells at most one pair
abbrev HasOneReading : Type 0
HasOneReading = (f g : CertifiedPair) (text : List ℕ) → IsTextOf f text → IsTextOf g text → f ≡ g

pub each_reading : {E : Type 0} → HasOneReading → (r : Result Verdict E) (P : Verdict → CertifiedPair → Type 0) (file : CertifiedPair) → IfOk r (λ verdict. P verdict file)
    → IfOk r (λ verdict. (o : Option (List ℕ)) → IfSome o (λ text. IsReadAsPair file text) → IfSome o (λ text. (pair : CertifiedPair) → IsReadAsPair pair text → P verdict pair))
each_reading one r P file holds = search (rules)

pub front_of_text : (o : Option (List ℕ)) (v : Verdict) (file : CertifiedPair) (old new : Option (List ℕ)) → IfSome o (λ text. IsReadAsPair file text) → v ≡ verdict_on file → SendsFront old new (verdict_line v)
    → TellsFront o old new
front_of_text o v file old new read same front = search (rules)
