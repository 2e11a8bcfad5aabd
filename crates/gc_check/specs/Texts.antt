-- The checker's answer to a text, and what it writes.
use Rattle.std.specs.Prelude.{◌≡◌, ◌≢◌, ◌↔◌, ℕ, Bool, true, List, Option, IfSome, Result, Err, IfOk, OnErr, ⊤}
use Rattle.std.specs.Io.KnownBytes.{Appends}
use Rattle.gc_graph.specs.Streams.{SendsFront, sink_failed}
use Rattle.gc_graph.specs.declared.sink.Sink.{Sink}
use Rattle.gc_cert.specs.Grammar.{CertifiedPair}
use Rattle.gc_cert.specs.Faults.{IsReadAsPair, MayFail}
use Rattle.gc_cert.specs.declared.fault.PairFault.{PairFault}
use Rattle.gc_cert.specs.declared.fault.PairFault.TheVariants.{Read, NoMemory}
use Rattle.gc_check.specs.Headline.{Replicated}
use Rattle.gc_check.specs.Verdict.{verdict_of, verdict_line}
use Rattle.gc_check.specs.declared.verdict.RunFault.{RunFault}
use Rattle.gc_check.specs.declared.verdict.RunFault.TheVariants.{Pair, Write}
use Rattle.gc_check.specs.declared.verdict.Verdict.{Verdict}
use Rattle.gc_check.specs.declared.verdict.Verdict.TheVariants as verdict

-- the verdict on a pair of images with its certificate
abbrev pub verdict_on : CertifiedPair → Verdict
verdict_on pair = verdict_of pair.old pair.new pair.pairs

-- if the verdict is yes, `holds` is true of the pair
abbrev pub OnYes : (CertifiedPair → Type 0) → Verdict → CertifiedPair → Type 0
OnYes holds (verdict.Yes pairs) pair = holds pair
OnYes holds (verdict.Refused refusal) pair = ⊤

-- what a verdict promises: after a yes, the soundness theorem
abbrev pub Promises : Verdict → CertifiedPair → Type 0
Promises = OnYes (λ pair. Replicated pair.old pair.new pair.pairs)

-- the text spells a pair, and this is the verdict on it
pub record IsVerdictOn (text : List ℕ) (verdict : Verdict) : Type 0 where
  pub pair : CertifiedPair
  pub read : IsReadAsPair pair text
  pub verdict_is : verdict ≡ verdict_on pair

-- a prefix of this verdict's line went out; if the reader's text is known, it is the verdict on that text
pub record TellsFront (text : Option (List ℕ)) (old new : Option (List ℕ)) : Type 0 where
  pub verdict : Verdict
  pub about : IfSome text (λ text. IsVerdictOn text verdict)
  pub front : SendsFront old new (verdict_line verdict)

-- What a check of a text returns and writes. `text` is what the reader had left, `failed` says whether reading it has failed, and
-- `contents` tells the bytes that a sink holds.
pub record IsTextCheck {W : Type 0} (text : Option (List ℕ)) (failed : Bool) (contents : Sink W → Option (List ℕ)) (old new : Sink W) (result : Result Verdict RunFault) : Type 0 where
  pub verdict : IfOk result (λ verdict. IfSome text (λ text. IsVerdictOn text verdict))
  -- the verdict's line, and nothing else
  pub line : IfOk result (λ verdict. Appends (contents old) (contents new) (verdict_line verdict))
  -- the soundness theorem for the images that the text spells
  pub replicated : IfOk result (λ verdict. IfSome text (λ text. (pair : CertifiedPair) → IsReadAsPair pair text → Promises verdict pair))
  -- the first fault of a bad text
  pub fault : (fault : PairFault) → result ≡ Err (Pair fault) → IfSome text (λ text. MayFail fault text)
  pub memory : result ≢ Err (Pair NoMemory)
  pub unread : (result ≡ Err (Pair Read)) ↔ (failed ≡ true)
  pub unwritten : result ≡ Err Write → sink_failed new ≡ true
  pub silent : OnErr result (result ≢ Err Write → new ≡ old)
  -- what went out is a prefix of the verdict's line
  pub front : result ≡ Err Write → TellsFront text (contents old) (contents new)
