-- What the program writes and returns for a pair text.
use Rattle.std.specs.Prelude.{◌≡◌, ℕ, List, Option}
use Rattle.std.specs.Io.KnownBytes.{Appends}
use Rattle.gc_cert.specs.Grammar.{CertifiedPair}
use Rattle.gc_cert.specs.Faults.{IsReadAsPair}
use Rattle.gc_check.specs.Texts.{verdict_on}
use Rattle.gc_check.specs.Verdict.{verdict_line}
use Rattle.gcflip.specs.Statuses.{verdict_status}

-- the text spells a pair, the status is that of the verdict on it, and only the verdict's line went out
abbrev pub TellsVerdict : List ℕ → ℕ → Option (List ℕ) → Option (List ℕ) → Type 0
TellsVerdict text status old new = (pair : CertifiedPair) × IsReadAsPair pair text × (status ≡ verdict_status (verdict_on pair)) × Appends old new (verdict_line (verdict_on pair))
