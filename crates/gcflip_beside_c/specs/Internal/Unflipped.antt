-- Why a flip was not made.
use Rattle.std.specs.Prelude.{ℕ}
use Rattle.gc_check.specs.InC.{no_memory}
use Rattle.gc_concurrent.specs.declared.held.NoFlip.{NoFlip}
use Rattle.gc_concurrent.specs.declared.held.NoFlip.TheVariants as reasons
use Rattle.gcflip_beside_c.specs.Answers.{not_ready}

-- the number for a flip that was not made
abbrev pub why_in_c : NoFlip → ℕ
why_in_c reasons.NotReady = not_ready
why_in_c reasons.NoMemory = no_memory
why_in_c reasons.Refused = not_ready
