-- What is written of the text of a pair.
use Rattle.std.specs.Prelude.{ℕ, List}
use Rattle.gc_check.specs.InC.{IsReported}
use Rattle.gc_check.specs.Texts.{IsVerdictOn}
use Rattle.gc_check.specs.declared.in_c.GcflipVerdict.{GcflipVerdict}
use Rattle.gc_check.specs.declared.verdict.Verdict.{Verdict}

-- the line with this number is bad
abbrev pub line_in_c : ℕ → GcflipVerdict
line_in_c line = record { refusal = 0; pairs = 0; place = line; field = 0 }

-- the answer that a call returned, and what it wrote, report the verdict on the pair that the text spells
abbrev pub IsReportedOf : List ℕ → ℕ → GcflipVerdict → Type 0
IsReportedOf text answer written = (verdict : Verdict) × IsVerdictOn text verdict × IsReported verdict answer written
