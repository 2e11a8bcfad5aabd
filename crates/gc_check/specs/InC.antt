-- A verdict as the libraries for C return it: the number of an answer, and a struct. The other numbers of their calls are their own.
use Rattle.std.specs.Prelude.{◌≡◌, ◌≤◌, ◌<◌, ℕ}
use Rattle.std.specs.Option.{unwrap_or}
use Rattle.gc_words.specs.declared.refusal.Refusal.{Refusal}
use Rattle.gc_check.specs.Verdict.{refusal_parts}
use Rattle.gc_check.specs.declared.in_c.GcflipVerdict.{GcflipVerdict}
use Rattle.gc_check.specs.declared.verdict.Verdict.{Verdict}
use Rattle.gc_check.specs.declared.verdict.Verdict.TheVariants as verdict

-- the certificate holds; from a call that does not check: it was performed, or a path is found
abbrev pub done : ℕ
done = 0

abbrev pub no_memory : ℕ
no_memory = 1

-- the certificate does not hold
abbrev pub refused : ℕ
refused = 48

-- the call was refused, and did nothing
abbrev pub IsRefusal : ℕ → Type 0
IsRefusal answer = (1 ≤ answer) × (answer < 16)

-- a refusal's number and its places, or 0 for a place that it does not have
abbrev pub refusal_in_c : Refusal → GcflipVerdict
refusal_in_c refusal = let parts = refusal_parts refusal in record { refusal = parts.0; pairs = 0; place = unwrap_or parts.2 0; field = unwrap_or parts.3 0 }

-- the answer that a call returned, and what it wrote, report this verdict
abbrev pub IsReported : Verdict → ℕ → GcflipVerdict → Type 0
IsReported (verdict.Yes pairs) answer written = (answer ≡ done) × (written ≡ record { refusal = 0; pairs = pairs; place = 0; field = 0 })
IsReported (verdict.Refused refusal) answer written = (answer ≡ refused) × (written ≡ refusal_in_c refusal)
