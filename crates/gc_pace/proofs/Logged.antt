-- The entries in all logs, counted log by log.
use Rattle.std.proofs.lemmas.Grind.{common_steps}
use Rattle.std.proofs.Common.{◌≡◌, ℕ, zero, suc, ◌+◌, List, [], ◌∷◌, drop, length, slice_get, Option, Some, None, refl, subst, arith}
use Rattle.std.specs.Prelude.{IfSome}
use Rattle.std.proofs.lemmas.List.Sums.{sum_by-cons}
use Rattle.std.specs.Option.{option_map_or, unwrap_or}
use Rattle.gc_model.specs.Belonging.{IsOpened}
use Rattle.gc_model.specs.Progress.{entries_in}
use Rattle.gc_model.specs.State.{Collection, State}
use Rattle.gc_model.specs.Steps.{log_at}
use Rattle.gc_collected.specs.Readings.{log_of}

-- the entries in the logs of this mutator and of those after it
abbrev pub entries_from : State → ℕ → ℕ
entries_from s m = option_map_or (λ c. entries_in (drop m c.logs)) s.collection 0

next_in : (logs : List (List (ℕ × ℕ))) (m : ℕ) → entries_in (drop m logs) ≡ length (unwrap_or (slice_get logs m) []) + entries_in (drop (suc m) logs)
next_in [] zero = refl
next_in [] (suc m) = refl
next_in (log ∷ logs) zero = sum_by-cons (λ log. length log) log logs
next_in (log ∷ logs) (suc m) = next_in logs m

none_behind : (logs : List (List (ℕ × ℕ))) → entries_in (drop (length logs) logs) ≡ 0
none_behind [] = refl
none_behind (log ∷ logs) = none_behind logs

next_at : (o : Option Collection) (m : ℕ) → option_map_or (λ c. entries_in (drop m c.logs)) o 0
    ≡ length (option_map_or (λ c. log_at c m) o []) + option_map_or (λ c. entries_in (drop (suc m) c.logs)) o 0
next_at None m = refl
next_at (Some c) m = next_in c.logs m

pub entries_next : (s : State) (m : ℕ) → entries_from s m ≡ length (log_of s m) + entries_from s (m + 1)
entries_next s m = let next : suc m ≡ m + 1 = omega arith in subst (λ (n : ℕ). entries_from s m ≡ length (log_of s m) + entries_from s n) next (next_at s.collection m)

pub entries_end : (s : State) → IfSome s.collection (IsOpened s) → entries_from s s.mutators ≡ 0
entries_end s k = grind (arith, common_steps, none_behind)
