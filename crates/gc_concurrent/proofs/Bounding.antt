-- A log grows by no more than is written, and each entry takes two steps.
use Rattle.std.proofs.Common.{◌≡◌, ℕ, ◌+◌, ◌-◌, ◌*◌, ◌≤◌, Bool, true, false, List, [], ◌∷◌, length, inl, inr, ap, ◌∙◌, arith}
use Rattle.std.specs.Prelude.{if◌then◌else◌}
use Rattle.gc_model.specs.State.{new_end}
use Rattle.gc_model.specs.Steps.{is_empty}
use Rattle.gc_concurrent.specs.Ends.{Theirs, its}
use Rattle.gc_concurrent.specs.Logging.{Doing, Writes, Safepoint, RunsTo, fields_written}
use Rattle.gc_concurrent.specs.Moves.{Situation, StaysOrFlips}
use Rattle.gc_concurrent.specs.Nearing.{steps_ahead, work_ahead}
use Rattle.gc_concurrent.specs.Works.{TakesLog}

-- a safepoint adds nothing
adds_nothing : (old new : Situation) → StaysOrFlips old new → new.logged ≤ old.logged
adds_nothing old new (inl (inl same)) = let e = ap (λ (s : Situation). s.logged) same in omega (arith, e)
adds_nothing old new (inl (inr taken)) = let e = ap (λ (s : Situation). s.logged) taken in omega (arith, e)
adds_nothing old new (inr flip) = let e = flip.taken in omega (arith, e)

pub grows : (doings : List Doing) (old new : Situation) → RunsTo doings old new → new.logged ≤ old.logged + fields_written doings
grows [] old new same = let e = ap (λ (s : Situation). s.logged) same in omega (arith, e)
grows (Writes n ∷ rest) old new p = let first = p.1 in let more = grows rest p.0 new p.2 in omega (arith, first, more)
grows (Safepoint ∷ rest) old new p = let first = adds_nothing old p.0 p.1 in let more = grows rest p.0 new p.2 in omega (arith, first, more)

pub taken_steps : (end : ℕ) (old new : Theirs) → TakesLog old new → steps_ahead end new ≡ steps_ahead end old + 2 * length new.due
taken_steps end old new t = ap (steps_ahead end) t.rest ∙ more old.due t.applied (if is_empty old.wanted then 1 else 0)
  where
    more : (due : List (ℕ × ℕ)) → due ≡ [] → (one : ℕ) → 2 * (2 * (end - new_end (its old)) + (new_end (its old) - old.scan_place - old.scan_field) + length new.due) + one
        ≡ 2 * (2 * (end - new_end (its old)) + (new_end (its old) - old.scan_place - old.scan_field) + length due) + one + 2 * length new.due
    more due none one = let e = ap (length {A = ℕ × ℕ}) none in omega (arith, e)

pub steps_below : (end : ℕ) (t : Theirs) → new_end (its t) ≤ end → steps_ahead end t ≤ 4 * end + 2 * length t.due + 1
steps_below end t low = most (is_empty t.wanted)
  where
    most : (none : Bool) → 2 * work_ahead end t + (if none then 1 else 0) ≤ 4 * end + 2 * length t.due + 1
    most true = omega (arith, low)
    most false = omega (arith, low)
