-- What a collection has left to do until its flip while the mutator waits, as a number of steps.
use Rattle.std.specs.Prelude.{ℕ, ◌+◌, ◌-◌, ◌*◌, ◌<◌, length, if◌then◌else◌}
use Rattle.gc_model.specs.State.{new_end}
use Rattle.gc_model.specs.Steps.{is_empty}
use Rattle.gc_concurrent.specs.Ends.{Theirs, its}

-- Words of objects without a replica count twice, words of replicas from the scan pointer on once, and so do entries. The first argument is the
-- end of the mutator's space.
abbrev pub work_ahead : ℕ → Theirs → ℕ
work_ahead end t = 2 * (end - new_end (its t)) + (new_end (its t) - t.scan_place - t.scan_field) + length t.due

-- Each of these takes two steps at most: one that wants a replica, and one that places it or goes on.
abbrev pub steps_ahead : ℕ → Theirs → ℕ
steps_ahead end t = 2 * work_ahead end t + (if is_empty t.wanted then 1 else 0)

-- fewer steps are ahead
abbrev pub ComesNearer : ℕ → Theirs → Theirs → Type 0
ComesNearer end old new = steps_ahead end new < steps_ahead end old

-- The same beside a mutator, whose space has an end that the collector does not know: the size of the new space is in its place.
abbrev pub GetsOn : Theirs → Theirs → Type 0
GetsOn old new = ComesNearer old.size old new
