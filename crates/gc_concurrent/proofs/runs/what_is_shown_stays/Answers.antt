-- Graphs that correspond are matched, matching is transitive, and a heap's references all refer to objects. `Full` changes nothing.
use Rattle.gc_concurrent.proofs.Running.{shows_follow, shows_full}
use Rattle.gc_concurrent.proofs.runs.what_is_shown_stays.Goals as goal

pub returns : goal.returns
returns c = record { safepoint = shows_follow; full = shows_full }
