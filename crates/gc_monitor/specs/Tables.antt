-- The tables of a standing checker, and the watch that they hold.
use Rattle.std.specs.Prelude.{◌≡◌, ◌≤◌, ℕ, Bool, ◌==◌, List, length, count_by, map, slice_index_or}
use Rattle.gc_graph.specs.Limits.{largest_space}
use Rattle.gc_monitor.specs.Watch.{Watch}
use Rattle.gc_monitor.specs.Origins.{pairs_in}

-- By old place, as far as the walk has come: 0, 1 for a start, 2 for one whose replica was seen. By new place: 0, 1 for a
-- start, 3 for a field that is due; and the original of the replica that starts there, or 0. The rows take `room` places.
pub record Tables : Type 0 where
  pub olds : List ℕ
  pub news : List ℕ
  pub origins : List ℕ
  pub missing : ℕ
  pub room : ℕ
  pub lost : Bool

-- the marks of a row of new places
abbrev pub due_in : List ℕ → List Bool
due_in codes = map (λ code. code == 3) codes

-- how many are due
abbrev pub missing_in : List ℕ → ℕ
missing_in codes = count_by (λ due. due) (due_in codes)

-- The rows agree: the count is right, there is an original or 0 for each new place, and no original has two replicas, since
-- its mark tells that one was seen.
pub record RowsAgree (t : Tables) : Type 0 where
  pub counted : t.missing ≡ missing_in t.news
  pub few : length t.news ≤ largest_space
  pub rows : length t.origins ≡ length t.news
  pub taken : (b : ℕ) → 1 ≤ slice_index_or t.origins b 0 → slice_index_or t.olds (slice_index_or t.origins b 0) 0 ≡ 2

abbrev pub watch_of : Tables → Watch
watch_of t = record { pairs = pairs_in t.origins; old_seen = length t.olds; new_seen = length t.news; due = due_in t.news }
