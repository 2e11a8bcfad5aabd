-- Watches as walks and comparisons change them, and the count of what is due.
use Rattle.std.specs.Prelude.{◌≡◌, ℕ, ◌+◌, Bool, false, true, not, if◌then◌else◌, List, ◌∷◌, [], ◌++◌, length, replicate, slice_index_or, slice_set, IsTrue}
use Rattle.std.specs.List.{All, count_by}
use Rattle.gc_words.specs.Word.{field_words_correspond}
use Rattle.gc_words.specs.Layout.{field_place}
use Rattle.gc_words.specs.declared.header.Header.{Header}
use Rattle.gc_monitor.specs.Watch.{Watch, is_due}

abbrev pub bit : Bool → ℕ
bit due = if due then 1 else 0

-- how many places are due
abbrev pub due_count : Watch → ℕ
due_count w = count_by (λ due. due) w.due

-- with a place that is due or not
abbrev pub mark : Watch → ℕ → Bool → Watch
mark w place due = record w { due = slice_set w.due place due }

-- both walks are at the end, and nothing is due
pub record HasSeenAll (old new : List ℕ) (w : Watch) : Type 0 where
  pub old_seen : w.old_seen ≡ length old
  pub new_seen : w.new_seen ≡ length new
  pub none_due : due_count w ≡ 0

-- pair k
abbrev pub pair_at : Watch → ℕ → ℕ × ℕ
pair_at w k = slice_index_or w.pairs k (0, 0)

-- field i of old object a is due in its replica, if it has one
abbrev pub OldIsDue : Watch → ℕ → ℕ → Type 0
OldIsDue w a i = All (λ p. p.0 ≡ a → IsTrue (is_due w p.1 i)) w.pairs

-- field i of pair k compared: it is due where the words do not correspond
abbrev pub looked : Watch → Header → ℕ → ℕ → ℕ → ℕ → Watch
looked w h b i v u = mark w (field_place b i) (not (field_words_correspond h w.pairs v u))

-- the walks gone on by one object
abbrev pub old_walked : Watch → Header → Watch
old_walked w h = record w { old_seen = w.old_seen + (h.len + 2) }

abbrev pub new_walked : Watch → Header → Watch
new_walked w h = record w { new_seen = w.new_seen + (h.len + 2); due = w.due ++ replicate (h.len + 2) false }

-- the next new object seen as the replica of a, and its fields due
abbrev pub placed : Watch → ℕ → Header → Watch
placed w a h = record {
  pairs = w.pairs ++ (a, w.new_seen) ∷ [];
  old_seen = w.old_seen;
  new_seen = w.new_seen + (h.len + 2);
  due = w.due ++ false ∷ false ∷ replicate h.len true;
}

-- of an empty new space, where the old one is seen up to a place
abbrev pub opening_watch : ℕ → Watch
opening_watch n = record { pairs = []; old_seen = n; new_seen = 1; due = false ∷ [] }
