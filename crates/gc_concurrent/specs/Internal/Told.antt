-- What the standing checker has seen of the mutator's space: words from which the present ones come by writes that it is yet to be told of, and by
-- objects made behind them.
use Rattle.std.specs.Prelude.{◌≡◌, ℕ, List, [], ◌∷◌, ◌++◌, true, IsSome}
use Rattle.gc_words.specs.Image.{field_at}
use Rattle.gc_words.specs.Space.{SpaceWords, IsSpace, CanPlace, with_object, with_field_at}
use Rattle.gc_words.specs.declared.header.Header.{Header}
use Rattle.gc_concurrent.specs.Ends.{Mine}

-- what a mutator does to its space
pub data Event : Type 0 where
  Put : (a i word : ℕ) → Event
  Make : (header : Header) → Event

abbrev pub happened : SpaceWords → Event → SpaceWords
happened space (Put a i word) = with_field_at space a i word
happened space (Make header) = with_object space header

abbrev pub CanHappen : SpaceWords → Event → Type 0
CanHappen space (Put a i word) = IsSome (field_at space.words a i)
CanHappen space (Make header) = CanPlace space header

-- the space after these events, of which the newest comes first
abbrev pub after_all : SpaceWords → List Event → SpaceWords
after_all space [] = space
after_all space (e ∷ older) = happened (after_all space older) e

-- each of them could happen in the space as it was then
abbrev pub CouldHappen : SpaceWords → List Event → Type 0
CouldHappen space [] = IsSpace space
CouldHappen space (e ∷ older) = CanHappen (after_all space older) e × CouldHappen space older

-- the fields that they write, the oldest first
abbrev pub written_by : List Event → List (ℕ × ℕ)
written_by [] = []
written_by (Put a i word ∷ older) = written_by older ++ (a, i) ∷ []
written_by (Make header ∷ older) = written_by older

-- the words that were seen, as a space
abbrev pub seen_space : List ℕ → Mine → SpaceWords
seen_space seen m = record m.space { words = seen }

-- The present words come from those that were seen. Once writes are logged, the log has the fields that were written since.
pub record ComesFromSeen (seen : List ℕ) (m : Mine) : Type 0 where
  pub events : List Event
  pub could : CouldHappen (seen_space seen m) events
  pub now : m.space ≡ after_all (seen_space seen m) events
  pub logged : m.logs ≡ true → written_by events ≡ m.log
