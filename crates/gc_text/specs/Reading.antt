-- A text that a reader gives piece by piece, and that is taken line by line.
use Rattle.std.specs.Prelude.{◌≡◌, ◌+◌, ◌<◌, ◌≤◌, ⊤, ℕ, Bool, true, List, ◌∷◌, ◌++◌, length, drop, Option, Some, MatchOption}
use Rattle.gc_text.specs.Lines.{newline}
use Rattle.gc_text.specs.declared.read_fault.ReadFault.{ReadFault}
use Rattle.gc_text.specs.declared.read_fault.ReadFault.TheVariants.{Read, TooLarge, NoMemory}

-- how far a text has been read: the bytes that wait to be taken, how many bytes were read, how many the text may have, whether
-- its end was reached, and how many lines were taken
pub record Progress : Type 0 where
  pub waiting : List ℕ
  pub read : ℕ
  pub limit : ℕ
  pub ended : Bool
  pub taken : ℕ

-- a place in a text: the text after the lines that were taken, and their number
pub record Place : Type 0 where
  pub rest : List ℕ
  pub taken : ℕ

abbrev pub start : List ℕ → Place
start text = record { rest = text; taken = 0 }

-- The reader, which has these bytes left, is reading this text and has reached this place in it.
pub record IsAt (text : List ℕ) (place : Place) (p : Progress) (left : Option (List ℕ)) : Type 0 where
  pub left_is : left ≡ Some (drop p.read text)
  pub read_is : p.read ≤ length text
  pub rest_is : place.rest ≡ p.waiting ++ drop p.read text
  pub taken_is : place.taken ≡ p.taken
  pub end_is : p.ended ≡ true → length text ≤ p.read

-- the whole text was read, and what is left of it at this place waits; it is within the limit
pub record IsAtLast (text : List ℕ) (place : Place) (p : Progress) : Type 0 where
  pub rest_is : place.rest ≡ p.waiting
  pub taken_is : place.taken ≡ p.taken
  pub short : length text ≤ p.limit

-- this line was taken
pub record HasTakenLine (line : List ℕ) (old new : Place) : Type 0 where
  pub parts : old.rest ≡ line ++ newline ∷ new.rest
  pub number : new.taken ≡ old.taken + 1

-- the first line of the text is not the line of any of these values
abbrev pub NoneIsFirst : {V : Type 0} → (V → Type 0) → (V → List ℕ) → List ℕ → Type 0
NoneIsFirst {V = V} Fits line_of text = (v : V) (rest : List ℕ) → Fits v → ¬ (text ≡ line_of v ++ newline ∷ rest)

-- From this place, the line of such a value was taken. Or the whole text was read, and no such line is next.
abbrev pub TakesLine : {V : Type 0} → (V → Type 0) → (V → List ℕ) → List ℕ → Place → Option V → Progress → Option (List ℕ) → Type 0
TakesLine Fits line_of text place found p left = MatchOption found
    (IsAtLast text place p × NoneIsFirst Fits line_of place.rest)
    (λ v. (next : Place) × IsAt text next p left × HasTakenLine (line_of v) place next)

-- the reader failed, there is no memory, or the text is longer than the limit; then one byte more than the limit was read
abbrev pub CannotRead : ReadFault → ℕ → List ℕ → Option (List ℕ) → Type 0
CannotRead Read limit text left = ⊤
CannotRead TooLarge limit text left = (limit < length text) × (left ≡ Some (drop (limit + 1) text))
CannotRead NoMemory limit text left = ⊤
