-- A pair text that is read piece by piece.
use Rattle.std.specs.Prelude.{◌≡◌, ◌≢◌, ℕ, [], ◌+◌, ◌<◌, ◌≤◌, ⊤, List, length, drop, Option, Some, Result, MatchResult}
use Rattle.gc_text.specs.Reading.{Progress, Place, IsAt}
use Rattle.gc_cert.specs.Faults.{limit, MayFail}
use Rattle.gc_cert.specs.Internal.Sections.{Section, HasTaken, MayStop}
use Rattle.gc_cert.specs.declared.fault.PairFault.{PairFault}
use Rattle.gc_cert.specs.declared.fault.PairFault.TheVariants.{Read, TooLarge, BadLine, EndsEarly, NoMemory}

-- the reader failed, there is no memory, or the text is too large; then one byte more than the limit was read
abbrev pub CannotGoOn : PairFault → List ℕ → Option (List ℕ) → Type 0
CannotGoOn Read text left = ⊤
CannotGoOn TooLarge text left = (limit < length text) × (left ≡ Some (drop (limit + 1) text))
CannotGoOn NoMemory text left = ⊤
CannotGoOn fault text left = ⊥

-- the reader cannot continue, or the text continues after this place
abbrev pub GoesOn : PairFault → List ℕ → Place → Option (List ℕ) → Type 0
GoesOn (BadLine n) text p left = (p.rest ≢ []) × (n ≡ p.taken + 1) × (length text ≤ limit)
GoesOn fault text p left = CannotGoOn fault text left

-- the faults that may replace a section at this place; a fault of the text is known only once the whole text was read
abbrev pub MayEnd : Section → PairFault → List ℕ → Place → Option (List ℕ) → Type 0
MayEnd S (BadLine n) text p left = MayStop S (BadLine n) p × (length text ≤ limit)
MayEnd S EndsEarly text p left = MayStop S EndsEarly p × (length text ≤ limit)
MayEnd S fault text p left = CannotGoOn fault text left

-- from each place in a text, a value's lines were taken, or the text has no such section there
abbrev pub Takes : {V : Type 0} → (V → List (List ℕ)) → Section → Result V PairFault → Progress → Option (List ℕ) → Progress → Option (List ℕ) → Type 0
Takes lines_of S result old old_left new new_left = (text : List ℕ) (p : Place) → IsAt text p old old_left → MatchResult result
    (λ value. (q : Place) × IsAt text q new new_left × HasTaken (lines_of value) p q)
    (λ fault. MayEnd S fault text p new_left)

-- the faults that may replace a pair of a text; if the text is too large, one byte more than the limit was read
abbrev pub MayFailHaving : PairFault → List ℕ → Option (List ℕ) → Type 0
MayFailHaving fault text left = MayFail fault text × (fault ≡ TooLarge → left ≡ Some (drop (limit + 1) text))
