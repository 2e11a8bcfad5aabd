-- How much of a pair text a reader has read.
use Rattle.std.proofs.lemmas.Grind.{common_steps}
use Rattle.std.proofs.Common.{◌≡◌, ℕ, ◌≤◌, List, ◌++◌, length, arith, Option}
use Rattle.gc_text.specs.Reading as reading
use Rattle.gc_text.specs.Reading.{Progress, Place, start, IsAt, IsAtLast, NoneIsFirst}
use Rattle.gc_text.specs.declared.read_fault.ReadFault.{ReadFault}
use Rattle.gc_text.specs.declared.read_fault.ReadFault.TheVariants as reads
use Rattle.gc_cert.specs.Faults.{limit}
use Rattle.gc_cert.specs.Internal.Faults.{fault_of_reading}
use Rattle.gc_cert.specs.Internal.Reading.{CannotGoOn, GoesOn, MayEnd, MayFailHaving}
use Rattle.gc_cert.specs.Grammar.{CertifiedPair, HasText, lines_of}
use Rattle.gc_cert.specs.Internal.Sections.{Section, HasTaken, alone, Spelled, IsLineFault, MayStop}
use Rattle.gc_cert.specs.declared.fault.PairFault.{PairFault}
use Rattle.gc_cert.proofs.Forms.{line_stops}
use Rattle.gc_cert.proofs.Parts.{TextSection}
use Rattle.gc_cert.proofs.Stops.{Delimits, BeginsWith, taken_then, wrong_within, cut_within}
use Rattle.gc_cert.proofs.Total.{stopped, went_on}

-- ---- faults of reading

pub cannot_read : (fault : ReadFault) (most : ℕ) (text : List ℕ) (left : Option (List ℕ)) → most ≡ limit → reading.CannotRead fault most text left → CannotGoOn (fault_of_reading fault) text left
cannot_read reads.Read most text left is h = tt
cannot_read reads.TooLarge most text left is h = rw is at h
cannot_read reads.NoMemory most text left is h = tt

-- a fault of the reader stops every section
pub cannot_end : (S : Section) (fault : PairFault) (text : List ℕ) (p : Place) (left : Option (List ℕ)) → CannotGoOn fault text left → MayEnd S fault text p left
cannot_end S fault text p left h = grind (arith, common_steps)

-- the end of the text stops a section
stop_ends : (S : Section) (fault : PairFault) (text : List ℕ) (p : Place) (left : Option (List ℕ)) → MayStop S fault p → length text ≤ limit → MayEnd S fault text p left
stop_ends S fault text p left h short = grind (arith, common_steps)

pub cannot_go_on : (fault : PairFault) (text : List ℕ) (p : Place) (left : Option (List ℕ)) → CannotGoOn fault text left → GoesOn fault text p left
cannot_go_on fault text p left h = grind (arith, common_steps)

-- the text ends, and the next line has another form
pub line_ends : {V : Type 0} (InRange : V → Type 0) (line_of : V → List ℕ) (text : List ℕ) (p : Place) (r : Progress) (fault : PairFault) (left : Option (List ℕ)) → (v : V) × InRange v → r.limit ≡ limit → IsAtLast text p r → NoneIsFirst InRange line_of p.rest
    → IsLineFault fault (record { rest = r.waiting; taken = r.taken }) → MayEnd (Spelled InRange (alone line_of)) fault text p left
line_ends InRange line_of text p r fault left some is last none wrong =
    stop_ends (Spelled InRange (alone line_of)) fault text p left (line_stops InRange line_of p fault some none (rw (last.rest_is, last.taken_is) wrong)) (omega (arith, last.short, is))

-- lines that were taken after others
pub taken_on : {done more : List (List ℕ)} {old mid new : Progress} {left rest end : Option (List ℕ)} → ((text : List ℕ) (p : Place) → IsAt text p old left → (at : Place) × IsAt text at mid rest × HasTaken done p at)
    → ((text : List ℕ) (p : Place) → IsAt text p mid rest → (at : Place) × IsAt text at new end × HasTaken more p at) → (text : List ℕ) (p : Place) → IsAt text p old left → (at : Place) × IsAt text at new end × HasTaken (done ++ more) p at
taken_on {done} {more} one two text p h = (let mid = one text p h in let at = two text mid.0 mid.1 in (at.0, at.1, taken_then done more p mid.0 at.0 mid.2 at.2))

-- ---- sections within sections

pub end_within : {V : Type 0} (InRange : V → Type 0) (lines_of : V → List (List ℕ)) (S : Section) (done : List (List ℕ)) (text : List ℕ) (old mid : Place) (fault : PairFault) (left : Option (List ℕ)) → Delimits InRange lines_of → BeginsWith InRange lines_of (λ lines. S (done ++ lines)) → HasTaken done old mid
    → MayEnd (Spelled InRange lines_of) fault text mid left → MayEnd S fault text old left
end_within InRange lines_of S done text old mid fault left one with taken w = grind (arith, common_steps, wrong_within, cut_within)

-- the first fault of a text that ended
pub ended_text : (text : List ℕ) (fault : PairFault) (left : Option (List ℕ)) → MayEnd TextSection fault text (start text) left → MayFailHaving fault text left
ended_text text fault left w = grind (arith, common_steps, stopped)

-- a text whose reader fails
pub unread_text : (text : List ℕ) (fault : PairFault) (left : Option (List ℕ)) → CannotGoOn fault text left → MayFailHaving fault text left
unread_text text fault left w = grind (arith, common_steps)

-- a text that continues after the last line
pub text_goes_on : (f : CertifiedPair) (text : List ℕ) (after : Place) (fault : PairFault) (left : Option (List ℕ)) → HasText f × HasTaken (lines_of f) (start text) after → GoesOn fault text after left → MayFailHaving fault text left
text_goes_on f text after fault left taken w = grind (arith, common_steps, went_on)
