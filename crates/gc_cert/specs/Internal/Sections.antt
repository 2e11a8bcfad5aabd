-- The sections of a pair text: what each spells, how it begins, and where it goes wrong.
use Rattle.std.specs.Prelude.{◌≡◌, ℕ, ◌+◌, ⊤, Bool, List, [], ◌∷◌, ◌++◌, length}
use Rattle.std.specs.List.{AllByRecursion}
use Rattle.gc_text.specs.Reading.{Place}
use Rattle.gc_text.specs.Lines.{newline, HasNo, text_of}
use Rattle.gc_cert.specs.declared.fault.PairFault.{PairFault}
use Rattle.gc_cert.specs.declared.fault.PairFault.TheVariants.{BadLine, EndsEarly, NoMemory}

-- these lines were taken
pub record HasTaken (lines : List (List ℕ)) (old new : Place) : Type 0 where
  pub parts : old.rest ≡ text_of lines ++ new.rest
  pub number : new.taken ≡ old.taken + length lines

-- the next line
pub record IsNextLine (line : List ℕ) (old new : Place) : Type 0 where
  pub parts : old.rest ≡ line ++ newline ∷ new.rest
  pub whole : HasNo newline line
  pub number : new.taken ≡ old.taken + 1

-- which lines are a whole section
abbrev pub Section : Type 1
Section = List (List ℕ) → Type 0

-- the lines of each value in range
abbrev pub Spelled : {V : Type 0} → (V → Type 0) → (V → List (List ℕ)) → Section
Spelled {V = V} InRange lines_of lines = (v : V) × InRange v × (lines ≡ lines_of v)

-- the one line of a value
abbrev pub alone : {V : Type 0} → (V → List ℕ) → V → List (List ℕ)
alone line_of v = line_of v ∷ []

-- this many values in range
abbrev pub AreAll : {V : Type 0} → (V → Type 0) → ℕ → List V → Type 0
AreAll InRange n vs = (length vs ≡ n) × AllByRecursion InRange vs

-- the value of a line that carries no information
abbrev pub Nothing : Unit {0} → Type 0
Nothing u = Unit {0}

-- the value of a first line, which is always in range
abbrev pub AnyFlag : Bool → Type 0
AnyFlag raws = Unit {0}

-- the first lines of a section
abbrev pub Begins : Section → List (List ℕ) → Type 0
Begins S lines = (more : List (List ℕ)) × S (lines ++ more)

-- the lines before line n begin a section and are not a whole one, and line n, with its line feed, cannot follow them
pub record IsWrongAt (S : Section) (p : Place) (n : ℕ) : Type 0 where
  pub before : List (List ℕ)
  pub line : List ℕ
  pub after : List ℕ
  pub parts : p.rest ≡ text_of before ++ (line ++ newline ∷ after)
  pub whole_line : HasNo newline line
  pub number : n ≡ p.taken + 1 + length before
  pub good : Begins S before
  pub not_all : ¬ S before
  pub wrong : ¬ Begins S (before ++ line ∷ [])

-- the lines that have their line feed begin a section and are not a whole one
pub record IsCutIn (S : Section) (p : Place) : Type 0 where
  pub before : List (List ℕ)
  pub unfinished : List ℕ
  pub parts : p.rest ≡ text_of before ++ unfinished
  pub no_line : HasNo newline unfinished
  pub good : Begins S before
  pub not_all : ¬ S before

-- the fault of a next line that is not allowed there
abbrev pub IsLineFault : PairFault → Place → Type 0
IsLineFault (BadLine n) p = (line : List ℕ) × (after : Place) × IsNextLine line p after × (n ≡ after.taken)
IsLineFault EndsEarly p = HasNo newline p.rest
IsLineFault fault p = ⊥

-- the faults that may replace a section
abbrev pub MayStop : Section → PairFault → Place → Type 0
MayStop S (BadLine n) p = IsWrongAt S p n
MayStop S EndsEarly p = IsCutIn S p
MayStop S NoMemory p = ⊤
MayStop S fault p = ⊥
