-- The first fault of a text that was read to its end.
use Rattle.std.specs.Prelude.{◌≡◌, ◌≢◌, ℕ, ◌+◌, ◌<◌, ◌≤◌, ⊤, ◌⊎◌, List, [], ◌∷◌, ◌++◌, length}
use Rattle.gc_text.specs.Lines.{newline, HasNo, text_of}
use Rattle.gc_cert.specs.Grammar.{CertifiedPair, HasText, IsTextOf, lines_of}
use Rattle.gc_cert.specs.declared.fault.PairFault.{PairFault}
use Rattle.gc_cert.specs.declared.fault.PairFault.TheVariants.{Read, TooLarge, BadLine, EndsEarly, NoMemory}

abbrev pub limit : ℕ
limit = 67108864

-- the first lines of some text
abbrev pub AreFirst : List (List ℕ) → Type 0
AreFirst lines = (f : CertifiedPair) × (rest : List (List ℕ)) × HasText f × (lines_of f ≡ lines ++ rest)

-- all lines of some text
abbrev pub AreWhole : List (List ℕ) → Type 0
AreWhole lines = (f : CertifiedPair) × HasText f × (lines_of f ≡ lines)

-- the lines before line n are the first lines of some text, and `rest` is the text from line n on
pub record IsGoodUpTo (text : List ℕ) (n : ℕ) : Type 0 where
  pub before : List (List ℕ)
  pub rest : List ℕ
  pub parts : text ≡ text_of before ++ rest
  pub number : n ≡ 1 + length before
  pub good : AreFirst before

-- line n, with its line feed, cannot follow the lines before it
abbrev pub HasWrongLine : List ℕ → ℕ → Type 0
HasWrongLine text n = (g : IsGoodUpTo text n) × (line : List ℕ) × (more : List ℕ) × (g.rest ≡ line ++ newline ∷ more) × HasNo newline line × ¬ AreFirst (g.before ++ line ∷ [])

-- the lines before line n are a whole text, and more bytes follow
abbrev pub HasByteBehind : List ℕ → ℕ → Type 0
HasByteBehind text n = (g : IsGoodUpTo text n) × AreWhole g.before × (g.rest ≢ [])

-- the lines that have their line feed are the first lines of some text, but not all lines of one
abbrev pub IsCutOff : List ℕ → Type 0
IsCutOff text = (n : ℕ) × (g : IsGoodUpTo text n) × HasNo newline g.rest × ¬ AreWhole g.before

-- this is the text's first fault; `Read` and `NoMemory` are not faults of a text
abbrev pub IsPairFaultOf : PairFault → List ℕ → Type 0
IsPairFaultOf TooLarge text = limit < length text
IsPairFaultOf (BadLine n) text = (length text ≤ limit) × (HasWrongLine text n ⊎ HasByteBehind text n)
IsPairFaultOf EndsEarly text = (length text ≤ limit) × IsCutOff text
IsPairFaultOf fault text = ⊥

-- the value that the text is read as
abbrev pub IsReadAsPair : CertifiedPair → List ℕ → Type 0
IsReadAsPair f text = IsTextOf f text × (length text ≤ limit)

-- the faults that may replace a value: the text's first fault, or one of the reader or of memory
abbrev pub MayFail : PairFault → List ℕ → Type 0
MayFail Read text = ⊤
MayFail NoMemory text = ⊤
MayFail fault text = IsPairFaultOf fault text
