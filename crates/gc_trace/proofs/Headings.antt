-- The numbers of a heading at the start of a text.
use Rattle.std.proofs.Common.{◌≡◌, ℕ, ◌<◌, ◌^◌, List, [], ◌∷◌, ◌++◌, drop, sym, ap, ◌∙◌, subst, arith, append_assoc}
use Rattle.std.specs.Prelude.{codes}
use Rattle.std.specs.Fmt.{decimal}
use Rattle.gc_text.specs.Lines.{space, newline, line, joined}
use Rattle.gc_text.specs.Fronts.{BeginsWithNumber}
use Rattle.gc_text.proofs.Public.{begins, one_front}
use Rattle.gc_trace.specs.Grammar.{trace_heading, IsHeading}

-- the tokens of the two lines
abbrev version_tokens : ℕ → List (List ℕ)
version_tokens version = codes "heaptrace" ∷ decimal version ∷ []

abbrev size_tokens : ℕ → ℕ → List (List ℕ)
size_tokens size mutators = codes "space" ∷ decimal size ∷ codes "mutators" ∷ decimal mutators ∷ []

-- a heading's bytes in order
pub heading_spelled : (version size mutators : ℕ) (more : List ℕ) → trace_heading version size mutators ++ more
    ≡ codes "heaptrace" ++ space ∷ (decimal version ++ newline ∷ (codes "space" ++ space ∷ (decimal size ++ space ∷ (codes "mutators" ++ space ∷ (decimal mutators ++ newline ∷ more)))))
unfolding trace_heading
heading_spelled version size mutators more =
    append_assoc (line (version_tokens version)) (line (size_tokens size mutators)) more
    ∙ append_assoc (joined (version_tokens version)) (newline ∷ []) (line (size_tokens size mutators) ++ more)
    ∙ ap (λ (t : List ℕ). joined (version_tokens version) ++ newline ∷ t) (append_assoc (joined (size_tokens size mutators)) (newline ∷ []) more)
    ∙ ap (λ (t : List ℕ). joined (version_tokens version) ++ newline ∷ (codes "space" ++ space ∷ t)) (append_assoc (decimal size) (space ∷ (codes "mutators" ++ space ∷ decimal mutators)) (newline ∷ more))

-- numbers with other bytes behind them
same_number : (a b c d : ℕ) (x y : List ℕ) → a < 2 ^ 64 → b < 2 ^ 64 → c < 48 → d < 48 → decimal a ++ c ∷ x ≡ decimal b ++ d ∷ y → (a ≡ b) × (c ∷ x ≡ d ∷ y)
same_number a b c d x y small small' low low' same =
    one_front (decimal a ++ c ∷ x) a b (c ∷ x) (d ∷ y) (begins a (c ∷ x) small low) (subst (λ (t : List ℕ). BeginsWithNumber t b (d ∷ y)) (sym same) (begins b (d ∷ y) small' low'))

-- the numbers fit the program's types
abbrev pub AreSmall : ℕ → ℕ → ℕ → Type 0
AreSmall version size mutators = (version < 2 ^ 64) × (size < 2 ^ 64) × (mutators < 2 ^ 64)

pub small_heading : (version size mutators : ℕ) → IsHeading version size mutators → AreSmall version size mutators
small_heading version size mutators fits = (omega (arith, fits.1), omega (arith, fits.3), omega (arith, fits.5))

-- the same version and sizes
pub record SameHeading (v s m w t n : ℕ) : Type 0 where
  pub version : v ≡ w
  pub size : s ≡ t
  pub mutators : m ≡ n

pub heading_injective : (v s m w t n : ℕ) (x y : List ℕ) → AreSmall v s m → AreSmall w t n → trace_heading v s m ++ x ≡ trace_heading w t n ++ y → SameHeading v s m w t n × (x ≡ y)
heading_injective v s m w t n x y p q same =
    let all = sym (heading_spelled v s m x) ∙ same ∙ heading_spelled w t n y in
    let version = same_number v w newline newline _ _ p.0 q.0 (omega arith) (omega arith) (ap (λ (text : List ℕ). drop 10 text) all) in
    let size = same_number s t space space _ _ p.1 q.1 (omega arith) (omega arith) (ap (λ (text : List ℕ). drop 7 text) version.1) in
    let mutators = same_number m n newline newline _ _ p.2 q.2 (omega arith) (omega arith) (ap (λ (text : List ℕ). drop 10 text) size.1) in
    (record { version = version.0; size = size.0; mutators = mutators.0 }, ap (λ (text : List ℕ). drop 1 text) mutators.1)
