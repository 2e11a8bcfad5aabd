-- Tokens at the start of a text.
use Rattle.std.specs.Prelude.{◌≡◌, ℕ, List, [], ◌∷◌, ◌++◌, Option, Some}
use Rattle.gc_text.specs.Fronts.{EndsToken}
use Rattle.gc_text.specs.Lines.{space, newline}

-- tokens with one space between them, and then the rest of the text
abbrev pub spaced : List (List ℕ) → List ℕ → List ℕ
spaced [] rest = rest
spaced (token ∷ []) rest = token ++ rest
spaced (token ∷ next ∷ tokens) rest = token ++ space ∷ spaced (next ∷ tokens) rest

-- a space and a token of such a value are found at the front of the text, if they are there
abbrev pub FindsToken : {A : Type 0} → (A → Type 0) → (A → List ℕ) → List ℕ → Option A → List ℕ → Type 0
FindsToken {A} Fits word text found rest = (a : A) (more : List ℕ) → Fits a → EndsToken more → text ≡ space ∷ (word a ++ more) → (found ≡ Some a) × (rest ≡ more)

-- the tokens of such a value are found at the front of the text, if they are there before a line feed
abbrev pub FindsTokens : {A : Type 0} → (A → Type 0) → (A → List (List ℕ)) → List ℕ → Option A → List ℕ → Type 0
FindsTokens {A} Fits tokens text found rest = (a : A) (more : List ℕ) → Fits a → text ≡ spaced (tokens a) (newline ∷ more) → (found ≡ Some a) × (rest ≡ newline ∷ more)
