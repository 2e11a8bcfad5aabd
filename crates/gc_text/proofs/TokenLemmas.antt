-- A line is cut into tokens at each space.
use Rattle.std.proofs.lemmas.Grind.{common_steps}
use Rattle.std.proofs.Common.{◌≡◌, ℕ, List, [], ◌∷◌, ◌++◌, refl, arith}
use Rattle.std.specs.Prelude.{◌==◌}
use Rattle.std.specs.List.{slice_split}
use Rattle.std.proofs.lemmas.Bool.{ne_eqb}
use Rattle.gc_text.specs.Lines.{HasNo, space}

-- the pieces of a line, split at each space
abbrev pub tokens_of : List ℕ → List (List ℕ)
tokens_of line = slice_split (λ b. b == space) line

-- the first token ends at the first space
pub tokens_of-cut : (front rest : List ℕ) → HasNo space front → tokens_of (front ++ space ∷ rest) ≡ front ∷ tokens_of rest
tokens_of-cut [] rest none = refl
tokens_of-cut (x ∷ front) rest none = grind (arith, common_steps, ne_eqb, tokens_of-cut front rest none.1)

-- a line without a space is one token
pub tokens_of-whole : (text : List ℕ) → HasNo space text → tokens_of text ≡ text ∷ []
tokens_of-whole [] none = refl
tokens_of-whole (x ∷ text) none = grind (arith, common_steps, ne_eqb, tokens_of-whole text none.1)
