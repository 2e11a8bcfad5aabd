-- Lines that are printed one after the other.
use Rattle.std.proofs.Common.{◌≡◌, ℕ, List, [], ◌∷◌, ◌++◌, sym, ◌∙◌, ap, append_assoc}
use Rattle.std.specs.List.{flat_map}
use Rattle.std.proofs.lemmas.List.{append-nil}
use Rattle.gc_text.specs.Lines.{line}

-- a text is followed by a line of these tokens, and `Rest` holds of the result
pub record Then (before : List ℕ) (tokens : List (List ℕ)) (Rest : List ℕ → Type 0) : Type 0 where
  pub next : List ℕ
  pub first : next ≡ before ++ line tokens
  pub rest : Rest next

infixr 5 ◌⨾◌
pub ◌⨾◌ : {before next : List ℕ} {tokens : List (List ℕ)} {Rest : List ℕ → Type 0} → next ≡ before ++ line tokens → Rest next → Then before tokens Rest
◌⨾◌ {next = next} first rest = record { next = next; first = first; rest = rest }

-- these lines follow a text, one by one
abbrev pub Grows : List ℕ → List (List (List ℕ)) → List ℕ → Type 0
Grows before [] after = after ≡ before
Grows before (tokens ∷ lines) after = Then before tokens (λ next. Grows next lines after)

pub grown : (before : List ℕ) (lines : List (List (List ℕ))) (after : List ℕ) → Grows before lines after → after ≡ before ++ flat_map line lines
grown before [] after e = e ∙ sym (append-nil before)
grown before (tokens ∷ lines) after h = grown h.next lines after h.rest ∙ ap (λ (t : List ℕ). t ++ flat_map line lines) h.first ∙ append_assoc before (line tokens) (flat_map line lines)
