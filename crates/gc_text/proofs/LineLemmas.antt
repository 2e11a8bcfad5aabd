-- Lines that have no line feed inside, tokens that have no space, and cutting at a byte.
use Rattle.std.proofs.lemmas.Grind.{common_steps}
use Rattle.std.proofs.Common.{◌≡◌, ℕ, ◌^◌, ◌<◌, Bool, true, false, eqb, leb, not, ◌&&◌, List, [], ◌∷◌, ◌++◌, refl, ap, ◌∙◌, arith, inl, inr, ◌⊎◌}
use Rattle.std.specs.Fmt.{decimal}
use Rattle.std.specs.List.{AllByRecursion}
use Rattle.std.specs.Str.Parse.{AllDigits}
use Rattle.std.proofs.lemmas.Bool.{and_parts, eqb-true, eqb-false, leb-true, not-true}
use Rattle.std.proofs.lemmas.Str.Parse.{digit_from_value}
use Rattle.gc_text.specs.Lines.{HasNo, space, newline, joined}
use Rattle.gc_text.proofs.DecimalNumbers.{decimal_are_digits}
use Rattle.gc_text.proofs.TokenLemmas.{tokens_of, tokens_of-cut, tokens_of-whole}

-- a test for literal tokens: no byte is below the digits
abbrev all_high : List ℕ → Bool
all_high [] = true
all_high (b ∷ bs) = leb 48 b && all_high bs

pub HasNo-name : (c : ℕ) (name : List ℕ) → c < 48 → all_high name ≡ true → HasNo c name
HasNo-name c [] low e = tt
HasNo-name c (b ∷ name) low e = grind (arith, common_steps, and_parts, leb-true, HasNo-name c name)

HasNo-digits : (c : ℕ) (ds : List ℕ) → c < 48 → AllDigits 10 ds → HasNo c ds
HasNo-digits c [] low digits = tt
HasNo-digits c (d ∷ ds) low digits = (omega (arith, digit_from_value d digits.0), HasNo-digits c ds low digits.1)

pub HasNo-decimal : (c n : ℕ) → c < 48 → n < 2 ^ 64 → HasNo c (decimal n)
HasNo-decimal c n low small = HasNo-digits c (decimal n) low (decimal_are_digits n small)

abbrev pub AllHaveNo : ℕ → List (List ℕ) → Type 0
AllHaveNo c tokens = AllByRecursion (HasNo c) tokens

HasNo-append : (c : ℕ) (xs ys : List ℕ) → HasNo c xs → HasNo c ys → HasNo c (xs ++ ys)
HasNo-append c [] ys p q = q
HasNo-append c (x ∷ xs) ys p q = (p.0, HasNo-append c xs ys p.1 q)

pub HasNo-joined : (tokens : List (List ℕ)) → AllHaveNo newline tokens → HasNo newline (joined tokens)
HasNo-joined [] h = tt
HasNo-joined (w ∷ []) h = h.0
HasNo-joined (w ∷ v ∷ tokens) h = HasNo-append newline w (space ∷ joined (v ∷ tokens)) h.0 (omega arith, HasNo-joined (v ∷ tokens) h.1)

-- joined tokens are found again
pub tokens_of-joined : (w : List ℕ) (tokens : List (List ℕ)) → AllHaveNo space (w ∷ tokens) → tokens_of (joined (w ∷ tokens)) ≡ w ∷ tokens
tokens_of-joined w [] h = tokens_of-whole w h.0
tokens_of-joined w (v ∷ tokens) h = tokens_of-cut w (joined (v ∷ tokens)) h.0 ∙ ap (λ (ws : List (List ℕ)). w ∷ ws) (tokens_of-joined v tokens h.1)

-- ---- a test for literal texts

abbrev pub lacks : ℕ → List ℕ → Bool
lacks c [] = true
lacks c (b ∷ bs) = not (eqb b c) && lacks c bs

pub HasNo-lacks : (c : ℕ) (text : List ℕ) → lacks c text ≡ true → HasNo c text
HasNo-lacks c [] e = tt
HasNo-lacks c (b ∷ text) e = grind (arith, common_steps, and_parts, eqb-false, not-true, HasNo-lacks c text)

-- ---- cutting at a byte

pub not_cut : (c : ℕ) (text front rest : List ℕ) → HasNo c text → text ≡ front ++ c ∷ rest → ⊥
not_cut c [] [] rest h e = cc
not_cut c [] (x ∷ front) rest h e = cc
not_cut c (y ∷ text) [] rest h e = h.0 cc
not_cut c (y ∷ text) (x ∷ front) rest h e = not_cut c text front rest h.1 cc

pub one_cut : (c : ℕ) (a x b y : List ℕ) → HasNo c a → HasNo c b → a ++ c ∷ x ≡ b ++ c ∷ y → (a ≡ b) × (x ≡ y)
one_cut c [] x [] y p q e = (refl, cc)
one_cut c [] x (d ∷ b) y p q e = absurd (q.0 cc)
one_cut c (d ∷ a) x [] y p q e = absurd (p.0 cc)
one_cut c (d ∷ a) x (g ∷ b) y p q e = grind (arith, common_steps, one_cut c a x b y)

-- a line and what follows it
pub record Cut (text : List ℕ) : Type 0 where
  pub line : List ℕ
  pub rest : List ℕ
  pub parts : text ≡ line ++ newline ∷ rest
  pub whole : HasNo newline line

-- a text has no line feed, or it can be cut at the first one
pub cut : (text : List ℕ) → HasNo newline text ⊎ Cut text
cut [] = inl tt
cut (b ∷ text) = at (eqb b newline) refl (cut text)
  where
    at : (is : Bool) → eqb b newline ≡ is → HasNo newline text ⊎ Cut text → HasNo newline (b ∷ text) ⊎ Cut (b ∷ text)
    at true e more = inr (record { line = []; rest = text; parts = ap (λ (c : ℕ). c ∷ text) (eqb-true b newline e); whole = tt })
    at false e (inl h) = inl (eqb-false b newline e, h)
    at false e (inr c) = inr (record { line = b ∷ c.line; rest = c.rest; parts = ap (λ (t : List ℕ). b ∷ t) c.parts; whole = (eqb-false b newline e, c.whole) })
