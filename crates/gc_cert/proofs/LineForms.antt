-- Each line of a pair text has a form: the line names a value, and that of a value names this value.
use Rattle.std.proofs.lemmas.Grind.{common_steps}
use Rattle.std.proofs.Common.{◌≡◌, ℕ, ◌^◌, ◌<◌, ◌≤◌, Bool, true, false, leb, ltb, ◌&&◌, List, [], ◌∷◌, ◌++◌, length, drop, get_or, refl, ap, ◌∙◌, arith, IsTrue, ◌↔◌}
use Rattle.std.specs.Fmt.{decimal}
use Rattle.std.specs.Str.{bytes_eq}
use Rattle.std.specs.Str.Parse.{digits_value}
use Rattle.std.proofs.Math.Seq.{drop-append_seam}
use Rattle.std.proofs.lemmas.Bool.{and_parts, and_from, leb-true, le-leb, ltb-true, lt-ltb}
use Rattle.std.proofs.lemmas.Fmt.{digits_value-decimal}
use Rattle.gc_text.specs.Lines.{HasNo, space, joined}
use Rattle.gc_text.proofs.Public.{decimals, HasNo-decimal, tokens_of, tokens_of-joined}
use Rattle.gc_cert.specs.Grammar.{heading, pair_line, count_line, size_line, IsWord, AreAddresses, AreSizes}
use Rattle.gc_cert.specs.Internal.Sections.{Nothing, AnyFlag}
use Rattle.gc_cert.proofs.Forms.{IsForm, form_by}

-- ---- what a line names

named_number : List ℕ → ℕ
named_number token = digits_value 10 token

named_two : List ℕ → ℕ × ℕ
named_two line = (named_number (get_or (tokens_of line) 0 []), named_number (get_or (tokens_of line) 1 []))

-- what follows a name and a space
behind_name : List ℕ → List ℕ → List ℕ
behind_name name line = drop 1 (drop (length name) line)

number_again : (n : ℕ) → n < 2 ^ 64 → named_number (decimal n) ≡ n
unfolding named_number
number_again n small = digits_value-decimal decimals n small

no_space : (n : ℕ) → n < 2 ^ 64 → HasNo space (decimal n)
no_space n small = HasNo-decimal space n (omega arith) small

two_again : (m n : ℕ) → m < 2 ^ 64 → n < 2 ^ 64 → named_two (joined (decimal m ∷ decimal n ∷ [])) ≡ (m, n)
unfolding named_two
two_again m n p q = rw (tokens_of-joined (decimal m) (decimal n ∷ []) (no_space m p, (no_space n q, tt)), number_again m p, number_again n q) refl

behind_again : (name rest : List ℕ) → behind_name name (name ++ space ∷ rest) ≡ rest
unfolding behind_name
behind_again name rest = ap (drop 1) (drop-append_seam name (space ∷ rest))

-- ---- the forms

pub fixed_form : (wanted : List ℕ) → IsForm Nothing (λ _. wanted)
fixed_form wanted = form_by Nothing (λ _. wanted) (λ _. tt) (λ _. true) (λ _. grind (arith, common_steps)) (λ _ _. refl) tt tt

pub heading_form : IsForm AnyFlag heading
heading_form = form_by AnyFlag heading (λ line. bytes_eq line (heading true)) (λ _. true) (λ _. grind (arith, common_steps)) (λ raws _. elim raws as (λ (b : Bool). bytes_eq (heading b) (heading true) ≡ b) [ true ↦ refl | false ↦ refl ]) true tt

pub word_form : IsForm IsWord decimal
word_form = form_by IsWord decimal named_number (λ w. ltb w (2 ^ 64)) (λ w. (λ e. ltb-true w (2 ^ 64) e, λ p. lt-ltb w (2 ^ 64) p)) number_again 0 (omega arith)

pub count_form : (name : List ℕ) (most : ℕ) → most < 2 ^ 64 → IsForm (λ n. n ≤ most) (count_line name)
count_form name most small =
    form_by (λ n. n ≤ most) (count_line name) (λ line. named_number (behind_name name line)) (λ n. leb n most) (λ n. (λ e. leb-true n most e, λ p. le-leb n most p)) (λ n le. ap named_number (behind_again name (decimal n)) ∙ number_again n (omega (arith, le, small))) 0 (omega arith)

in_size : ℕ → Bool
in_size n = leb 1 n && leb n 1048576

are_sizes : (s : ℕ × ℕ) → IsTrue (in_size s.0 && in_size s.1) ↔ AreSizes s
unfolding in_size
are_sizes s = grind (arith, common_steps, and_parts, and_from, leb-true, le-leb)

pub size_form : (name : List ℕ) → IsForm AreSizes (λ s. size_line name s.0 s.1)
size_form name =
    form_by AreSizes (λ s. size_line name s.0 s.1) (λ line. named_two (behind_name name line)) (λ s. in_size s.0 && in_size s.1) are_sizes
    (λ s fits. ap named_two (behind_again name (joined (decimal s.0 ∷ decimal s.1 ∷ []))) ∙ two_again s.0 s.1 (omega (arith, fits)) (omega (arith, fits))) (1, 1) (omega arith, omega arith, omega arith, omega arith)

are_addresses : (p : ℕ × ℕ) → IsTrue (ltb p.0 (2 ^ 32) && ltb p.1 (2 ^ 32)) ↔ AreAddresses p
are_addresses p = grind (arith, common_steps, and_parts, and_from, ltb-true, lt-ltb)

pub pair_form : IsForm AreAddresses pair_line
pair_form = form_by AreAddresses pair_line named_two (λ p. ltb p.0 (2 ^ 32) && ltb p.1 (2 ^ 32)) are_addresses (λ p fits. two_again p.0 p.1 (omega (arith, fits.0)) (omega (arith, fits.1))) (0, 0) (omega arith, omega arith)
