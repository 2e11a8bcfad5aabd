-- Lines of pair texts: none contains a line feed, and of two texts neither is a prefix of the other.
use Rattle.std.proofs.lemmas.Grind.{common_steps}
use Rattle.std.proofs.Common.{◌≡◌, ℕ, ◌≤◌, Bool, List, [], ◌∷◌, ◌++◌, length, map, refl, sym, ap, ◌∙◌, arith, append_assoc}
use Rattle.std.specs.Prelude.{codes}
use Rattle.std.specs.Fmt.{decimal}
use Rattle.std.specs.List.{AllByRecursion}
use Rattle.std.proofs.lemmas.List.{append_cancel_left}
use Rattle.std.proofs.lemmas.Fmt.{decimal_injective}
use Rattle.gc_text.specs.Lines.{HasNo, space, newline}
use Rattle.gc_words.specs.Image.{Image}
use Rattle.gc_cert.specs.Grammar.{CertifiedPair, heading, pair_line, count_line, image_lines, certificate_lines, lines_of, IsWord, AreAddresses, HasImageText, HasText}
use Rattle.gc_text.proofs.Public.{HasNo-decimal, HasNo-lacks, HasNo-joined, one_cut}

abbrev pub AreLines : List (List ℕ) → Type 0
AreLines lines = AllByRecursion (HasNo newline) lines

pub All-append : {X : Type 0} (P : X → Type 0) (xs ys : List X) → AllByRecursion P xs → AllByRecursion P ys → AllByRecursion P (xs ++ ys)
All-append P [] ys p q = q
All-append P (x ∷ xs) ys p q = (p.0, All-append P xs ys p.1 q)

pub All-front : (xs ys : List (List ℕ)) → AreLines (xs ++ ys) → AreLines xs
All-front [] ys p = tt
All-front (x ∷ xs) ys p = (p.0, All-front xs ys p.1)

All-map : {X : Type 0} (P : X → Type 0) (f : X → List ℕ) → ((x : X) → P x → HasNo newline (f x)) → (xs : List X) → AllByRecursion P xs → AreLines (map f xs)
All-map P f each [] h = tt
All-map P f each (x ∷ xs) h = (each x h.0, All-map P f each xs h.1)

decimal_line : (n : ℕ) → IsWord n → HasNo newline (decimal n)
decimal_line n small = HasNo-decimal newline n (omega arith) small

certificate_are_lines : (pairs : List (ℕ × ℕ)) → length pairs ≤ 524287 → AllByRecursion AreAddresses pairs → AreLines (certificate_lines pairs)
certificate_are_lines pairs le h = grind (arith, common_steps, decimal_line, All-append, All-map, HasNo-joined)

heading_line : (raws : Bool) → HasNo newline (heading raws)
heading_line raws = grind (arith, common_steps)

pub are_lines : (f : CertifiedPair) → HasText f → AreLines (lines_of f)
unfolding lines_of
are_lines f fits = grind (arith, common_steps, heading_line, certificate_are_lines, HasNo-lacks, decimal_line, All-append, All-map, HasNo-joined)

-- ---- what follows from equal lines

pub head_of : (x y : List ℕ) (xs ys : List (List ℕ)) → x ∷ xs ≡ y ∷ ys → (x ≡ y) × (xs ≡ ys)
head_of x y xs ys e = (cc, cc)

pub count_same : (name : List ℕ) (m n : ℕ) → IsWord m → IsWord n → count_line name m ≡ count_line name n → m ≡ n
count_same name m n p q e = grind (arith, common_steps, decimal_injective, append_cancel_left)

pub two_same : (a b c d : ℕ) → IsWord a → IsWord b → IsWord c → IsWord d → decimal a ++ space ∷ decimal b ≡ decimal c ++ space ∷ decimal d → (a ≡ c) × (b ≡ d)
two_same a b c d pa pb pc pd e =
    let cut = one_cut space (decimal a) (decimal b) (decimal c) (decimal d) (HasNo-decimal space a (omega arith) pa) (HasNo-decimal space c (omega arith) pc) e in
    (decimal_injective a c pa pc cut.0, decimal_injective b d pb pd cut.1)

-- equally many lines of one form, and then others
pub same_lines : {X : Type 0} (P : X → Type 0) (f : X → List ℕ) → ((x y : X) → P x → P y → f x ≡ f y → x ≡ y)
    → (xs ys : List X) (a b : List (List ℕ)) → AllByRecursion P xs → AllByRecursion P ys → length xs ≡ length ys → map f xs ++ a ≡ map f ys ++ b → (xs ≡ ys) × (a ≡ b)
same_lines P f one [] [] a b p q len e = (refl, e)
same_lines P f one [] (y ∷ ys) a b p q len e = absurd (omega (arith, len))
same_lines P f one (x ∷ xs) [] a b p q len e = absurd (omega (arith, len))
same_lines P f one (x ∷ xs) (y ∷ ys) a b p q len e =
    let h = head_of (f x) (f y) (map f xs ++ a) (map f ys ++ b) e in
    let rest = same_lines P f one xs ys a b p.1 q.1 (omega (arith, len)) h.1 in
    (rw (one x y p.0 q.0 h.0, rest.0) refl, rest.1)

pub image_same : (name : List ℕ) (a b : Image) (x y : List (List ℕ)) → HasImageText a → HasImageText b → a.raws ≡ b.raws → image_lines name a x ≡ image_lines name b y → (a ≡ b) × (x ≡ y)
image_same name a b x y p q flags e = grind (arith, common_steps, head_of, two_same, append_cancel_left, same_lines, decimal_injective, count_same)

pair_same : (p q : ℕ × ℕ) → AreAddresses p → AreAddresses q → pair_line p ≡ pair_line q → p ≡ q
pair_same p q h k e = grind (arith, common_steps, two_same)

pub certificate_more : (pairs : List (ℕ × ℕ)) (x : List (List ℕ)) → certificate_lines pairs ++ x ≡ count_line (codes "pairs") (length pairs) ∷ (map pair_line pairs ++ codes "end" ∷ x)
certificate_more pairs x = ap (λ (l : List (List ℕ)). count_line (codes "pairs") (length pairs) ∷ l) (append_assoc (map pair_line pairs) (codes "end" ∷ []) x)

pub certificate_same : (a b : List (ℕ × ℕ)) (x y : List (List ℕ)) → length a ≤ 524287 → length b ≤ 524287 → AllByRecursion AreAddresses a → AllByRecursion AreAddresses b → certificate_lines a ++ x ≡ certificate_lines b ++ y → (a ≡ b) × (x ≡ y)
certificate_same a b x y la lb pa pb e =
    let first = head_of (count_line (codes "pairs") (length a)) (count_line (codes "pairs") (length b)) (map pair_line a ++ codes "end" ∷ x) (map pair_line b ++ codes "end" ∷ y) (sym (certificate_more a x) ∙ e ∙ certificate_more b y) in
    let rest = same_lines AreAddresses pair_line pair_same a b (codes "end" ∷ x) (codes "end" ∷ y) pa pb (count_same (codes "pairs") (length a) (length b) (omega (arith, la)) (omega (arith, lb)) first.0) first.1 in
    (rest.0, (head_of (codes "end") (codes "end") x y rest.1).1)

pub image_more : (name : List ℕ) (image : Image) (more x : List (List ℕ)) → image_lines name image more ++ x ≡ image_lines name image (more ++ x)
image_more name image more x = grind (arith, common_steps)

pub lines_more : (f : CertifiedPair) (x : List (List ℕ)) → lines_of f ++ x ≡ heading f.old.raws ∷ image_lines (codes "old") f.old (image_lines (codes "new") f.new (certificate_lines f.pairs ++ x))
unfolding lines_of
lines_more f x = grind (arith, common_steps, image_more)

pub heading_same : (raws other : Bool) → heading raws ≡ heading other → raws ≡ other
heading_same raws other e = grind (arith, common_steps)

abbrev pair_with : Image → Image → List (ℕ × ℕ) → CertifiedPair
pair_with old new pairs = record { old = old; new = new; pairs = pairs }

-- the lines of one pair begin those of no other
pub lines_same : (f g : CertifiedPair) (x y : List (List ℕ)) → HasText f → HasText g → lines_of f ++ x ≡ lines_of g ++ y → (f ≡ g) × (x ≡ y)
lines_same f g x y p q e =
    let f_new = image_lines (codes "new") f.new (certificate_lines f.pairs ++ x) in
    let g_new = image_lines (codes "new") g.new (certificate_lines g.pairs ++ y) in
    let first = head_of (heading f.old.raws) (heading g.old.raws) (image_lines (codes "old") f.old f_new) (image_lines (codes "old") g.old g_new) (sym (lines_more f x) ∙ e ∙ lines_more g y) in
    let flags = heading_same f.old.raws g.old.raws first.0 in
    let old = image_same (codes "old") f.old g.old f_new g_new p.old q.old flags first.1 in
    let new = image_same (codes "new") f.new g.new (certificate_lines f.pairs ++ x) (certificate_lines g.pairs ++ y) p.new q.new (sym p.raws ∙ flags ∙ q.raws) old.1 in
    let pairs = certificate_same f.pairs g.pairs x y p.pairs.0 q.pairs.0 p.pairs.1 q.pairs.1 new.1 in
    (ap (λ (i : Image). pair_with i f.new f.pairs) old.0 ∙ ap (λ (i : Image). pair_with g.old i f.pairs) new.0 ∙ ap (pair_with g.old g.new) pairs.0, pairs.1)
