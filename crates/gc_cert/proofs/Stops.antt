-- If the reading of a section stops, so does that of every section around it.
use Rattle.std.proofs.lemmas.Grind.{common_steps}
use Rattle.std.proofs.Common.{◌≡◌, ℕ, List, [], ◌∷◌, ◌++◌, refl, sym, ap, ◌∙◌, arith, append_assoc, subst, inl, inr, ◌⊎◌, length-append}
use Rattle.std.proofs.lemmas.List.{append-nil}
use Rattle.std.proofs.lemmas.List.Concat.{flat_map-append}
use Rattle.gc_text.specs.Lines.{newline, ended, text_of}
use Rattle.gc_text.specs.Reading.{Place}
use Rattle.gc_cert.specs.Internal.Sections.{HasTaken}
use Rattle.gc_cert.specs.Internal.Sections.{Section, Spelled, Begins, IsWrongAt, IsCutIn}

-- the lines of one value begin those of no other
abbrev pub Delimits : {V : Type 0} → (V → Type 0) → (V → List (List ℕ)) → Type 0
Delimits {V = V} InRange lines_of = (v w : V) (x y : List (List ℕ)) → InRange v → InRange w → lines_of v ++ x ≡ lines_of w ++ y → (v ≡ w) × (x ≡ y)

-- a section begins with the lines of these values and no others
pub record BeginsWith {V : Type 0} (InRange : V → Type 0) (lines_of : V → List (List ℕ)) (S : Section) : Type 0 where
  pub some : (v : V) → InRange v → Begins S (lines_of v)
  pub only : (lines : List (List ℕ)) → S lines → (v : V) × (more : List (List ℕ)) × InRange v × (lines ≡ lines_of v ++ more)

-- ---- lists of lines

abbrev Lines : Type 0
Lines = List (List ℕ)

-- if two lists are prefixes of a list, one is a prefix of the other
fronts : (xs ys a b : Lines) → xs ++ a ≡ ys ++ b → ((k : Lines) × (ys ≡ xs ++ k) × (a ≡ k ++ b)) ⊎ ((k : Lines) × (xs ≡ ys ++ k) × (b ≡ k ++ a))
fronts [] ys a b e = inl (ys, refl, e)
fronts (x ∷ xs) [] a b e = inr (x ∷ xs, refl, sym e)
fronts (x ∷ xs) (y ∷ ys) a b e = grind (arith, common_steps, fronts xs ys a b)

no_more : (x more : Lines) → [] ≡ x ++ more → x ≡ []
no_more [] more e = refl
no_more (l ∷ x) more e = absurd cc

-- ---- from a section to the one that it begins

open_front : {V : Type 0} (InRange : V → Type 0) (lines_of : V → Lines) (before more : Lines) (v w : V) (x : Lines) → Delimits InRange lines_of → InRange v → before ++ more ≡ lines_of v → InRange w → before ≡ lines_of w ++ x → Spelled InRange lines_of before
open_front InRange lines_of before more v w x one p is q front =
    let same = one v w [] (x ++ more) p q (append-nil (lines_of v) ∙ sym is ∙ ap (λ (l : Lines). l ++ more) front ∙ append_assoc (lines_of w) x more) in
    (w, q, front ∙ ap (λ (l : Lines). lines_of w ++ l) (no_more x more same.1) ∙ append-nil (lines_of w))

open_first : {V : Type 0} (InRange : V → Type 0) (lines_of : V → Lines) (S : Section) (before : Lines) → Delimits InRange lines_of → BeginsWith InRange lines_of S → Begins (Spelled InRange lines_of) before → ¬ Spelled InRange lines_of before → ¬ S before
open_first InRange lines_of S before one with (more, (v, p, is)) none whole =
    let found = with.only before whole in
    none (open_front InRange lines_of before more v found.0 found.1 one p is found.2 found.3)

begins_first : {V : Type 0} (InRange : V → Type 0) (lines_of : V → Lines) (S : Section) (before : Lines) → BeginsWith InRange lines_of S → Begins (Spelled InRange lines_of) before → Begins S before
begins_first InRange lines_of S before with h = grind (arith, common_steps)

wrong_first : {V : Type 0} (InRange : V → Type 0) (lines_of : V → Lines) (S : Section) (before : Lines) (line : List ℕ) → Delimits InRange lines_of → BeginsWith InRange lines_of S → Begins (Spelled InRange lines_of) before → ¬ Spelled InRange lines_of before
    → ¬ Begins (Spelled InRange lines_of) (before ++ line ∷ []) → ¬ Begins S (before ++ line ∷ [])
wrong_first {V} InRange lines_of S before line one with (more, (v, p, is)) none never (rest, whole) =
    let found = with.only ((before ++ line ∷ []) ++ rest) whole in
    at found.0 found.1 found.2 (fronts before (lines_of found.0) (line ∷ rest) found.1 (sym (append_assoc before (line ∷ []) rest) ∙ found.3))
  where
    at : (w : V) (x : Lines) → InRange w → ((k : Lines) × (lines_of w ≡ before ++ k) × (line ∷ rest ≡ k ++ x)) ⊎ ((k : Lines) × (before ≡ lines_of w ++ k) × (x ≡ k ++ line ∷ rest)) → ⊥
    at w x q (inl ([], e, h)) = none (w, q, sym (e ∙ append-nil before))
    at w x q (inl (l ∷ k, e, h)) = never (k, (w, q, append_assoc before (line ∷ []) k ∙ ap (λ (m : List ℕ). before ++ m ∷ k) (sym cc) ∙ sym e))
    at w x q (inr (k, e, h)) = none (open_front InRange lines_of before more v w k one p is q e)

-- ---- from the rest of a section to the whole section

taken_text : (done before : Lines) (rest : List ℕ) → text_of done ++ (text_of before ++ rest) ≡ text_of (done ++ before) ++ rest
taken_text done before rest = sym (append_assoc (text_of done) (text_of before) rest) ∙ ap (λ (t : List ℕ). t ++ rest) (sym (flat_map-append ended done before))

begins_after : (S : Section) (done before : Lines) → Begins (λ lines. S (done ++ lines)) before → Begins S (done ++ before)
begins_after S done before (more, whole) = (more, subst S (sym (append_assoc done before more)) whole)

begins_behind : (S : Section) (done before : Lines) → Begins S (done ++ before) → Begins (λ lines. S (done ++ lines)) before
begins_behind S done before (more, whole) = (more, subst S (append_assoc done before more) whole)

-- lines that were taken one after the other
pub taken_then : (xs ys : Lines) (a b c : Place) → HasTaken xs a b → HasTaken ys b c → HasTaken (xs ++ ys) a c
taken_then xs ys a b c p q = grind (arith, common_steps, taken_text)

pub wrong_within : {V : Type 0} (InRange : V → Type 0) (lines_of : V → Lines) (S : Section) (done : Lines) (old mid : Place) (n : ℕ) → Delimits InRange lines_of → BeginsWith InRange lines_of (λ lines. S (done ++ lines)) → HasTaken done old mid
    → IsWrongAt (Spelled InRange lines_of) mid n → IsWrongAt S old n
wrong_within InRange lines_of S done old mid n one with taken w = record {
  before = done ++ w.before;
  line = w.line;
  after = w.after;
  parts = taken.parts ∙ ap (λ (t : List ℕ). text_of done ++ t) w.parts ∙ taken_text done w.before (w.line ++ newline ∷ w.after);
  whole_line = w.whole_line;
  number = omega (arith, w.number, taken.number, length-append done w.before);
  good = begins_after S done w.before (begins_first InRange lines_of (λ lines. S (done ++ lines)) w.before with w.good);
  not_all = open_first InRange lines_of (λ lines. S (done ++ lines)) w.before one with w.good w.not_all;
  wrong = λ begins. wrong_first InRange lines_of (λ lines. S (done ++ lines)) w.before w.line one with w.good w.not_all w.wrong (begins_behind S done (w.before ++ w.line ∷ []) (subst (Begins S) (append_assoc done w.before (w.line ∷ [])) begins));
}

pub cut_within : {V : Type 0} (InRange : V → Type 0) (lines_of : V → Lines) (S : Section) (done : Lines) (old mid : Place) → Delimits InRange lines_of → BeginsWith InRange lines_of (λ lines. S (done ++ lines)) → HasTaken done old mid
    → IsCutIn (Spelled InRange lines_of) mid → IsCutIn S old
cut_within InRange lines_of S done old mid one with taken w = record {
  before = done ++ w.before;
  unfinished = w.unfinished;
  parts = taken.parts ∙ ap (λ (t : List ℕ). text_of done ++ t) w.parts ∙ taken_text done w.before w.unfinished;
  no_line = w.no_line;
  good = begins_after S done w.before (begins_first InRange lines_of (λ lines. S (done ++ lines)) w.before with w.good);
  not_all = open_first InRange lines_of (λ lines. S (done ++ lines)) w.before one with w.good w.not_all;
}
