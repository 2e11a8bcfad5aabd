-- A text has one reading: one pair, or one first fault.
use Rattle.std.proofs.lemmas.Grind.{common_steps}
use Rattle.std.proofs.Common.{◌≡◌, ◌≢◌, ℕ, ◌+◌, List, [], ◌∷◌, ◌++◌, length, refl, sym, ap, ◌∙◌, arith, append_assoc, subst, inl, inr, ◌⊎◌}
use Rattle.std.proofs.lemmas.List.{append-nil}
use Rattle.std.proofs.lemmas.List.Concat.{flat_map-cons}
use Rattle.gc_text.specs.Lines.{newline, HasNo, ended, text_of}
use Rattle.gc_cert.specs.Grammar.{CertifiedPair, lines_of, spelling, IsTextOf}
use Rattle.gc_cert.specs.Faults.{AreFirst, AreWhole, HasWrongLine, HasByteBehind, IsCutOff, IsPairFaultOf, IsReadAsPair}
use Rattle.gc_cert.specs.declared.fault.PairFault.{PairFault}
use Rattle.gc_cert.specs.declared.fault.PairFault.TheVariants.{Read, TooLarge, BadLine, EndsEarly, NoMemory}
use Rattle.gc_text.proofs.Public.{not_cut, one_cut}
use Rattle.gc_cert.proofs.SameLines.{AreLines, All-front, are_lines, lines_same}

text_more : (l : List ℕ) (ls : List (List ℕ)) (x : List ℕ) → text_of (l ∷ ls) ++ x ≡ l ++ newline ∷ (text_of ls ++ x)
text_more l ls x = ap (λ (t : List ℕ). t ++ x) (flat_map-cons ended l ls) ∙ append_assoc (ended l) (text_of ls) x ∙ append_assoc l (newline ∷ []) (text_of ls ++ x)

-- the text does not begin with a further line of a pair text
abbrev Stops : List (List ℕ) → List ℕ → Type 0
Stops before rest = (l more : List ℕ) → HasNo newline l → rest ≡ l ++ newline ∷ more → AreFirst (before ++ l ∷ []) → ⊥

-- lines that begin a pair text, and what follows them
abbrev StopsAt : List (List ℕ) → List ℕ → List ℕ → Type 0
StopsAt before rest text = AreFirst before × (text ≡ text_of before ++ rest) × Stops before rest

first_lines : (before : List (List ℕ)) → AreFirst before → AreLines before
first_lines before (f, rest, fits, is) = All-front before rest (subst AreLines is (are_lines f fits))

fewer : (before more : List (List ℕ)) (l : List ℕ) → AreFirst (before ++ l ∷ more) → AreFirst (before ++ l ∷ [])
fewer before more l (f, rest, fits, is) = (f, more ++ rest, fits, is ∙ ap (λ (ls : List (List ℕ)). ls ++ rest) (sym (append_assoc before (l ∷ []) more)) ∙ append_assoc (before ++ l ∷ []) more rest)

-- after equal lines, one continues and the other stops
same_stop : (done xs ys : List (List ℕ)) (a b : List ℕ) → AreLines xs → AreLines ys → AreFirst (done ++ xs) → AreFirst (done ++ ys) → Stops (done ++ xs) a → Stops (done ++ ys) b → text_of xs ++ a ≡ text_of ys ++ b → (xs ≡ ys) × (a ≡ b)
same_stop done [] [] a b p q first first' stop stop' e = (refl, e)
same_stop done [] (y ∷ ys) a b p q first first' stop stop' e =
    absurd (stop y (text_of ys ++ b) q.0 (e ∙ text_more y ys b) (subst (λ (d : List (List ℕ)). AreFirst (d ++ y ∷ [])) (sym (append-nil done)) (fewer done ys y first')))
same_stop done (x ∷ xs) [] a b p q first first' stop stop' e =
    absurd (stop' x (text_of xs ++ a) p.0 (sym e ∙ text_more x xs a) (subst (λ (d : List (List ℕ)). AreFirst (d ++ x ∷ [])) (sym (append-nil done)) (fewer done xs x first)))
same_stop done (x ∷ xs) (y ∷ ys) a b p q first first' stop stop' e =
    let cut = one_cut newline x (text_of xs ++ a) y (text_of ys ++ b) p.0 q.0 (sym (text_more x xs a) ∙ e ∙ text_more y ys b) in
    let left : done ++ x ∷ xs ≡ (done ++ x ∷ []) ++ xs = sym (append_assoc done (x ∷ []) xs) in
    let right : done ++ y ∷ ys ≡ (done ++ x ∷ []) ++ ys = ap (λ (l : List ℕ). done ++ l ∷ ys) (sym cut.0) ∙ sym (append_assoc done (x ∷ []) ys) in
    let rest = same_stop (done ++ x ∷ []) xs ys a b p.1 q.1 (subst AreFirst left first) (subst AreFirst right first') (subst (λ (d : List (List ℕ)). Stops d a) left stop) (subst (λ (d : List (List ℕ)). Stops d b) right stop') cut.1 in
    (rw (cut.0, rest.0) refl, rest.1)

one_stop : (before after : List (List ℕ)) (a b text : List ℕ) → StopsAt before a text → StopsAt after b text → (before ≡ after) × (a ≡ b)
one_stop before after a b text p q = same_stop [] before after a b (first_lines before p.0) (first_lines after q.0) p.0 q.0 p.2 q.2 (sym p.1 ∙ q.1)

some_cut : (a b : List ℕ) → [] ≢ a ++ newline ∷ b
some_cut [] b e = cc
some_cut (x ∷ a) b e = cc

good_stop : (f : CertifiedPair) (text : List ℕ) → IsTextOf f text → StopsAt (lines_of f) [] text
unfolding spelling
good_stop f text p = grind (arith, common_steps, append-nil, some_cut)

wrong_stop : (text : List ℕ) (n : ℕ) (w : HasWrongLine text n) → StopsAt w.0.before w.0.rest text
wrong_stop text n (g, line, more, is, whole, wrong) =
    (g.good, g.parts, λ l m h e first. wrong (subst (λ (k : List ℕ). AreFirst (g.before ++ k ∷ [])) (one_cut newline l m line more h whole (sym e ∙ is)).0 first))

nothing_behind : (before : List (List ℕ)) (l : List ℕ) → AreWhole before → AreFirst (before ++ l ∷ []) → ⊥
nothing_behind before l (f, fits, is) (g, rest, fits', is') =
    no_line rest l (lines_same f g (l ∷ rest) [] fits fits' (ap (λ (ls : List (List ℕ)). ls ++ l ∷ rest) is ∙ sym (append_assoc before (l ∷ []) rest) ∙ sym is' ∙ sym (append-nil (lines_of g)))).1
  where
    no_line : (rest : List (List ℕ)) (l : List ℕ) → l ∷ rest ≢ []
    no_line rest l e = cc

behind_stop : (text : List ℕ) (n : ℕ) (w : HasByteBehind text n) → StopsAt w.0.before w.0.rest text
behind_stop text n (g, whole, some) = (g.good, g.parts, λ l more h is first. nothing_behind g.before l whole first)

cut_stop : (text : List ℕ) (w : IsCutOff text) → StopsAt w.1.before w.1.rest text
cut_stop text (n, g, no_line, not_all) = (g.good, g.parts, λ l more h is first. not_cut newline g.rest l more no_line is)

-- ---- one reading

pub one_value : (f g : CertifiedPair) (text : List ℕ) → IsTextOf f text → IsTextOf g text → f ≡ g
one_value f g text p q = (lines_same f g [] [] p.fits q.fits (ap (λ (ls : List (List ℕ)). ls ++ []) ((one_stop (lines_of f) (lines_of g) [] [] text (good_stop f text p) (good_stop g text q)).0))).0

good_cut : (f : CertifiedPair) (text : List ℕ) → IsTextOf f text → IsCutOff text → ⊥
good_cut f text p (n, g, no_line, not_all) = not_all (f, p.fits, (one_stop (lines_of f) g.before [] g.rest text (good_stop f text p) (cut_stop text (n, g, no_line, not_all))).0)

-- a bad line follows the last good line
record BadStop (text : List ℕ) (n : ℕ) : Type 0 where
  before : List (List ℕ)
  rest : List ℕ
  stops : StopsAt before rest text
  some : [] ≢ rest
  number : n ≡ 1 + length before

bad_stop : (text : List ℕ) (n : ℕ) → HasWrongLine text n ⊎ HasByteBehind text n → BadStop text n
bad_stop text n (inl w) = record { before = w.0.before; rest = w.0.rest; stops = wrong_stop text n w; some = λ e. some_cut w.1 w.2 (e ∙ w.3); number = w.0.number }
bad_stop text n (inr w) = record { before = w.0.before; rest = w.0.rest; stops = behind_stop text n w; some = λ e. w.2 (sym e); number = w.0.number }

good_bad : (f : CertifiedPair) (text : List ℕ) (n : ℕ) → IsTextOf f text → HasWrongLine text n ⊎ HasByteBehind text n → ⊥
good_bad f text n p h = let b = bad_stop text n h in b.some (one_stop (lines_of f) b.before [] b.rest text (good_stop f text p) b.stops).1

pub no_fault : (f : CertifiedPair) (fault : PairFault) (text : List ℕ) → IsReadAsPair f text → IsPairFaultOf fault text → ⊥
no_fault f Read text p q = q
no_fault f TooLarge text p q = omega (arith, p.1, q)
no_fault f (BadLine n) text p q = good_bad f text n p.0 q.1
no_fault f EndsEarly text p q = good_cut f text p.0 q.1
no_fault f NoMemory text p q = q

bad_bad : (text : List ℕ) (n m : ℕ) → HasWrongLine text n ⊎ HasByteBehind text n → HasWrongLine text m ⊎ HasByteBehind text m → n ≡ m
bad_bad text n m h k =
    let a = bad_stop text n h in
    let b = bad_stop text m k in
    a.number ∙ ap (λ (ls : List (List ℕ)). 1 + length ls) (one_stop a.before b.before a.rest b.rest text a.stops b.stops).0 ∙ sym b.number

bad_cut : (text : List ℕ) (n : ℕ) → HasWrongLine text n ⊎ HasByteBehind text n → IsCutOff text → ⊥
bad_cut text n (inl w) c = not_cut newline c.1.rest w.1 w.2 c.2 (sym (one_stop w.0.before c.1.before w.0.rest c.1.rest text (wrong_stop text n w) (cut_stop text c)).1 ∙ w.3)
bad_cut text n (inr w) c = c.3 (subst AreWhole (one_stop w.0.before c.1.before w.0.rest c.1.rest text (behind_stop text n w) (cut_stop text c)).0 w.1)

pub one_fault : (p q : PairFault) (text : List ℕ) → IsPairFaultOf p text → IsPairFaultOf q text → p ≡ q
one_fault Read q text h k = absurd h
one_fault NoMemory q text h k = absurd h
one_fault p Read text h k = absurd k
one_fault p NoMemory text h k = absurd k
one_fault TooLarge TooLarge text h k = refl
one_fault TooLarge (BadLine m) text h k = absurd (omega (arith, h, k.0))
one_fault TooLarge EndsEarly text h k = absurd (omega (arith, h, k.0))
one_fault (BadLine n) TooLarge text h k = absurd (omega (arith, k, h.0))
one_fault (BadLine n) (BadLine m) text h k = ap BadLine (bad_bad text n m h.1 k.1)
one_fault (BadLine n) EndsEarly text h k = absurd (bad_cut text n h.1 k.1)
one_fault EndsEarly TooLarge text h k = absurd (omega (arith, k, h.0))
one_fault EndsEarly (BadLine m) text h k = absurd (bad_cut text m k.1 h.1)
one_fault EndsEarly EndsEarly text h k = refl
