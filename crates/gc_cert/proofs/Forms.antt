-- Sections of one line, and of several lines of one form.
use Rattle.std.proofs.lemmas.Grind.{common_steps}
use Rattle.std.proofs.Common.{◌≡◌, ◌≢◌, ℕ, suc, zero, ◌-◌, ◌<◌, Bool, true, false, List, [], ◌∷◌, ◌++◌, length, map, replicate, refl, sym, ap, ◌∙◌, arith, append_assoc, subst, inl, inr, ◌⊎◌, length-append, IsTrue, ◌↔◌}
use Rattle.std.specs.List.{AllByRecursion}
use Rattle.std.specs.Str.{bytes_eq}
use Rattle.std.proofs.lemmas.List.{append-nil, map-append, length-map, length-replicate}
use Rattle.std.proofs.lemmas.Slice.Eq.{bytes_eq-Decides}
use Rattle.gc_text.specs.Lines.{newline, HasNo}
use Rattle.gc_text.specs.Reading.{Place, HasTakenLine, NoneIsFirst}
use Rattle.gc_cert.specs.Internal.Sections.{HasTaken, IsNextLine, alone, AreAll, Spelled, Begins, IsWrongAt, IsCutIn, IsLineFault, MayStop}
use Rattle.gc_cert.specs.declared.fault.PairFault.{PairFault}
use Rattle.gc_cert.specs.declared.fault.PairFault.TheVariants.{Read, TooLarge, BadLine, EndsEarly, NoMemory}
use Rattle.gc_cert.proofs.SameLines.{All-append, head_of, same_lines}
use Rattle.gc_cert.proofs.Stops.{Delimits, BeginsWith}

abbrev Lines : Type 0
Lines = List (List ℕ)

-- a line for each value in range: there is one, no two values have the same, and it is decided which lines have a value
pub record IsForm {V : Type 0} (InRange : V → Type 0) (line_of : V → List ℕ) : Type 0 where
  pub some : V
  pub in_range : InRange some
  pub one : (v w : V) → InRange v → InRange w → line_of v ≡ line_of w → v ≡ w
  pub decided : (line : List ℕ) → ((v : V) × InRange v × (line ≡ line_of v)) ⊎ ((v : V) → InRange v → line ≢ line_of v)

-- a form by what a line names: if the line has a value, it is that one
pub form_by : {V : Type 0} (InRange : V → Type 0) (line_of : V → List ℕ) (named : List ℕ → V) (in_range : V → Bool) → ((v : V) → IsTrue (in_range v) ↔ InRange v) → ((v : V) → InRange v → named (line_of v) ≡ v) → (some : V) → InRange some → IsForm InRange line_of
form_by {V} InRange line_of named in_range decides again some fits = record {
  some = some;
  in_range = fits;
  one = λ v w p q e. sym (again v p) ∙ ap named e ∙ again w q;
  decided = λ line. at line (in_range (named line)) refl (bytes_eq line (line_of (named line))) refl;
}
  where
    other : (line : List ℕ) → (InRange (named line) → line ≢ line_of (named line)) → (v : V) → InRange v → line ≢ line_of v
    other line never v p e =
        let same : named line ≡ v = ap named e ∙ again v p in
        never (subst InRange (sym same) p) (e ∙ ap line_of (sym same))

    at : (line : List ℕ) (fits : Bool) → in_range (named line) ≡ fits → (same : Bool) → bytes_eq line (line_of (named line)) ≡ same → ((v : V) × InRange v × (line ≡ line_of v)) ⊎ ((v : V) → InRange v → line ≢ line_of v)
    at line false e same f = inr (other line (λ p. absurd (grind (arith, common_steps, decides))))
    at line true e false f = inr (other line (λ p is. absurd (grind (arith, common_steps, bytes_eq-Decides))))
    at line true e true f = inl (named line, (decides (named line)).0 (grind (arith, common_steps)), grind (arith, common_steps, bytes_eq-Decides))

-- ---- one line

pub one_form : {V : Type 0} (InRange : V → Type 0) (line_of : V → List ℕ) → IsForm InRange line_of → (v w : V) → InRange v → InRange w → line_of v ≡ line_of w → v ≡ w
one_form InRange line_of form v w p q e = form.one v w p q e

pub alone_delimits : {V : Type 0} (InRange : V → Type 0) (line_of : V → List ℕ) → IsForm InRange line_of → Delimits InRange (alone line_of)
alone_delimits InRange line_of form v w x y p q e = (let h = head_of (line_of v) (line_of w) x y e in (form.one v w p q h.0, h.1))

begins_alone : {V : Type 0} (InRange : V → Type 0) (line_of : V → List ℕ) → (v : V) × InRange v → Begins (Spelled InRange (alone line_of)) []
begins_alone InRange line_of (v, p) = (line_of v ∷ [], (v, p, refl))

no_line : (l : List ℕ) (ls : Lines) → [] ≢ l ∷ ls
no_line l ls e = cc

not_all_alone : {V : Type 0} (InRange : V → Type 0) (line_of : V → List ℕ) → ¬ Spelled InRange (alone line_of) []
not_all_alone InRange line_of (v, p, e) = no_line (line_of v) [] e

-- the line is not the line of any value
pub line_wrong : {V : Type 0} (InRange : V → Type 0) (line_of : V → List ℕ) (p q : Place) (line : List ℕ) (n : ℕ) → (v : V) × InRange v → IsNextLine line p q → ((v : V) → InRange v → line ≢ line_of v) → n ≡ q.taken → IsWrongAt (Spelled InRange (alone line_of)) p n
line_wrong InRange line_of p q line n some next none numbered = record {
  before = [];
  line = line;
  after = q.rest;
  parts = next.parts;
  whole_line = next.whole;
  number = omega (arith, numbered, next.number);
  good = begins_alone InRange line_of some;
  not_all = not_all_alone InRange line_of;
  wrong = λ (more, (v, fits, e)). none v fits (head_of line (line_of v) more [] e).0;
}

-- no line is left
pub line_cut : {V : Type 0} (InRange : V → Type 0) (line_of : V → List ℕ) (p : Place) → (v : V) × InRange v → HasNo newline p.rest → IsCutIn (Spelled InRange (alone line_of)) p
line_cut InRange line_of p some none = record {
  before = [];
  unfinished = p.rest;
  parts = refl;
  no_line = none;
  good = begins_alone InRange line_of some;
  not_all = not_all_alone InRange line_of;
}

-- one line was taken
pub line_taken : (line : List ℕ) (p q : Place) → HasTakenLine line p q → HasTaken (line ∷ []) p q
line_taken line p q taken = record { parts = taken.parts ∙ sym (append_assoc line (newline ∷ []) q.rest) ∙ ap (λ (l : List ℕ). l ++ q.rest) (sym (append-nil (line ++ newline ∷ []))); number = taken.number }

-- the fault of a first line that has no value
pub line_stops : {V : Type 0} (InRange : V → Type 0) (line_of : V → List ℕ) (p : Place) (fault : PairFault) → (v : V) × InRange v → NoneIsFirst InRange line_of p.rest → IsLineFault fault p → MayStop (Spelled InRange (alone line_of)) fault p
line_stops InRange line_of p Read some none is = is
line_stops InRange line_of p TooLarge some none is = is
line_stops InRange line_of p (BadLine n) some none (line, after, next, numbered) =
    line_wrong InRange line_of p after line n some next (λ v fits e. none v after.rest fits (next.parts ∙ ap (λ (l : List ℕ). l ++ newline ∷ after.rest) e)) numbered
line_stops InRange line_of p EndsEarly some none is = line_cut InRange line_of p some is
line_stops InRange line_of p NoMemory some none is = tt

-- ---- a number of lines

pub All-replicate : {V : Type 0} (P : V → Type 0) (n : ℕ) (x : V) → P x → AllByRecursion P (replicate n x)
All-replicate P zero x p = tt
All-replicate P (suc n) x p = (p, All-replicate P n x p)

pub all_delimit : {V : Type 0} (InRange : V → Type 0) (line_of : V → List ℕ) (n : ℕ) → IsForm InRange line_of → Delimits (AreAll InRange n) (map line_of)
all_delimit InRange line_of n form vs ws x y p q e = same_lines InRange line_of form.one vs ws x y p.1 q.1 (p.0 ∙ sym q.0) e

-- while lines are left, the next one follows
one_more : {V : Type 0} (InRange : V → Type 0) (line_of : V → List ℕ) (done lines : Lines) (vs : List V) → length done < length vs → AllByRecursion InRange vs → done ++ lines ≡ map line_of vs → (v : V) × (more : Lines) × InRange v × (lines ≡ line_of v ∷ more)
one_more InRange line_of done lines [] lt p e = absurd (omega (arith, lt))
one_more InRange line_of [] lines (v ∷ vs) lt p e = (v, map line_of vs, p.0, e)
one_more InRange line_of (l ∷ done) lines (v ∷ vs) lt p e = one_more InRange line_of done lines vs (omega (arith, lt)) p.1 (head_of l (line_of v) (done ++ lines) (map line_of vs) e).1

pub begins_with_one : {V : Type 0} (InRange : V → Type 0) (line_of : V → List ℕ) (n : ℕ) (vs : List V) → length vs < n → AllByRecursion InRange vs → BeginsWith InRange (alone line_of) (λ lines. Spelled (AreAll InRange n) (map line_of) (map line_of vs ++ lines))
begins_with_one InRange line_of n vs lt p = record {
  some = λ v q.
      let more = replicate (n - length vs - 1) v in
      (map line_of more, (vs ++ v ∷ more, (omega (arith, length-append vs (v ∷ more), length-replicate (n - length vs - 1) v), All-append InRange vs (v ∷ more) p (q, All-replicate InRange (n - length vs - 1) v q)), sym (map-append line_of vs (v ∷ more))));
  only = λ lines (ws, q, e). one_more InRange line_of (map line_of vs) lines ws (omega (arith, lt, q.0, length-map vs line_of)) q.1 e;
}

-- one more line of the form was taken
pub push_taken : {V : Type 0} (line_of : V → List ℕ) (vs : List V) (v : V) (a b : Place) → HasTaken (map line_of vs ++ line_of v ∷ []) a b → HasTaken (map line_of (vs ++ v ∷ [])) a b
push_taken line_of vs v a b taken = subst (λ (ls : Lines). HasTaken ls a b) (sym (map-append line_of vs (v ∷ []))) taken
