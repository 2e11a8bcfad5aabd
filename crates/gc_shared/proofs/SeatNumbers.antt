-- Seats by number, and in the order in which they were passed to `close`.
use Rattle.std.proofs.lemmas.Grind.{common_steps}
use Rattle.std.proofs.Common.{◌≡◌, ℕ, zero, suc, ◌+◌, ◌<◌, ◌==◌, Bool, true, false, cond, List, [], ◌∷◌, length, refl, sym, ap, ◌∙◌, arith, count_by, sum_by, eqb, ltb, Option, Some, ⊎_elim, subst, All, get_or, map, MatchOption}
use Rattle.std.specs.List.{find, flat_map}
use Rattle.std.specs.Option.{option_map_or}
use Rattle.std.specs.List.Sorted.{IsStrictlyIncreasing}
use Rattle.std.proofs.lemmas.Bool.{cases_Bool, eq-eqb}
use Rattle.std.proofs.lemmas.Bool.Decides.{nat_tests, eqb_tells}
use Rattle.std.proofs.lemmas.List.Sums.{sum_by-cons, count_by-le-length, get_or-le-sum_by}
use Rattle.gc_world.specs.declared.entry.Entry.{Entry}
use Rattle.gc_shared.specs.declared.seat.Receipt.{Receipt}
use Rattle.gc_world.specs.World.{Past}
use Rattle.gc_shared.specs.declared.fault.CloseKind.{CloseKind}
use Rattle.gc_shared.specs.Seats.{SeatValue, Opening, count_of_seats}
use Rattle.gc_shared.specs.Receipts.{IsRecorded, times_at, ReceiptsAgree}
use Rattle.gc_shared.specs.Closing.{IsSeated, IsWhole, IsFirstCloseFault, receipts_of, receipts_below}
use Rattle.gc_shared.specs.Internal.Marks.{HasEachOnce, AgreeByNumber, IsFault}
use Rattle.gc_shared.proofs.ReceiptMarks.{times_at-append, every_counted}

abbrev below : (SeatValue → ℕ) → ℕ → SeatValue → ℕ
below f n t = cond (ltb t.number n) (f t) 0

abbrev here : (SeatValue → ℕ) → ℕ → SeatValue → ℕ
here f n t = cond (eqb t.number n) (f t) 0

split_one : (a n x : ℕ) → ◌≡◌ {A = ℕ} (cond (ltb a (suc n)) x 0) (cond (ltb a n) x 0 + cond (eqb a n) x 0)
split_one a n x = grind (arith, nat_tests)

split_sum : (f : SeatValue → ℕ) (n : ℕ) (ts : List SeatValue) → sum_by (below f (suc n)) ts ≡ sum_by (below f n) ts + sum_by (here f n) ts
split_sum f n [] = refl
split_sum f n (t ∷ ts) = grind (arith, common_steps, sum_by-cons, split_one, split_sum f n ts)

none_here : (f : SeatValue → ℕ) (n : ℕ) (ts : List SeatValue) → count_by (λ t. t.number == n) ts ≡ 0 → sum_by (here f n) ts ≡ 0
none_here f n [] e = refl
none_here f n (t ∷ ts) e = grind (arith, common_steps, ⊎_elim, sum_by-cons, eqb_tells, none_here f n ts)

one_here : (f : SeatValue → ℕ) (n : ℕ) (ts : List SeatValue) → count_by (λ t. t.number == n) ts ≡ 1 → sum_by (here f n) ts ≡ option_map_or f (find (λ t. t.number == n) ts) 0
one_here f n [] e = absurd (omega (arith, e))
one_here f n (t ∷ ts) e = grind (arith, common_steps, ⊎_elim, none_here, sum_by-cons, eqb_tells, one_here f n ts)

all_below : (f : SeatValue → ℕ) (n : ℕ) (ts : List SeatValue) → count_by (λ t. ltb t.number n) ts ≡ length ts → sum_by (below f n) ts ≡ sum_by f ts
all_below f n [] e = refl
all_below f n (t ∷ ts) e = grind (arith, common_steps, count_by-le-length, ⊎_elim, sum_by-cons, cases_Bool, all_below f n ts)

none_below_zero : (f : SeatValue → ℕ) (ts : List SeatValue) → sum_by (below f 0) ts ≡ 0
none_below_zero f [] = refl
none_below_zero f (t ∷ ts) = grind (arith, common_steps, nat_tests, sum_by-cons, none_below_zero f ts)

counted : (n : ℕ) (ts : List SeatValue) → HasEachOnce ts n → sum_by (below (λ t. 1) n) ts ≡ n
counted zero ts once = none_below_zero (λ t. 1) ts
counted (suc n) ts once = omega (arith, split_sum (λ t. 1) n ts, counted n ts (λ s lt. once s (omega arith)), once n (omega arith))

times_of : (p : ℕ) (o : Option SeatValue) → times_at p (option_map_or (λ t. t.receipts) o []) ≡ option_map_or (λ t. times_at p t.receipts) o 0
times_of p o = grind (arith, common_steps)

by_number : (p n : ℕ) (ts : List SeatValue) → HasEachOnce ts n → times_at p (receipts_below ts n) ≡ sum_by (below (λ t. times_at p t.receipts) n) ts
by_number p zero ts once = sym (none_below_zero (λ t. times_at p t.receipts) ts)
by_number p (suc n) ts once =
    let f : SeatValue → ℕ = λ t. times_at p t.receipts in
    omega (arith, times_at-append p (receipts_below ts n) (receipts_of ts n), by_number p n ts (λ s lt. once s (omega arith)), split_sum f n ts, one_here f n ts (once n (omega arith)), times_of p (find (λ t. t.number == n) ts))

as_handed_in : (p : ℕ) (ts : List SeatValue) → times_at p (flat_map (λ t. t.receipts) ts) ≡ sum_by (λ t. times_at p t.receipts) ts
as_handed_in p [] = refl
as_handed_in p (t ∷ ts) = omega (arith, times_at-append p t.receipts (flat_map (λ t. t.receipts) ts), as_handed_in p ts, sum_by-cons (λ t. times_at p t.receipts) t ts)

-- a place is on the same number of receipts, whether seats are taken by number or in the given order
together : (count p : ℕ) (seats : List SeatValue) → length seats ≡ count → HasEachOnce seats count → times_at p (receipts_below seats count) ≡ times_at p (flat_map (λ t. t.receipts) seats)
together count p seats len once = by_number p count seats once ∙ (all_below (λ t. times_at p t.receipts) count seats (counted count seats once ∙ sym len)) ∙ sym (as_handed_in p seats)

-- if only one element passes a test, `find` finds it
find_only : (p : SeatValue → Bool) (ts : List SeatValue) (k : ℕ) (d : SeatValue) → count_by p ts ≡ 1 → p (get_or ts k d) ≡ true → k < length ts → find p ts ≡ Some (get_or ts k d)
find_only p [] k d one here lt = absurd (omega arith)
find_only p (t ∷ ts) zero d one here lt = ap (λ (b : Bool). cond b (Some t) (find p ts)) here
find_only p (t ∷ ts) (suc k) d one here lt = grind (arith, common_steps, sum_by-cons, ⊎_elim, get_or-le-sum_by, cases_Bool, find_only p ts k d)

number_within : (count : ℕ) (seats : List SeatValue) (k : ℕ) (d : SeatValue) → length seats ≡ count → HasEachOnce seats count → k < length seats → (get_or seats k d).number < count
number_within count seats k d len once lt =
    let e = every_counted (λ (t : SeatValue). ltb t.number count) seats (counted count seats once ∙ sym len) k d lt in
    grind (arith, nat_tests)

-- the receipts of the seat at a place, found by its number
receipts_here : (count : ℕ) (seats : List SeatValue) (k : ℕ) (d : SeatValue) → length seats ≡ count → HasEachOnce seats count → k < length seats → receipts_of seats (get_or seats k d).number ≡ (get_or seats k d).receipts
receipts_here count seats k d len once lt =
    let n = (get_or seats k d).number in
    ap (λ (o : Option SeatValue). option_map_or (λ t. t.receipts) o []) (find_only (λ t. t.number == n) seats k d (once n (number_within count seats k d len once lt)) (eq-eqb n n refl) lt)

-- a fact about the receipts of every seat holds of the receipts found by a number
of_number : (Q : List Receipt → Type 0) (n : ℕ) (ts : List SeatValue) → Q [] → All (λ t. Q t.receipts) ts → Q (receipts_of ts n)
of_number Q n [] none all = none
of_number Q n (t ∷ ts) none all =
    let found : Bool → List Receipt = λ b. option_map_or (λ t. t.receipts) (cond b (Some t) (find (λ t. t.number == n) ts)) [] in
    ⊎_elim
    (λ (yes : eqb t.number n ≡ true). subst Q (sym (ap found yes)) (all 0 t (omega arith)))
    (λ (no : eqb t.number n ≡ false). subst Q (sym (ap found no)) (of_number Q n ts none (λ k d lt. all (suc k) d (omega arith))))
    (cases_Bool (eqb t.number n))

-- receipts that agree with the seats taken by number also agree in the given order
agree_as_handed_in : (history : List Entry) (seats : List SeatValue) (count : ℕ) → length seats ≡ count → HasEachOnce seats count → AgreeByNumber history seats count → ReceiptsAgree history seats
agree_as_handed_in history seats count len once agree = record {
  recorded = λ k d lt. rw (← receipts_here count seats k d len once lt) (agree.recorded (get_or seats k d).number (number_within count seats k d len once lt));
  rising = λ k d lt. rw (← receipts_here count seats k d len once lt) (agree.rising (get_or seats k d).number (number_within count seats k d len once lt));
  once = λ p lt. sym (together count p seats len once) ∙ agree.once p lt;
}

-- and the other way round
pub agree_by_number : (history : List Entry) (seats : List SeatValue) (count : ℕ) → length seats ≡ count → HasEachOnce seats count → ReceiptsAgree history seats → AgreeByNumber history seats count
agree_by_number history seats count len once agree = record {
  recorded = λ n lt. of_number (λ rs. All (IsRecorded history) rs) n seats (λ k d lt. absurd (omega arith)) agree.recorded;
  rising = λ n lt. of_number (λ rs. IsStrictlyIncreasing (map (λ r. r.place) rs)) n seats (λ k lt. absurd (omega arith)) agree.rising;
  once = λ p lt. together count p seats len once ∙ agree.once p lt;
}

-- the first fault of the seats is the one found when they are taken by number
pub first_fault_of : (r : Option CloseKind) (o : Opening) (w : Past) (seats : List SeatValue) → IsSeated o w seats → MatchOption r (AgreeByNumber w.entries seats (count_of_seats o)) (IsFault w.entries seats (count_of_seats o)) → MatchOption r (IsWhole o w seats) (IsFirstCloseFault o w seats)
first_fault_of r o w seats seated agree = grind (arith, common_steps, agree_as_handed_in)
