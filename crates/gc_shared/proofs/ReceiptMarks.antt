-- Lemmas about receipts that stand, and about the marks of their places.
use Rattle.std.proofs.lemmas.Grind.{common_steps}
use Rattle.std.proofs.Common.{◌≡◌, ◌≢◌, ℕ, zero, suc, ◌+◌, ◌<◌, ◌≤◌, ◌==◌, Bool, true, false, cond, List, [], ◌∷◌, ◌++◌, length, take, map, get_or, set, refl, ap, ◌∙◌, arith, count_by, All, add-one, ⊎_elim}
use Rattle.std.proofs.lemmas.List.{take_more}
use Rattle.std.specs.List.Sorted.{IsStrictlyIncreasing}
use Rattle.std.proofs.lemmas.Bool.{cases_eq, cases_Bool}
use Rattle.std.proofs.lemmas.Option.{slice_get_within}
use Rattle.std.proofs.lemmas.Bool.Decides.{nat_tests}
use Rattle.std.proofs.lemmas.List.Sums.{sum_by-append, sum_by-cons, sum_by-set, count_by-le-length}
use Rattle.gc_world.specs.declared.entry.Entry.{Entry}
use Rattle.gc_shared.specs.declared.seat.Receipt.{Receipt}
use Rattle.gc_shared.specs.Seats.{SeatValue}
use Rattle.gc_shared.specs.Receipts.{IsRecorded, times_at}
use Rattle.gc_shared.specs.Closing.{Stands, AllStand, IsFirstTorn, SeatsStand, receipts_of, receipts_below}
use Rattle.gc_shared.specs.Internal.Marks.{floor_of, IsMarked, IsFree, AgreeByNumber}

floor_of-snoc : (low : ℕ) (rs : List Receipt) (r : Receipt) → floor_of low (rs ++ r ∷ []) ≡ r.place + 1
floor_of-snoc low [] r = refl
floor_of-snoc low (q ∷ rs) r = floor_of-snoc (q.place + 1) rs r

-- one more receipt stands
AllStand-snoc : (history : List Entry) (earlier : List Receipt) (low : ℕ) (rs : List Receipt) (r : Receipt) → AllStand history earlier low rs → Stands history earlier (floor_of low rs) r → AllStand history earlier low (rs ++ r ∷ [])
AllStand-snoc history earlier low [] r all one = (one, tt)
AllStand-snoc history earlier low (q ∷ rs) r all one = (all.0, AllStand-snoc history earlier (q.place + 1) rs r all.1 one)

-- the last of receipts that stand is at or above the floor of those before it
last_stands : (history : List Entry) (earlier : List Receipt) (low : ℕ) (rs : List Receipt) (r : Receipt) → AllStand history earlier low (rs ++ r ∷ []) → Stands history earlier (floor_of low rs) r
last_stands history earlier low [] r all = all.0
last_stands history earlier low (q ∷ rs) r all = last_stands history earlier (q.place + 1) rs r all.1

floor_above : (history : List Entry) (earlier : List Receipt) (low : ℕ) (rs : List Receipt) → AllStand history earlier low rs → low ≤ floor_of low rs
floor_above history earlier low [] all = omega arith
floor_above history earlier low (q ∷ rs) all = omega (arith, all.0.1, floor_above history earlier (q.place + 1) rs all.1)

pub times_at-append : (p : ℕ) (xs ys : List Receipt) → times_at p (xs ++ ys) ≡ times_at p xs + times_at p ys
times_at-append p xs ys = sum_by-append (λ r. cond (r.place == p) 1 0) xs ys

times_at-one : (p : ℕ) (r : Receipt) → r.place ≡ p → times_at p (r ∷ []) ≡ 1
times_at-one p r e = grind (arith, nat_tests)

times_at-other : (p : ℕ) (r : Receipt) → r.place ≢ p → times_at p (r ∷ []) ≡ 0
times_at-other p r e = grind (arith, nat_tests)

-- no receipt of a seat has a place above that of the last receipt
none_at : (history : List Entry) (earlier : List Receipt) (low : ℕ) (rs : List Receipt) (p : ℕ) → AllStand history earlier low rs → floor_of low rs ≤ p → times_at p rs ≡ 0
none_at history earlier low [] p all above = refl
none_at history earlier low (q ∷ rs) p all above = grind (arith, common_steps, floor_above, times_at-append, times_at-other, none_at history earlier (q.place + 1) rs p all.1 above)

-- the places of receipts that stand rise, and the first is at or above `low`
pub rising : (history : List Entry) (earlier : List Receipt) (low : ℕ) (rs : List Receipt) → AllStand history earlier low rs → IsStrictlyIncreasing (map (λ r. r.place) rs)
rising history earlier low [] all k lt = absurd (omega arith)
rising history earlier low (q ∷ []) all k lt = absurd (omega arith)
rising history earlier low (q ∷ (r ∷ rs)) all zero lt = omega (arith, all.1.0.1)
rising history earlier low (q ∷ (r ∷ rs)) all (suc k) lt = let rest = rising history earlier (q.place + 1) (r ∷ rs) all.1 k (omega arith) in rw add-one (rw add-one at rest)

pub all_recorded : (history : List Entry) (earlier : List Receipt) (low : ℕ) (rs : List Receipt) → AllStand history earlier low rs → All (IsRecorded history) rs
all_recorded history earlier low [] all k d lt = absurd (omega arith)
all_recorded history earlier low (q ∷ rs) all zero d lt = all.0.0
all_recorded history earlier low (q ∷ rs) all (suc k) d lt = all_recorded history earlier (q.place + 1) rs all.1 k d (omega arith)

-- one more mark
marked_more : (marks : List Bool) (rs : List Receipt) (r : Receipt) → r.place < length marks → get_or marks r.place false ≡ false → IsMarked marks rs → IsMarked (set marks r.place true) (rs ++ r ∷ [])
marked_more marks rs r lt free is = grind (arith, common_steps, times_at-append, times_at-one, times_at-other, cases_eq, sum_by-set)

here_or_behind : {X : Type 0} (p : X → Bool) (x : X) (xs : List X) (k : ℕ) (d : X) → p x ≡ true → ((i : ℕ) (e : X) → i < length xs → p (get_or xs i e) ≡ true) → k < length (x ∷ xs) → p (get_or (x ∷ xs) k d) ≡ true
here_or_behind p x xs k d first others lt = grind (arith, common_steps)

-- if the number of elements that pass a test is the number of all elements, every element passes
pub every_counted : {X : Type 0} (p : X → Bool) (xs : List X) → count_by p xs ≡ length xs → (k : ℕ) (d : X) → k < length xs → p (get_or xs k d) ≡ true
every_counted p [] all k d lt = absurd (omega arith)
every_counted p (x ∷ xs) all k d lt = grind (arith, common_steps, count_by-le-length, sum_by-cons, ⊎_elim, here_or_behind, cases_Bool, every_counted p xs)

-- a receipt at a free place stands, if the marks are those of the earlier seats and of the seat's earlier receipts
stands_if_free : (history : List Entry) (earlier before : List Receipt) (marks : List Bool) (r : Receipt) → IsMarked marks (earlier ++ before) → r.place < length marks → IsFree history marks (floor_of 0 before) r → Stands history earlier (floor_of 0 before) r
stands_if_free history earlier before marks r is lt free = grind (arith, common_steps, times_at-append)

zero_false : (b : Bool) → ◌≡◌ {A = ℕ} (cond b 1 0) 0 → b ≡ false
zero_false b e = grind (arith, common_steps)

free_if_stands : (history : List Entry) (earlier before : List Receipt) (marks : List Bool) (r : Receipt) → AllStand history earlier 0 before → IsMarked marks (earlier ++ before) → length marks ≡ length history → Stands history earlier (floor_of 0 before) r → IsFree history marks (floor_of 0 before) r
free_if_stands history earlier before marks r all is len stands = record {
  recorded = stands.0;
  above = stands.1;
  free =
      let lt : r.place < length marks = omega (arith, len, slice_get_within history r.place _ stands.0) in
      zero_false _ (omega (arith, is.once r.place lt, times_at-append r.place earlier before, stands.2, none_at history earlier 0 before r.place all stands.1));
}

-- a step of the loop: the receipt at n is free
pub record Step (history : List Entry) (earlier rs : List Receipt) (marks : List Bool) (n place : ℕ) : Type 0 where
  pub low : place + 1 ≡ floor_of 0 (take (n + 1) rs)
  pub stand : AllStand history earlier 0 (take (n + 1) rs)
  pub marked : IsMarked (set marks place true) (earlier ++ take (n + 1) rs)

pub step : (history : List Entry) (earlier rs : List Receipt) (marks : List Bool) (low n : ℕ) (r : Receipt) → n < length rs → r ≡ get_or rs n r → low ≡ floor_of 0 (take n rs) → AllStand history earlier 0 (take n rs) → IsMarked marks (earlier ++ take n rs) → r.place < length marks → IsFree history marks low r → Step history earlier rs marks n r.place
step history earlier rs marks low n r lt at is all marked within free = grind (arith, common_steps, take_more, floor_of-snoc, AllStand-snoc, stands_if_free, marked_more)

-- the receipt at n is the first that does not stand
pub torn_here : (history : List Entry) (earlier rs : List Receipt) (marks : List Bool) (low n : ℕ) (r : Receipt) → n < length rs → r ≡ get_or rs n r → length marks ≡ length history → low ≡ floor_of 0 (take n rs) → AllStand history earlier 0 (take n rs) → IsMarked marks (earlier ++ take n rs) → (IsFree history marks low r → ⊥) → IsFirstTorn history earlier rs n
torn_here history earlier rs marks low n r lt at len is all marked taken = grind (arith, common_steps, take_more, last_stands, free_if_stands)

-- if all receipts stand and every place is marked, the receipts agree
pub agrees : (history : List Entry) (seats : List SeatValue) (count : ℕ) (marks : List Bool) → SeatsStand history seats count → IsMarked marks (receipts_below seats count) → length marks ≡ length history → length history ≤ count_by (λ b. b) marks → AgreeByNumber history seats count
agrees history seats count marks stand marked len full = record {
  recorded = λ s lt. all_recorded history (receipts_below seats s) 0 (receipts_of seats s) (stand s lt);
  rising = λ s lt. rising history (receipts_below seats s) 0 (receipts_of seats s) (stand s lt);
  once = λ p lt.
      let whole : count_by (λ b. b) marks ≡ length marks = omega (arith, count_by-le-length (λ b. b) marks) in
      let lt' : p < length marks = omega arith in
      marked.once p lt' ∙ ap (λ (b : Bool). let n : ℕ = cond b 1 0 in n) (every_counted (λ (b : Bool). b) marks whole p false lt');
}
