-- The entries of a history that come from a seat are those on its receipts.
use Rattle.std.proofs.lemmas.Grind.{common_steps}
use Rattle.std.proofs.Common.{◌≡◌, ◌≢◌, ℕ, zero, suc, ◌+◌, ◌-◌, ◌<◌, ◌≤◌, ◌==◌, Bool, true, false, cond, List, [], ◌∷◌, length, map, filter, get_or, slice_get, Some, refl, sym, ap, ◌∙◌, arith, add-one, add-zero, zero-add, All, subst, ⊎_elim, eqb}
use Rattle.std.specs.List.{find}
use Rattle.std.specs.List.Sorted.{IsStrictlyIncreasing}
use Rattle.std.proofs.lemmas.Bool.{cases_eq, cases_lt, cases_Bool, eq-eqb, false≢true}
use Rattle.std.proofs.lemmas.Bool.Decides.{eqb_tells}
use Rattle.std.proofs.lemmas.List.{length-map}
use Rattle.std.proofs.lemmas.List.Sums.{sum_by-cons}
use Rattle.std.proofs.lemmas.Option.{get_or_from_slice_get}
use Rattle.gc_graph.specs.declared.command.Op.{Op}
use Rattle.gc_model.specs.declared.event.Event.{Event}
use Rattle.gc_model.specs.declared.event.Event.TheVariants.{Mutate, Collect}
use Rattle.gc_model.specs.declared.event.Answer.{Answer}
use Rattle.gc_model.specs.declared.event.Answer.TheVariants.{Collector}
use Rattle.gc_model.specs.declared.step.Step.{Step}
use Rattle.gc_model.specs.declared.step.Step.TheVariants.{Roots}
use Rattle.gc_model.specs.declared.step.StepReply.TheVariants.{Idle}
use Rattle.gc_world.specs.declared.entry.Entry.{Entry}
use Rattle.gc_world.specs.World.{entry_of}
use Rattle.gc_shared.specs.declared.seat.Receipt.{Receipt}
use Rattle.gc_shared.specs.Seats.{SeatValue}
use Rattle.gc_shared.specs.Closing.{receipts_of, receipts_below}
use Rattle.gc_shared.specs.Receipts.{times_at}
use Rattle.gc_shared.specs.Internal.Marks.{AgreeByNumber}
use Rattle.gc_shared.proofs.ReceiptMarks.{times_at-append}
use Rattle.gc_shared.specs.Scripts.{IsUsefulStep}

abbrev pub entry_on : Receipt → Entry
entry_on r = r.entry

abbrev mark : Bool → ℕ
mark b = cond b 1 0

-- the places of the receipts rise from `low`, and each receipt has the entry at its place in a history that starts at
-- place o
abbrev Fits : ℕ → ℕ → List Entry → List Receipt → Type 0
Fits low o h [] = Unit {0}
Fits low o h (r ∷ rs) = (low ≤ r.place) × (slice_get h (r.place - o) ≡ Some (entry_on r)) × Fits (r.place + 1) o h rs

times_at-cons : (p : ℕ) (r : Receipt) (rs : List Receipt) → times_at p (r ∷ rs) ≡ cond (r.place == p) 1 0 + times_at p rs
times_at-cons p r rs = sum_by-cons (λ q. cond (q.place == p) 1 0) r rs

times_at-here : (p : ℕ) (r : Receipt) (rs : List Receipt) → r.place ≡ p → times_at p (r ∷ rs) ≡ 1 + times_at p rs
times_at-here p r rs e = times_at-cons p r rs ∙ ap (λ (b : Bool). cond b 1 0 + times_at p rs) (eq-eqb r.place p e)

times_at-not : (p : ℕ) (r : Receipt) (rs : List Receipt) → r.place ≢ p → times_at p (r ∷ rs) ≡ times_at p rs
times_at-not p r rs ne = grind (arith, common_steps, times_at-cons, eqb_tells)

none_below : (low o : ℕ) (h : List Entry) (rs : List Receipt) (p : ℕ) → Fits low o h rs → p < low → times_at p rs ≡ 0
none_below low o h [] p fits lt = refl
none_below low o h (r ∷ rs) p fits lt = times_at-not p r rs (λ e. absurd (omega arith)) ∙ none_below (r.place + 1) o h rs p fits.2 (omega (arith, fits.0))

slice_get-tail : (e : Entry) (es : List Entry) (p o : ℕ) → o + 1 ≤ p → slice_get (e ∷ es) (p - o) ≡ slice_get es (p - (o + 1))
slice_get-tail e es p o le = let up : p - o ≡ suc (p - (o + 1)) = omega arith in rw up refl

shift : (low o : ℕ) (e : Entry) (es : List Entry) (rs : List Receipt) → o + 1 ≤ low → Fits low o (e ∷ es) rs → Fits low (o + 1) es rs
shift low o e es [] le fits = tt
shift low o e es (r ∷ rs) le fits = grind (arith, common_steps, slice_get-tail, shift (r.place + 1) o e es rs (omega (arith, le, fits.0)) fits.2)

module _ (T : Event → Bool) (d : Entry) where
  -- each place of a history that starts at place o is on one receipt if its event passes the test, otherwise on none
  abbrev Counts : ℕ → List Entry → List Receipt → Type 0
  Counts o h rs = (i : ℕ) → i < length h → times_at (o + i) rs ≡ mark (T (get_or h i d).event)

  -- the counts for the rest of the history, if the other receipts have the same places there
  rest_counts : (o : ℕ) (e : Entry) (es : List Entry) (rs ss : List Receipt) → ((p : ℕ) → o + 1 ≤ p → times_at p ss ≡ times_at p rs) → Counts o (e ∷ es) rs → Counts (o + 1) es ss
  rest_counts o e es rs ss same counts i lt =
      let next : o + suc i ≡ o + 1 + i = omega arith in
      same (o + 1 + i) (omega arith) ∙ (rw next at (counts (suc i) (omega arith)))

  abbrev Rest : ℕ → List Entry → Type 0
  Rest o es = (ss : List Receipt) → Fits o o es ss → Counts o es ss → map entry_on ss ≡ filter (λ e. T e.event) es

  taken : (o : ℕ) (e : Entry) (es : List Entry) (rs : List Receipt) → Rest (o + 1) es → Fits o o (e ∷ es) rs → Counts o (e ∷ es) rs → T e.event ≡ true → map entry_on rs ≡ e ∷ filter (λ e. T e.event) es
  taken o e es [] ih fits counts passes =
      let none : 0 ≡ mark (T e.event) = counts 0 (omega arith) in
      let one : mark (T e.event) ≡ 1 = ap mark passes in
      absurd (omega arith)
  taken o e es (r ∷ rs) ih fits counts passes =
      let first : times_at o (r ∷ rs) ≡ mark (T e.event) = subst (λ (p : ℕ). times_at p (r ∷ rs) ≡ mark (T e.event)) (add-zero o) (counts 0 (omega arith)) in
      let one : mark (T e.event) ≡ 1 = ap mark passes in
      let here : r.place ≡ o =
      ⊎_elim
      (λ (is : r.place ≡ o). is)
      (λ (ne : r.place ≢ o).
      let up : o + 1 ≤ r.place = omega (arith, fits.0) in
      let none = none_below (o + 1) o (e ∷ es) (r ∷ rs) o (up, fits.1, fits.2) (omega arith) in
      absurd (omega (arith, none)))
      (cases_eq r.place o)
      in
      let at_front : r.place - o ≡ 0 = omega arith in
      let same : Some e ≡ Some (entry_on r) = rw at_front at fits.1 in
      let after : Fits (o + 1) o (e ∷ es) rs = rw here at fits.2 in
      let tail = ih rs (shift (o + 1) o e es rs (omega arith) after) (rest_counts o e es (r ∷ rs) rs (λ p le. let ne : r.place ≢ p = λ is. absurd (omega (arith, here, is, le)) in sym (times_at-not p r rs ne)) counts) in
      cc

  left : (o : ℕ) (e : Entry) (es : List Entry) (rs : List Receipt) → Rest (o + 1) es → Fits o o (e ∷ es) rs → Counts o (e ∷ es) rs → T e.event ≡ false → map entry_on rs ≡ filter (λ e. T e.event) es
  left o e es [] ih fits counts fails = ih [] tt (rest_counts o e es [] [] (λ p le. refl) counts)
  left o e es (r ∷ rs) ih fits counts fails =
      let ne : r.place ≢ o = λ is. absurd (omega (arith, subst (λ (p : ℕ). times_at p (r ∷ rs) ≡ mark (T e.event)) (add-zero o) (counts 0 (omega arith)), ap mark fails, times_at-here o r rs is)) in
      ih (r ∷ rs) (shift (o + 1) o e es (r ∷ rs) (omega arith) (omega (arith, fits.0), fits.1, fits.2)) (rest_counts o e es (r ∷ rs) (r ∷ rs) (λ p le. refl) counts)

  select : (o : ℕ) (h : List Entry) (rs : List Receipt) → Fits o o h rs → Counts o h rs → map entry_on rs ≡ filter (λ e. T e.event) h
  select o [] [] fits counts = refl
  select o [] (r ∷ rs) fits counts = let fails = fits.1 in cc
  select o (e ∷ es) rs fits counts =
      ⊎_elim
      (λ (passes : T e.event ≡ true). rw passes (taken o e es rs (λ ss f c. select (o + 1) es ss f c) fits counts passes))
      (λ (fails : T e.event ≡ false). rw fails (left o e es rs (λ ss f c. select (o + 1) es ss f c) fits counts fails))
      (cases_Bool (T e.event))

-- a receipt with this place, and a fact that holds of all receipts
found : (P : Receipt → Type 0) (p : ℕ) (rs : List Receipt) → All P rs → 0 < times_at p rs → (r : Receipt) × P r × (r.place ≡ p)
found P p [] all some = absurd (omega arith)
found P p (q ∷ rs) all some =
    ⊎_elim
    (λ (e : q.place ≡ p). (q, all 0 q (omega arith), e))
    (λ (ne : q.place ≢ p). found P p rs (λ k d lt. all (suc k) d (omega arith)) (omega (arith, some, times_at-not p q rs ne)))
    (cases_eq q.place p)

-- the seat whose receipt has this place
owner : (seats : List SeatValue) (n p : ℕ) → 0 < times_at p (receipts_below seats n) → (t : ℕ) × (t < n) × (0 < times_at p (receipts_of seats t))
owner seats zero p some = absurd (omega arith)
owner seats (suc n) p some =
    ⊎_elim
    (λ (here : 0 < times_at p (receipts_of seats n)). (n, omega arith, here))
    (λ (not : times_at p (receipts_of seats n) ≤ 0).
    let rest = owner seats n p (omega (arith, some, not, times_at-append p (receipts_below seats n) (receipts_of seats n))) in (rest.0, omega (arith, rest.1), rest.2))
    (cases_lt 0 (times_at p (receipts_of seats n)))

part : (seats : List SeatValue) (n p t : ℕ) → t < n → times_at p (receipts_of seats t) ≤ times_at p (receipts_below seats n)
part seats zero p t lt = absurd (omega arith)
part seats (suc n) p t lt = grind (arith, common_steps, times_at-append, ⊎_elim, cases_eq, part seats n p t)

-- the receipts of a seat fit the history
fits_from : (h : List Entry) (rs : List Receipt) (low : ℕ) → IsStrictlyIncreasing (map (λ r. r.place) rs) → All (λ r. slice_get h r.place ≡ Some r.entry) rs → (0 < length rs → low ≤ get_or (map (λ r. r.place) rs) 0 0) → Fits low 0 h rs
fits_from h [] low rise same first = tt
fits_from h (r ∷ rs) low rise same first =
    let whole : r.place - 0 ≡ r.place = omega arith in (
      first (omega arith),
      rw whole (same 0 r (omega arith)),
      fits_from h rs (r.place + 1)
          (λ k lt. rw add-one (rw add-one at (rise (suc k) (omega (arith, lt)))))
          (λ k d lt. same (suc k) d (omega arith))
          (λ some. omega (arith, rise 0 (omega (arith, some, length-map rs (λ r. r.place))))),
    )

event_at : (history : List Entry) (i : ℕ) (d : Entry) (r : Receipt) → r.place ≡ i → slice_get history r.place ≡ Some r.entry → get_or history i d ≡ r.entry
event_at history i d r here same = ap (λ (k : ℕ). get_or history k d) (sym here) ∙ get_or_from_slice_get history r.place r.entry d same

-- if a test passes exactly the events of one seat, the entries of the history that pass it are those on the seat's
-- receipts
pub selected : (history : List Entry) (seats : List SeatValue) (count s : ℕ) (T : Event → Bool) → AgreeByNumber history seats count → s < count → All (λ r. T r.entry.event ≡ true) (receipts_of seats s) → ((t : ℕ) → t < count → t ≢ s → All (λ r. T r.entry.event ≡ false) (receipts_of seats t)) → map entry_on (receipts_of seats s) ≡ filter (λ e. T e.event) history
selected history seats count s T agree lt mine others =
    let rs = receipts_of seats s in
    let d : Entry = entry_of (Collect Roots) (Collector Idle) in
    select T d 0 history rs
    (fits_from history rs 0 (agree.rising s lt) (agree.recorded s lt) (λ some. omega arith))
    (λ i inside. rw (zero-add i) (
    let once = agree.once i inside in
    let most = part seats count i s lt in
    ⊎_elim
    (λ (passes : T (get_or history i d).event ≡ true).
    let by = owner seats count i (omega (arith, once)) in
    let one : times_at i rs ≡ 1 =
    ⊎_elim
    (λ (same : by.0 ≡ s). let here : 0 < times_at i rs = rw same at by.2 in omega (arith, once, most, here))
    (λ (other : by.0 ≢ s).
    let r = found (λ r. (slice_get history r.place ≡ Some r.entry) × (T r.entry.event ≡ false)) i (receipts_of seats by.0) (λ k e inside. (agree.recorded by.0 by.1 k e inside, others by.0 by.1 other k e inside)) by.2 in
    absurd (false≢true (sym r.1.1 ∙ (ap (λ (e : Entry). T e.event) (sym (event_at history i d r.0 r.2 r.1.0)) ∙ passes))))
    (cases_eq by.0 s)
    in
    one ∙ ap mark (sym passes))
    (λ (fails : T (get_or history i d).event ≡ false).
    let none : times_at i rs ≡ 0 =
    ⊎_elim
    (λ (some : 0 < times_at i rs).
    let r = found (λ r. (slice_get history r.place ≡ Some r.entry) × (T r.entry.event ≡ true)) i rs (λ k e inside. (agree.recorded s lt k e inside, mine k e inside)) some in
    absurd (false≢true (sym fails ∙ (ap (λ (e : Entry). T e.event) (event_at history i d r.0 r.2 r.1.0) ∙ r.1.1))))
    (λ (not : times_at i rs ≤ 0). omega arith)
    (cases_lt 0 (times_at i rs))
    in
    none ∙ ap mark (sym fails))
    (cases_Bool (T (get_or history i d).event))))

-- the seat at a place, if each seat's number is its place
find_place : (o : ℕ) (ts : List SeatValue) (k : ℕ) (d : SeatValue) → ((i : ℕ) (e : SeatValue) → i < length ts → (get_or ts i e).number ≡ o + i) → k < length ts → find (λ t. t.number == o + k) ts ≡ Some (get_or ts k d)
find_place o [] k d numbers lt = absurd (omega arith)
find_place o (t ∷ ts) zero d numbers lt = let is = eq-eqb t.number (o + 0) (numbers 0 t (omega arith)) in rw is refl
find_place o (t ∷ ts) (suc k) d numbers lt =
    let first : t.number ≡ o + 0 = numbers 0 t (omega arith) in
    let rest = find_place (o + 1) ts k d (λ i e inside. let next : o + suc i ≡ o + 1 + i = omega arith in (numbers (suc i) e (omega arith)) ∙ next) (omega arith) in
    let next : o + 1 + k ≡ o + suc k = omega arith in
    ⊎_elim
    (λ (same : (eqb t.number (o + suc k) ≡ true) × (t.number ≡ o + suc k)). absurd (omega (arith, first, same.1)))
    (λ (other : (eqb t.number (o + suc k) ≡ false) × (t.number ≢ o + suc k)). rw other.0 (rw next at rest))
    (eqb_tells t.number (o + suc k))

-- the receipts of the seat at a place, under the same condition
pub receipts_at : (ts : List SeatValue) (k : ℕ) (d : SeatValue) → ((i : ℕ) (e : SeatValue) → i < length ts → (get_or ts i e).number ≡ i) → k < length ts → receipts_of ts k ≡ (get_or ts k d).receipts
receipts_at ts k d numbers lt =
    let here' = rw (zero-add k) at (find_place 0 ts k d (λ i e inside. numbers i e inside ∙ sym (zero-add i)) lt) in
    rw here' refl

-- a fact about every command holds of each event of a seat that has played
pub played_all : (Q : Event → Type 0) (m : ℕ) (rs : List Receipt) (script : List Op) → ((op : Op) → Q (Mutate m op)) → map (λ r. r.entry.event) rs ≡ map (Mutate m) script → All (λ r. Q r.entry.event) rs
played_all Q m [] script each is k d lt = absurd (omega arith)
played_all Q m (r ∷ rs) [] each is k d lt = let z = is in cc
played_all Q m (r ∷ rs) (op ∷ ops) each is zero d lt = let e : r.entry.event ≡ Mutate m op = cc in subst Q (sym e) (each op)
played_all Q m (r ∷ rs) (op ∷ ops) each is (suc k) d lt = let rest : map (λ r. r.entry.event) rs ≡ map (Mutate m) ops = cc in played_all Q m rs ops each rest k d (omega arith)

-- a fact about every collector step holds of an event whose answer is marked `Useful`
pub useful_all : (Q : Event → Type 0) (e : Event) (a : Answer) → ((step : Step) → Q (Collect step)) → IsUsefulStep e a → Q e
useful_all Q e a each is = grind (arith, common_steps)
