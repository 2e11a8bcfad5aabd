-- Reports after one more answer, and bounds on their numbers.
use Rattle.std.proofs.lemmas.Grind.{common_steps}
use Rattle.std.proofs.Common.{◌≡◌, ℕ, suc, ◌+◌, ◌<◌, ◌≤◌, ◌^◌, List, [], ◌∷◌, ◌++◌, length, take, get_or, refl, ◌∙◌, ap, subst, arith}
use Rattle.std.specs.List.{sum_by}
use Rattle.std.proofs.lemmas.List.{length-append, length-map, map_more, take-map, length-take}
use Rattle.std.proofs.lemmas.List.Sums.{sum_by-append, sum_by-cons, sum_by-take-le}
use Rattle.gc_model.specs.declared.event.Answer.{Answer}
use Rattle.gc_model.specs.State.{State, opening_state, heap_end}
use Rattle.gc_model.specs.Runs as runs
use Rattle.gc_model.specs.declared.event.Event.{Event}
use Rattle.gc_world.specs.History.{unmarked, answers_of, IsHistory}
use Rattle.gc_world.specs.declared.entry.Entry.{Entry}
use Rattle.gc_trace.specs.declared.report.Report.{Report}
use Rattle.gc_trace.specs.Report.{counts_as, report_of}
use Rattle.gc_trace.specs.Internal.Report.{FitsU64, with_answer}
use Rattle.gc_trace.proofs.PairsPlaced.{flipped_pairs, few_pairs, run_places}

abbrev answer_of : Entry → Answer
answer_of entry = unmarked entry.answer

-- how many of the answers count there
abbrev total : (Report → ℕ) → List Answer → ℕ
total count answers = sum_by (λ answer. count (counts_as answer)) answers

-- one answer more adds what it counts as
total_push : (count : Report → ℕ) (answers : List Answer) (answer : Answer) → total count answers + count (counts_as answer) ≡ total count (answers ++ answer ∷ [])
total_push count answers answer = grind (arith, common_steps, sum_by-append)

pub report_push : (answers : List Answer) (answer : Answer) (s : State) → with_answer (report_of answers s) answer ≡ report_of (answers ++ answer ∷ []) s
report_push answers answer s = λ i. record {
  events = events i;
  made = total_push (λ (r : Report). r.made) answers answer i;
  full = total_push (λ (r : Report). r.full) answers answer i;
  begun = total_push (λ (r : Report). r.begun) answers answer i;
  copied = total_push (λ (r : Report). r.copied) answers answer i;
  scanned = total_push (λ (r : Report). r.scanned) answers answer i;
  applied = total_push (λ (r : Report). r.applied) answers answer i;
  flips = total_push (λ (r : Report). r.flips) answers answer i;
  pairs = total_push (λ (r : Report). r.pairs) answers answer i;
  dropped = total_push (λ (r : Report). r.dropped) answers answer i;
  refused = total_push (λ (r : Report). r.refused) answers answer i;
  end = heap_end s;
  free = s.heap.free;
}
  where
    events : length answers + 1 ≡ length (answers ++ answer ∷ [])
    events = omega (arith, length-append answers (answer ∷ []))

-- the end and the free words are not counted
pub with_end : (answers : List Answer) (s last : State) → report_of answers last ≡ record (report_of answers s) { end = heap_end last; free = last.heap.free }
with_end answers s last = refl

-- ---- bounds

-- no answer counts twice anywhere, but for its pairs
record IsOnce (answer : Answer) : Type 0 where
  made : (counts_as answer).made ≤ 1
  full : (counts_as answer).full ≤ 1
  begun : (counts_as answer).begun ≤ 1
  copied : (counts_as answer).copied ≤ 1
  scanned : (counts_as answer).scanned ≤ 1
  applied : (counts_as answer).applied ≤ 1
  flips : (counts_as answer).flips ≤ 1
  dropped : (counts_as answer).dropped ≤ 1
  refused : (counts_as answer).refused ≤ 1
  pairs : (counts_as answer).pairs ≡ flipped_pairs answer

is_once : (answer : Answer) → IsOnce answer
is_once answer = grind (arith, common_steps)

total_low : (count : Report → ℕ) (answers : List Answer) → ((answer : Answer) → count (counts_as answer) ≤ 1) → total count answers ≤ length answers
total_low count [] once = omega arith
total_low count (answer ∷ answers) once = omega (arith, once answer, total_low count answers once, sum_by-cons (λ a. count (counts_as a)) answer answers)

total_pairs : (answers : List Answer) → total (λ r. r.pairs) answers ≡ sum_by flipped_pairs answers
total_pairs [] = refl
total_pairs (answer ∷ answers) = omega (arith, (is_once answer).pairs, total_pairs answers, sum_by-cons (λ a. (counts_as a).pairs) answer answers, sum_by-cons flipped_pairs answer answers)

-- a history has no more pairs than events
pub few_in_report : (size mutators : ℕ) (entries : List Entry) (s : State) → IsHistory size mutators entries → (report_of (answers_of entries) s).pairs ≤ (report_of (answers_of entries) s).events
few_in_report size mutators entries s h =
    omega (arith, total_pairs (answers_of entries), few_pairs size mutators entries h)

-- ---- turns

-- before the first answer
pub none_counted : (r : Report) (end free : ℕ) (s : State) → r ≡ record { events = 0; made = 0; full = 0; begun = 0; copied = 0; scanned = 0; applied = 0; flips = 0; pairs = 0; dropped = 0; refused = 0; end = end; free = free }
    → end ≡ heap_end s → free ≡ s.heap.free → r ≡ report_of [] s
none_counted r end free s is same_end same_free = is ∙ cc

-- the first entry that is not yet counted
pub next_counted : (items : List Entry) (i : ℕ) (entry : Entry) (r : Report) (s : State) → i < length items → entry ≡ get_or items i entry → r ≡ report_of (answers_of (take i items)) s → with_answer r (answer_of entry) ≡ report_of (answers_of (take (i + 1) items)) s
next_counted items i entry r s lt is so_far = grind (arith, common_steps, report_push, map_more)

report_fits : (answers : List Answer) (s : State) → length answers < 2 ^ 64 → sum_by flipped_pairs answers < 2 ^ 64 → FitsU64 (report_of answers s)
report_fits answers s few few_pairs = (
  few,
  (
    low (λ r. r.made) (λ a. (is_once a).made),
    (
      low (λ r. r.full) (λ a. (is_once a).full),
      (
        low (λ r. r.begun) (λ a. (is_once a).begun),
        (
          low (λ r. r.copied) (λ a. (is_once a).copied),
          (
            low (λ r. r.scanned) (λ a. (is_once a).scanned),
            (
              low (λ r. r.applied) (λ a. (is_once a).applied),
              (
                low (λ r. r.flips) (λ a. (is_once a).flips),
                (omega (arith, few_pairs, total_pairs answers), (low (λ r. r.dropped) (λ a. (is_once a).dropped), (low (λ r. r.refused) (λ a. (is_once a).refused), tt))),
              ),
            ),
          ),
        ),
      ),
    ),
  ),
)
  where
    low : (count : Report → ℕ) → ((answer : Answer) → count (counts_as answer) ≤ 1) → total count answers < 2 ^ 64
    low count once = omega (arith, few, total_low count answers once)

-- a prefix of a history has no more answers or pairs
pub front_fits : (size mutators : ℕ) (items : List Entry) (i : ℕ) (s : State) → IsHistory size mutators items → length items < 2 ^ 64 → FitsU64 (report_of (answers_of (take i items)) s)
front_fits size mutators items i s h few =
    let answers = answers_of items in
    let front : take i answers ≡ answers_of (take i items) = take-map answer_of i items in
    let short : length (take i answers) < 2 ^ 64 = omega (arith, few, length-take i answers, length-map items answer_of) in
    let pairs : sum_by flipped_pairs (take i answers) < 2 ^ 64 = omega (arith, few, sum_by-take-le flipped_pairs answers i, few_pairs size mutators items h, length-map items answer_of) in
    subst (λ (answers : List Answer). FitsU64 (report_of answers s)) front (report_fits (take i answers) s short pairs)

-- a run has as many answers as events
told_count : (s : State) (events : List Event) → length (runs.answers s events) ≡ length events
told_count s [] = refl
told_count s (event ∷ events) = ap suc (told_count (runs.after s event) events)

-- a run from an empty heap has no more pairs than events
pub run_fits : (size mutators : ℕ) (events : List Event) (s : State) → length events < 2 ^ 64 → FitsU64 (report_of (runs.answers (opening_state size mutators) events) s)
run_fits size mutators events s few =
    let opening = opening_state size mutators in
    report_fits (runs.answers opening events) s (omega (arith, few, told_count opening events)) (omega (arith, few, run_places opening events))
