-- Calls that are bounded keep up as well: each either performs all that is due, or as much as its bound.
use Rattle.std.proofs.lemmas.Grind.{common_steps}
use Rattle.std.proofs.lemmas.Bool.{cases_lt, cond_both, leb-true}
use Rattle.std.proofs.lemmas.Nat.{mul-le}
use Rattle.std.proofs.Math.Nat.{le_of_mul-le-mul_right}
use Rattle.std.proofs.Common.{◌≡◌, ◌⊎◌, inl, inr, ℕ, zero, suc, ◌+◌, ◌-◌, ◌*◌, ◌<◌, ◌≤◌, Bool, true, false, List, [], ◌∷◌, Option, Some, None, refl, ap, sym, ◌∙◌, subst, arith}
use Rattle.std.specs.Prelude.{IsTrue, is_some}
use Rattle.std.specs.Option.{option_map_or}
use Rattle.gc_graph.specs.declared.command.Op.{Op}
use Rattle.gc_graph.specs.Machine.{Roomy}
use Rattle.gc_model.specs.State.{Collection, State, heap_end, new_end}
use Rattle.gc_model.specs.Belonging.{IsState}
use Rattle.gc_model.specs.Progress.{entries_left, work_left}
use Rattle.gc_model.specs.Steps.{collect, mutate}
use Rattle.gc_model.specs.declared.step.StepReply.{StepReply}
use Rattle.gc_model.proofs.Public.{ends_grow, ends_within}
use Rattle.gc_collected.specs.Collected.{Collected}
use Rattle.gc_pace.specs.Counts.{counts_in}
use Rattle.gc_pace.specs.Work.{IsRun, after_useful, end_in, goes_on, has_flipped, is_over, sized_step, units, useful_reply, words_copied}
use Rattle.gc_pace.specs.Pace.{CountsAll, HasEnded, IsPacedWork, WorkGoesOn, owed_after, spent, steps_due, steps_left, took_its_words, units_left, units_of}
use Rattle.gc_pace.specs.Turns.{Turn, ArePacedCalls, AreCommands, FindsRoom, HaveTaken, IsPacedCall, Remembers, TakeAtMost, after_commands, after_turns, unpaid}
use Rattle.gc_pace.specs.declared.counts.Counts.{Counts}
use Rattle.gc_pace.specs.declared.pace.Pace.{Pace}
use Rattle.gc_pace.specs.declared.work.Work.{Work}
use Rattle.gc_pace.proofs.KeepsUp.{Same, all_due, call_same, commands_size, turn_keeps_up}
use Rattle.gc_pace.proofs.Left.{end_at, entries_low, logged_all, logged_low, units_rise}
use Rattle.gc_pace.proofs.PacedCalls.{call_done, on_of}
use Rattle.gc_pace.proofs.Turns.{IsRaised, call_keeps, call_remembers, raised}
use Rattle.gc_pace.proofs.Waiting.{IsOpen, run_open, stays_open}

-- ---- the words that have no replica yet

abbrev pub uncopied : State → ℕ
uncopied s = heap_end s - end_in s

uncopied_low : (s : State) → uncopied s < work_left s
uncopied_low s = grind (arith, common_steps)

-- the new space ends within the words in use
end_within : (s : State) → IsState s → end_in s ≤ heap_end s
end_within s h = go s.collection refl
  where
    room : 1 ≤ heap_end s
    room = omega (arith, h.heap.room)

    go : (o : Option Collection) → s.collection ≡ o → end_in s ≤ heap_end s
    go None e = grind (arith, common_steps, room)
    go (Some c) e = grind (arith, common_steps, ends_within s c h e)

-- a begin opens a space without replicas
idle_ends : (s : State) → s.collection ≡ None → end_in s ≤ end_in (collect s (sized_step None s)).1
idle_ends s e = grind (arith, common_steps)

open_ends : (s t : State) (c : Collection) (o : Option Collection) → s.collection ≡ Some c → t.collection ≡ o → ((d : Collection) → t.collection ≡ Some d → new_end c ≤ new_end d) → IsOpen t → end_in s ≤ end_in t
open_ends s t c None at is f still = absurd (let no : false ≡ true = ap is_some (sym is) ∙ still in cc)
open_ends s t c (Some d) at is f still = grind (arith, common_steps, f d is)

-- a step that goes on moves the end only up
step_ends : (s : State) → goes_on (collect s (sized_step None s)).0 ≡ true → end_in s ≤ end_in (collect s (sized_step None s)).1
step_ends s on = go s.collection refl
  where
    go : (o : Option Collection) → s.collection ≡ o → end_in s ≤ end_in (collect s (sized_step None s)).1
    go None e = idle_ends s e
    go (Some c) e = open_ends s (collect s (sized_step None s)).1 c (collect s (sized_step None s)).1.collection e refl (λ d is. ends_grow s c d (sized_step None s) e is) (stays_open None s on)

steps_end : (n : ℕ) (s : State) → ((k : ℕ) → k < n → goes_on (useful_reply None k s) ≡ true) → end_in s ≤ end_in (after_useful None n s)
steps_end zero s on = omega arith
steps_end (suc n) s on =
    let before = steps_end n s (λ k less. on k (omega (arith, less))) in
    let one = step_ends (after_useful None n s) (on n (omega arith)) in
    omega (arith, before, one)

run_ends : (n : ℕ) (s t : State) (reply : StepReply) → IsRun None n s t reply → goes_on reply ≡ true → end_in s ≤ end_in t
run_ends n s t reply run on = subst (λ (x : State). end_in s ≤ end_in x) (sym run.state) (steps_end n s (λ k less. elim (cases_lt (suc k) n) [
  | inl early ↦ run.going k early
  | inr late ↦ (let some = run.some in let last : n - 1 ≡ k = omega (arith, less, late) in subst (λ j. goes_on (useful_reply None j s) ≡ true) last (ap goes_on (sym run.reply_is) ∙ on))
]))

-- commands place no replica
commands_end : (s : State) (commands : List (ℕ × Op)) → end_in (after_commands s commands) ≡ end_in s
commands_end s [] = refl
commands_end s (command ∷ rest) = commands_end (mutate s command.0 command.1).1 rest ∙ one_end
  where
    one_end : end_in (mutate s command.0 command.1).1 ≡ end_in s
    one_end = grind (arith, common_steps)

-- after a reply that goes on, the end is the collection's
copied_on : (s t : State) (reply : StepReply) → goes_on reply ≡ true → words_copied s t reply ≡ end_in t - end_in s
copied_on s t reply on = grind (arith, common_steps)

-- ---- what is left, in steps, looks and words, of which a bounded call takes as many as its bound

abbrev pub burden : Collected → ℕ
burden heap = units_left heap + uncopied heap.core + heap.roots_left

took_is : (before : Pace) (work : Work) → IsTrue (took_its_words before work) → (before.words ≤ units work) ⊎ ((2 * before.words ≤ work.looks) ⊎ (before.words ≤ work.copied))
took_is before work took = grind (arith, common_steps, leb-true)

-- a call that owes steps took its words
owes_took : (before : Pace) (due : ℕ) (work : Work) → 1 ≤ owed_after before due work → IsTrue (took_its_words before work)
owes_took before due work some = grind (arith, common_steps, cond_both)

pub quiet : (work : Work) → is_over work ≡ false → has_flipped work ≡ false
quiet work going = grind (arith, common_steps)

module _ (wanted : ℕ) (old new : Collected) (before after : Pace) (work : Work) (paced : IsPacedWork wanted old new before after work) (h : IsState old.core) (going : is_over work ≡ false) where
  -- the words that replicas took are fewer now
  copies : uncopied new.core + work.copied ≤ uncopied old.core
  copies =
      let done = call_done wanted old new before after work paced in
      let same = call_same wanted old new before after work paced going in
      let size : new.core.size ≡ old.core.size = same.1 in
      let free : new.core.heap.free ≡ old.core.heap.free = ap (λ (x : Roomy). x.free) same.0 in
      let low = end_within new.core (call_keeps wanted old new before after work paced h) in
      elim (cases_lt work.steps 1) [
        | inl none ↦
            let zero : work.steps ≡ 0 = omega (arith, none) in
            let state : uncopied new.core ≡ uncopied old.core = ap uncopied (done.none zero) in
            let copied = done.none_copied zero in
            omega (arith, state, copied)
        | inr some ↦
            let p = done.some some in
            let q = done.copied some in
            let on = on_of work p.0 p.2 going in
            let copied = q.2 ∙ copied_on old.core new.core q.0 (on_of work q.0 q.1 going) in
            let grows = run_ends work.steps old.core new.core p.0 p.1 on in
            omega (arith, size, free, low, copied, grows)
      ]

  -- so a call that took its words lowers the burden by its bound
  burden_falls : IsTrue (took_its_words before work) → burden new + before.words ≤ burden old
  burden_falls took =
      let units_fall = paced.falls going in
      let looks_fall = paced.looks.less (quiet work going) in
      let words_fall = copies in
      elim (took_is before work took) [
        | inl many ↦ omega (arith, many, units_fall, looks_fall, words_fall)
        | inr (inl many) ↦ omega (arith, many, units_fall, looks_fall, words_fall)
        | inr (inr many) ↦ omega (arith, many, units_fall, looks_fall, words_fall)
      ]

-- what commands add to the burden
burden_rises : (words entries looks : ℕ) (heap found : Collected) (commands : List (ℕ × Op)) → IsState heap.core → AreCommands heap.core.mutators commands → found.core ≡ after_commands heap.core commands
    → HaveTaken words entries looks heap found → burden found ≤ burden heap + (2 * words + entries + looks + units_of looks)
burden_rises words entries looks heap found commands h are is taken =
    let up = subst (IsRaised heap.core) (sym is) (raised heap.core commands h are) in
    let ends : end_in found.core ≡ end_in heap.core = ap end_in is ∙ commands_end heap.core commands in
    let size : found.core.size ≡ heap.core.size = ap (λ (x : State). x.size) is ∙ commands_size heap.core commands in
    let stored = units_rise heap.roots_left found.roots_left looks taken.stored in
    omega (arith, up.work, up.end, up.entries, taken.allocated, taken.logged, taken.stored, stored, ends, size, h.heap.room, up.state.heap.room)

-- ---- whether a collection is open

abbrev count_open : Option Collection → ℕ
count_open o = option_map_or (λ c. 1) o 0

open_in : (o : Option Collection) → 1 ≤ count_open o → is_some o ≡ true
open_in None some = absurd (omega (arith, some))
open_in (Some c) some = refl

closed_in : (o : Option Collection) → count_open o ≡ 0 → is_some o ≡ false
closed_in None none = refl
closed_in (Some c) none = absurd (omega (arith, none))

counted_open : (o : Option Collection) → is_some o ≡ true → 1 ≤ count_open o
counted_open None e = absurd cc
counted_open (Some c) e = omega arith

counted_closed : (o : Option Collection) → is_some o ≡ false → count_open o ≡ 0
counted_closed None e = refl
counted_closed (Some c) e = absurd cc

pub is_open : (h : Collected) → 1 ≤ (counts_in h).is_open → is_some h.core.collection ≡ true
is_open h some = open_in h.core.collection some

pub is_closed : (h : Collected) → (counts_in h).is_open ≡ 0 → is_some h.core.collection ≡ false
is_closed h none = closed_in h.core.collection none

counts_open : (h : Collected) → is_some h.core.collection ≡ true → 1 ≤ (counts_in h).is_open
counts_open h e = counted_open h.core.collection e

pub counts_closed : (h : Collected) → is_some h.core.collection ≡ false → (counts_in h).is_open ≡ 0
counts_closed h e = counted_closed h.core.collection e

-- commands open no collection and close none
pub commands_open : (s : State) (commands : List (ℕ × Op)) → is_some (after_commands s commands).collection ≡ is_some s.collection
commands_open s [] = refl
commands_open s (command ∷ rest) = commands_open (mutate s command.0 command.1).1 rest ∙ one_open
  where
    one_open : is_some (mutate s command.0 command.1).1.collection ≡ is_some s.collection
    one_open = grind (arith, common_steps)

-- an open collection stays open through a call that goes on, and one that the call begins is open after it
pub call_open : (wanted : ℕ) (old new : Collected) (before after : Pace) (work : Work) → IsPacedWork wanted old new before after work → is_over work ≡ false → IsOpen old.core ⊎ (1 ≤ work.steps) → IsOpen new.core
call_open wanted old new before after work paced going either =
    let done = call_done wanted old new before after work paced in
    elim (cases_lt work.steps 1) [
      | inl none ↦ elim either [
        | inl still ↦ subst IsOpen (sym (done.none (omega (arith, none)))) still
        | inr some ↦ absurd (omega (arith, none, some))
      ]
      | inr some ↦ (let p = done.some some in run_open None work.steps old.core new.core p.0 p.1 (on_of work p.0 p.2 going))
    ]

-- ---- numbers

-- a part of a proportion
in_part : (l m n f g : ℕ) → l ≤ m → l * f ≤ m * g → m ≤ n * f → l ≤ n * g
in_part l m n f g less then low = elim (cases_lt 0 f) [
  | inl some ↦ le_of_mul-le-mul_right {m = l} {n = n * g} {k = f} (
      let wide : m * g ≤ (n * f) * g = mul-le m g (n * f) g low (omega arith) in
      omega (arith, then, wide)) some
  | inr none ↦
      let zero_f : f ≡ 0 = omega (arith, none) in
      let flat : n * f ≡ 0 = ap (λ k. n * k) zero_f ∙ omega arith in
      omega (arith, flat, low, less)
]

-- twice the room, times `most`, for some words more
wider : (most words free later : ℕ) → free ≤ later + words → 2 * most * free ≤ 2 * most * later + 2 * most * words
wider most words free later low =
    let wide : 2 * most * free ≤ 2 * most * (later + words) = mul-le (2 * most) free (2 * most) (later + words) (omega arith) low in
    let same : 2 * most * (later + words) ≡ 2 * most * later + 2 * most * words = omega arith in
    omega (arith, wide, same)

-- no more steps are left than words in use and units
steps_low : (h : Collected) → steps_left (counts_in h) ≤ heap_end h.core + units_left h
steps_low h = omega (arith, end_at h.core, logged_low h.core, entries_low h.core)

due_low : (pace : Pace) (counts : Counts) (wanted : ℕ) → steps_due pace counts wanted ≤ steps_left counts
due_low pace counts wanted = grind (arith, common_steps, cond_both)

owed_low : (before : Pace) (due : ℕ) (work : Work) → owed_after before due work ≤ due
owed_low before due work = grind (arith, common_steps, cond_both)

-- ---- many turns

-- The work is at most so many times the room, but for the steps owed, and the burden at most twice as much, but for the looks. So few steps are owed.
pub record IsLight (most roots : ℕ) (heap : Collected) (pace : Pace) : Type 0 where
  pub work : unpaid heap pace ≤ most * heap.core.heap.free
  pub burden : burden heap ≤ 2 * most * heap.core.heap.free + roots
  pub owed : pace.owed ≤ (2 * most + 1) * heap.core.size + pace.words

-- without steps owed, the burden follows from the work
pub light_without_debt : (most roots : ℕ) (heap : Collected) (pace : Pace) → pace.owed ≡ 0 → heap.roots_left ≤ roots → unpaid heap pace ≤ most * heap.core.heap.free → IsLight most roots heap pace
light_without_debt most roots heap pace none few work = record {
  work = work;
  burden = (let low = uncopied_low heap.core in let twice : 2 * most * heap.core.heap.free ≡ most * heap.core.heap.free + most * heap.core.heap.free = omega arith in omega (arith, none, few, work, low, twice));
  owed = omega (arith, none);
}

module _ (most words entries looks roots : ℕ) where
  -- the numbers that a bound has to exceed, so that calls keep up
  abbrev pub IsEnough : ℕ → ℕ → Type 0
  IsEnough size bound = ((4 * most + 2) * words + entries + looks + units_of looks + roots < bound) × ((2 * most + 1) * size + 2 * bound ≤ 4294967295)

  -- what a light heap is when commands have run on it
  record Found (heap found : Collected) (pace : Pace) : Type 0 where
    pub state : IsState found.core
    pub size : found.core.size ≡ heap.core.size
    pub burden : burden found ≤ 2 * most * heap.core.heap.free + (2 * words + entries + looks + units_of looks + roots)
    pub steps : steps_left (counts_in found) ≤ (2 * most + 1) * heap.core.size + pace.words
    pub counted : CountsAll (counts_in found)
    pub few : pace.owed + spent pace (counts_in found) ≤ 4294967295

  found_light : (heap : Collected) (pace : Pace) (commands : List (ℕ × Op)) (found : Collected) → IsState heap.core → Remembers pace heap → IsLight most roots heap pace → IsEnough heap.core.size pace.words
      → AreCommands heap.core.mutators commands → found.core ≡ after_commands heap.core commands → HaveTaken words entries looks heap found → Found heap found pace
  found_light heap pace commands found h remembers light enough are is taken = record {
    state = up.state;
    size = size;
    burden = low;
    steps = omega (arith, steps_low found, low, fits, parts, split, enough.0, size, up.state.heap.room);
    counted = all;
    few = omega (arith, remembers.end, remembers.logged, remembers.roots, end_at heap.core, end_at found.core, logged_all found.core all, before, up.end, size, h.heap.room, up.state.heap.room, taken.allocated, taken.logged, stored, light.owed, enough.0, enough.1, split);
  }
    where
      up : IsRaised heap.core found.core
      up = subst (IsRaised heap.core) (sym is) (raised heap.core commands h are)

      size : found.core.size ≡ heap.core.size
      size = ap (λ (x : State). x.size) is ∙ commands_size heap.core commands

      stored : units_of found.roots_left ≤ units_of heap.roots_left + units_of looks
      stored = units_rise heap.roots_left found.roots_left looks taken.stored

      low : burden found ≤ 2 * most * heap.core.heap.free + (2 * words + entries + looks + units_of looks + roots)
      low = (let rises = burden_rises words entries looks heap found commands h are is taken in omega (arith, rises, light.burden))

      fits : 2 * most * heap.core.heap.free ≤ 2 * most * heap.core.size
      fits = mul-le (2 * most) heap.core.heap.free (2 * most) heap.core.size (omega arith) (omega (arith, h.heap.room))

      parts : (2 * most + 1) * heap.core.size ≡ 2 * most * heap.core.size + heap.core.size
      parts = omega arith

      split : (4 * most + 2) * words ≡ 4 * most * words + 2 * words
      split = omega arith

      all : CountsAll (counts_in found)
      all = omega (arith, logged_low found.core, entries_low found.core, low, fits, parts, split, enough.0, enough.1)

      before : (counts_in heap).logged ≡ entries_left heap.core
      before = grind (arith, common_steps, up.entries, logged_all found.core all, all)

  pub turn_light : (heap : Collected) (pace : Pace) (turn : Turn) → IsState heap.core → Remembers pace heap → is_some heap.core.collection ≡ true → IsPacedCall heap pace turn → pace.rate ≡ 0
      → IsEnough heap.core.size pace.words → HaveTaken words entries looks heap turn.found → turn.heap.roots_left ≤ roots
      → IsLight most roots heap pace → IsLight most roots turn.heap turn.pace
  turn_light heap pace turn h remembers still k rate enough taken low light = elim (cases_lt turn.pace.owed 1) [
    | inl none ↦ light_without_debt most roots turn.heap turn.pace (omega (arith, none)) low work
    | inr owes ↦ record {
      work = work;
      burden =
          let took = owes_took pace (steps_due pace (counts_in turn.found) turn.wanted) turn.work (omega (arith, owed, owes)) in
          let falls = burden_falls turn.wanted turn.found turn.heap pace turn.pace turn.work k.work found.state k.going took in
          let room = wider most words heap.core.heap.free turn.heap.core.heap.free (omega (arith, free, taken.allocated)) in
          let split : (4 * most + 2) * words ≡ 2 * most * words + 2 * words + 2 * most * words = omega arith in
          omega (arith, falls, found.burden, room, split, enough.0);
      owed = (let small = owed_low pace (steps_due pace (counts_in turn.found) turn.wanted) turn.work in let less = due_low pace (counts_in turn.found) turn.wanted in omega (arith, owed, small, less, found.steps, ap (λ n. (2 * most + 1) * n) size_then, words_then));
    }
  ]
    where
      found : Found heap turn.found pace
      found = found_light heap pace turn.commands turn.found h remembers light enough k.commands k.found taken

      open_then : 1 ≤ (counts_in turn.found).is_open
      open_then = counts_open turn.found (ap (λ (x : State). is_some x.collection) k.found ∙ commands_open heap.core turn.commands ∙ still)

      goes_on : WorkGoesOn turn.wanted (counts_in turn.found) pace turn.work
      goes_on = record { collecting = open_then; counted = found.counted; few = found.few; performed = k.performed open_then; going = k.going }

      owed : turn.pace.owed ≡ owed_after pace (steps_due pace (counts_in turn.found) turn.wanted) turn.work
      owed = ap (λ (p : Pace). p.owed) (k.work).pace

      words_then : turn.pace.words ≡ pace.words
      words_then = ap (λ (p : Pace). p.words) (k.work).pace

      same : Same turn.found.core turn.heap.core
      same = call_same turn.wanted turn.found turn.heap pace turn.pace turn.work k.work k.going

      free : turn.heap.core.heap.free ≡ turn.found.core.heap.free
      free = ap (λ (x : Roomy). x.free) same.0

      size_then : turn.heap.core.size ≡ heap.core.size
      size_then = same.1 ∙ found.size

      work : unpaid turn.heap turn.pace ≤ most * turn.heap.core.heap.free
      work =
          let up = turn_keeps_up heap pace turn h remembers (record { commands = k.commands; found = k.found; work = k.work; goes_on = goes_on }) (omega (arith, found.steps, enough.1)) rate in
          in_part (unpaid turn.heap turn.pace) (unpaid heap pace) most heap.core.heap.free turn.heap.core.heap.free up.0 up.1 light.work

  -- what holds between two calls while a collection is open
  record Stays (size bound : ℕ) (heap : Collected) (pace : Pace) : Type 0 where
    pub state : IsState heap.core
    pub remembers : Remembers pace heap
    pub still : is_some heap.core.collection ≡ true
    pub light : IsLight most roots heap pace
    pub size_is : heap.core.size ≡ size
    pub words_is : pace.words ≡ bound
    pub rate_is : pace.rate ≡ 0

  turns_light : (size bound : ℕ) (heap : Collected) (pace : Pace) (turns : List Turn) → IsEnough size bound → ArePacedCalls heap pace turns → TakeAtMost words entries looks roots heap turns → Stays size bound heap pace
      → (let last = after_turns heap pace turns in Stays size bound last.0 last.1)
  turns_light size bound heap pace [] enough k taken now = now
  turns_light size bound heap pace (turn ∷ turns) enough k taken now = turns_light size bound turn.heap turn.pace turns enough k.1 taken.3 (record {
    state = call_keeps turn.wanted turn.found turn.heap pace turn.pace turn.work (k.0).work (subst (IsRaised heap.core) (sym (k.0).found) (raised heap.core turn.commands now.state (k.0).commands)).state;
    remembers = call_remembers turn.wanted turn.found turn.heap pace turn.pace turn.work (k.0).work;
    still = call_open turn.wanted turn.found turn.heap pace turn.pace turn.work (k.0).work (k.0).going (inl (ap (λ (x : State). is_some x.collection) (k.0).found ∙ commands_open heap.core turn.commands ∙ now.still));
    light = turn_light heap pace turn now.state now.remembers now.still k.0 now.rate_is (omega (arith, enough.0, now.words_is), omega (arith, enough.1, now.words_is, sizes)) taken.0 taken.2 now.light;
    size_is = (call_same turn.wanted turn.found turn.heap pace turn.pace turn.work (k.0).work (k.0).going).1 ∙ ap (λ (x : State). x.size) (k.0).found ∙ commands_size heap.core turn.commands ∙ now.size_is;
    words_is = ap (λ (p : Pace). p.words) ((k.0).work).pace ∙ now.words_is;
    rate_is = ap (λ (p : Pace). p.rate) ((k.0).work).pace ∙ now.rate_is;
  })
    where
      sizes : (2 * most + 1) * heap.core.size ≡ (2 * most + 1) * size
      sizes = ap (λ n. (2 * most + 1) * n) now.size_is

  -- ---- a call that finds no more room than it wants

  pub light_call : (heap : Collected) (pace : Pace) → IsState heap.core → Remembers pace heap → IsLight most roots heap pace → IsEnough heap.core.size pace.words → FindsRoom words entries looks heap pace
  light_call heap pace h remembers light enough commands wanted found new after work are is taken wants paced = elim (cases_lt wanted found.core.heap.free) [
    | inl room ↦ inl room
    | inr none ↦ elim (paced.enough now.counted (all_due pace (counts_in found) wanted none (omega (arith, now.steps, enough.1)))) [
      | inl ended ↦ inr ended
      | inr took ↦ ended none took (is_over work) refl
    ]
  ]
    where
      now : Found heap found pace
      now = found_light heap pace commands found h remembers light enough are is taken

      small : found.core.heap.free ≤ wanted → burden found < pace.words
      small none =
          let room = wider most (2 * words) heap.core.heap.free 0 (omega (arith, taken.allocated, none, wants)) in
          let split : (4 * most + 2) * words ≡ 2 * most * (2 * words) + 2 * words = omega arith in
          let flat : 2 * most * 0 ≡ 0 = omega arith in
          omega (arith, now.burden, room, split, flat, enough.0)

      ended : found.core.heap.free ≤ wanted → IsTrue (took_its_words pace work) → (b : Bool) → is_over work ≡ b → (wanted < (counts_in found).free) ⊎ HasEnded new.core work
      ended none took true over = inr (inl over)
      ended none took false going = absurd (let falls = burden_falls wanted found new pace after work paced now.state going took in let low = small none in omega (arith, falls, low))

-- After turns of bounded calls, a call finds more room than it wants or ends the collection.
pub bounded_room : (heap : Collected) (pace : Pace) (turns : List Turn) (most words entries looks roots : ℕ) → IsState heap.core → 1 ≤ (counts_in heap).is_open → Remembers pace heap → ArePacedCalls heap pace turns → TakeAtMost words entries looks roots heap turns
    → pace.rate ≡ 0 → pace.owed ≡ 0 → (2 * most + 1) * heap.core.size + 2 * pace.words ≤ 4294967295 → units_left heap ≤ most * heap.core.heap.free → heap.roots_left ≤ roots
    → (4 * most + 2) * words + entries + looks + units_of looks + roots < pace.words
    → (let last = after_turns heap pace turns in FindsRoom words entries looks last.0 last.1)
bounded_room heap pace turns most words entries looks roots h still remembers k taken rate none small low few bound =
    let first = light_without_debt most roots heap pace none few (omega (arith, low)) in
    let last = turns_light most words entries looks roots heap.core.size pace.words heap pace turns (bound, small) k taken
    (record { state = h; remembers = remembers; still = is_open heap still; light = first; size_is = refl; words_is = refl; rate_is = rate }) in
    light_call most words entries looks roots (after_turns heap pace turns).0 (after_turns heap pace turns).1 last.state last.remembers last.light (omega (arith, bound, last.words_is), omega (arith, small, last.words_is, ap (λ n. (2 * most + 1) * n) last.size_is))
