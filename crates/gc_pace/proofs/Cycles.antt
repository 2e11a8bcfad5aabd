-- From one flip to the next: a collection begins while there is room enough, and then bounded calls keep up.
use Rattle.std.proofs.lemmas.Grind.{common_steps}
use Rattle.std.proofs.lemmas.Bool.{cases_lt, cond-false, cond_both, eqb-true, ltb-true}
use Rattle.std.proofs.lemmas.Nat.{mul-le}
use Rattle.std.proofs.Math.Nat.{div-add-mod}
use Rattle.std.proofs.Common.{◌≡◌, ◌⊎◌, inl, inr, ℕ, ◌+◌, ◌*◌, ◌/◌, ◌%◌, ◌<◌, ◌≤◌, Bool, true, false, List, [], ◌∷◌, refl, ap, sym, ◌∙◌, subst, arith}
use Rattle.std.specs.Prelude.{is_some}
use Rattle.gc_graph.specs.declared.command.Op.{Op}
use Rattle.gc_graph.specs.Machine.{Roomy}
use Rattle.gc_model.specs.State.{State, heap_end}
use Rattle.gc_model.specs.Belonging.{IsState}
use Rattle.gc_collected.specs.Collected.{Collected}
use Rattle.gc_pace.specs.Counts.{counts_in}
use Rattle.gc_pace.specs.Pace.{HasEnded, owed_after, steps_due, units_of}
use Rattle.gc_pace.specs.Turns.{Turn, ArePacedCalls, AreCommands, FindsRoom, HasJustFlipped, HaveTaken, IsPacedCall, IsDefault, Remembers, TakeAtMost, after_commands, after_turns}
use Rattle.gc_pace.specs.Work.{has_flipped}
use Rattle.gc_pace.specs.declared.counts.Counts.{Counts}
use Rattle.gc_pace.specs.declared.pace.Pace.{Pace}
use Rattle.gc_pace.specs.declared.work.Work.{Work}
use Rattle.gc_pace.proofs.Bounded.{IsEnough, IsLight, call_open, commands_open, counts_closed, is_closed, light_call, light_without_debt, quiet, turn_light}
use Rattle.gc_pace.proofs.KeepsUp.{Same, call_same, commands_size}
use Rattle.gc_pace.proofs.Left.{end_at, units_rise}
use Rattle.gc_pace.proofs.Turns.{IsRaised, call_keeps, call_remembers, raised}
use Rattle.gc_pace.proofs.Waiting.{IsOpen}

-- ---- where no collection is open

half : (n : ℕ) → 2 * (n / 2) ≤ n
half n = let parts : 2 * (n / 2) + n % 2 ≡ n = div-add-mod n 2 in omega (arith, parts)

-- if nothing is due, no more than half of the room that the last flip left is used up
idle_low : (pace : Pace) (counts : Counts) (wanted : ℕ) → counts.is_open ≡ 0 → steps_due pace counts wanted ≡ 0 → 2 * counts.end ≤ pace.left + counts.size
idle_low pace counts wanted closed none = grind (arith, common_steps, half (pace.left + counts.size), eqb-true, ltb-true)

-- where there is room, one step is due at most
one_due : (pace : Pace) (counts : Counts) (wanted : ℕ) → counts.is_open ≡ 0 → wanted < counts.free → steps_due pace counts wanted ≤ 1
one_due pace counts wanted closed room = grind (arith, common_steps, eqb-true)

none_owed : (pace : Pace) (due : ℕ) (work : Work) → due ≤ 1 → 1 ≤ work.steps → owed_after pace due work ≡ 0
none_owed pace due work one some = grind (arith, common_steps, cond_both)

-- where so much is used at the begin, the work is at most `most` times the room
begins_light : (most left size words e f u : ℕ) → e + f ≡ size → 2 * e ≤ left + size + 2 * words → (most + 1) * (left + 2 * words) + 2 * u + size ≤ most * size → e + u ≤ most * f
begins_light most left size words e f u whole low fits =
    let wide : (most + 1) * (2 * e) ≤ (most + 1) * (left + size + 2 * words) = mul-le (most + 1) (2 * e) (most + 1) (left + size + 2 * words) (omega arith) low in
    let split : (most + 1) * (left + size + 2 * words) ≡ (most + 1) * (left + 2 * words) + most * size + size = omega arith in
    let parts : most * size ≡ most * e + most * f = ap (λ n. most * n) (sym whole) ∙ omega arith in
    let twice : (most + 1) * (2 * e) ≡ 2 * (most * e) + 2 * e = omega arith in
    omega (arith, wide, split, parts, twice, fits)

-- ---- one call

-- What holds between two calls, of a heap of this size, of which the last flip left this end.
record Fits (most roots left size bound : ℕ) (heap : Collected) (pace : Pace) : Type 0 where
  pub state : IsState heap.core
  pub remembers : Remembers pace heap
  pub size_is : heap.core.size ≡ size
  pub left_is : pace.left ≡ left
  pub words_is : pace.words ≡ bound
  pub rate_is : pace.rate ≡ 0
  pub looks : heap.roots_left ≤ roots
  pub waits : is_some heap.core.collection ≡ false → 2 * heap_end heap.core ≤ left + size
  pub light : is_some heap.core.collection ≡ true → IsLight most roots heap pace

module _ (most words entries looks roots left size bound : ℕ) (enough : IsEnough most words entries looks roots size bound)
    (fits : (most + 1) * (left + 2 * words) + 2 * (units_of roots + units_of looks) + size ≤ most * size) (roomy : left + 4 * words < size) where
  enough_here : (heap : Collected) (pace : Pace) → Fits most roots left size bound heap pace → IsEnough most words entries looks roots heap.core.size pace.words
  enough_here heap pace k = (omega (arith, enough.0, k.words_is), omega (arith, enough.1, k.words_is, ap (λ n. (2 * most + 1) * n) k.size_is))

  -- the end that a call finds while no collection is open
  found_end : (heap : Collected) (pace : Pace) (commands : List (ℕ × Op)) (found : Collected) → Fits most roots left size bound heap pace → AreCommands heap.core.mutators commands → found.core ≡ after_commands heap.core commands
      → HaveTaken words entries looks heap found → is_some found.core.collection ≡ false → 2 * heap_end found.core ≤ left + size + 2 * words
  found_end heap pace commands found k are is taken closed =
      let up = subst (IsRaised heap.core) (sym is) (raised heap.core commands k.state are) in
      let same : found.core.size ≡ heap.core.size = ap (λ (x : State). x.size) is ∙ commands_size heap.core commands in
      let before = k.waits (sym (ap (λ (x : State). is_some x.collection) is ∙ commands_open heap.core commands) ∙ closed) in
      omega (arith, before, up.end, same, taken.allocated, k.state.heap.room, up.state.heap.room)

  -- such a call finds more room than it wants
  found_room : (found : Collected) (wanted : ℕ) → IsState found.core → found.core.size ≡ size → 2 * heap_end found.core ≤ left + size + 2 * words → wanted ≤ words → wanted < found.core.heap.free
  found_room found wanted h same low wants = omega (arith, h.heap.room, same, low, wants, roomy)

  call_fits : (heap : Collected) (pace : Pace) (turn : Turn) → IsPacedCall heap pace turn → turn.wanted ≤ words → HaveTaken words entries looks heap turn.found → turn.heap.roots_left ≤ roots
      → Fits most roots left size bound heap pace → Fits most roots left size bound turn.heap turn.pace
  call_fits heap pace turn k wants taken low before = record {
    state = call_keeps turn.wanted turn.found turn.heap pace turn.pace turn.work k.work up.state;
    remembers = call_remembers turn.wanted turn.found turn.heap pace turn.pace turn.work k.work;
    size_is = same.1 ∙ size_found;
    left_is = left_stays ∙ before.left_is;
    words_is = ap (λ (p : Pace). p.words) (k.work).pace ∙ before.words_is;
    rate_is = ap (λ (p : Pace). p.rate) (k.work).pace ∙ before.rate_is;
    looks = low;
    waits = waits;
    light = from (is_some turn.found.core.collection) refl;
  }
    where
      up : IsRaised heap.core turn.found.core
      up = subst (IsRaised heap.core) (sym k.found) (raised heap.core turn.commands before.state k.commands)

      same : Same turn.found.core turn.heap.core
      same = call_same turn.wanted turn.found turn.heap pace turn.pace turn.work k.work k.going

      free : turn.heap.core.heap.free ≡ turn.found.core.heap.free
      free = ap (λ (x : Roomy). x.free) same.0

      size_found : turn.found.core.size ≡ size
      size_found = ap (λ (x : State). x.size) k.found ∙ commands_size heap.core turn.commands ∙ before.size_is

      left_stays : turn.pace.left ≡ pace.left
      left_stays = ap (λ (p : Pace). p.left) (k.work).pace ∙ cond-false (has_flipped turn.work) (counts_in turn.heap).end pace.left (quiet turn.work k.going)

      found_is : is_some turn.found.core.collection ≡ is_some heap.core.collection
      found_is = ap (λ (x : State). is_some x.collection) k.found ∙ commands_open heap.core turn.commands

      -- a call at which something is due leaves a collection open
      opened : (b : Bool) → is_some turn.found.core.collection ≡ b → 1 ≤ steps_due pace (counts_in turn.found) turn.wanted → IsOpen turn.heap.core
      opened true e some = call_open turn.wanted turn.found turn.heap pace turn.pace turn.work k.work k.going (inl e)
      opened false e some = call_open turn.wanted turn.found turn.heap pace turn.pace turn.work k.work k.going (inr (k.begins (counts_closed turn.found e) some))

      -- a call at which nothing is due leaves the heap
      idle : steps_due pace (counts_in turn.found) turn.wanted < 1 → turn.heap.core ≡ turn.found.core
      idle none = ((k.work).none (omega (arith, none))).0

      waits : is_some turn.heap.core.collection ≡ false → 2 * heap_end turn.heap.core ≤ left + size
      waits closed = elim (cases_lt (steps_due pace (counts_in turn.found) turn.wanted) 1) [
        | inl none ↦
            let still : is_some turn.found.core.collection ≡ false = sym (ap (λ (x : State). is_some x.collection) (idle none)) ∙ closed in
            let at = idle_low pace (counts_in turn.found) turn.wanted (counts_closed turn.found still) (omega (arith, none)) in
            omega (arith, at, free, same.1, end_at turn.found.core, before.left_is, size_found)
        | inr some ↦ absurd (let no : false ≡ true = sym closed ∙ opened (is_some turn.found.core.collection) refl some in cc)
      ]

      from : (b : Bool) → is_some turn.found.core.collection ≡ b → is_some turn.heap.core.collection ≡ true → IsLight most roots turn.heap turn.pace
      from true e is = let still = sym found_is ∙ e in
          turn_light most words entries looks roots heap pace turn before.state before.remembers still k before.rate_is (enough_here heap pace before) taken low (before.light still)
      from false e is = elim (cases_lt (steps_due pace (counts_in turn.found) turn.wanted) 1) [
        | inl none ↦ absurd (let no : false ≡ true = sym e ∙ sym (ap (λ (x : State). is_some x.collection) (idle none)) ∙ is in cc)
        | inr some ↦
            let closed = counts_closed turn.found e in
            let steps = k.begins closed some in
            let end_low = found_end heap pace turn.commands turn.found before k.commands k.found taken e in
            let one = one_due pace (counts_in turn.found) turn.wanted closed (found_room turn.found turn.wanted up.state size_found end_low wants) in
            let none : turn.pace.owed ≡ 0 = ap (λ (p : Pace). p.owed) (k.work).pace ∙ none_owed pace (steps_due pace (counts_in turn.found) turn.wanted) turn.work one steps in
            let first = (k.work).begun closed steps k.going in
            let stored = units_rise roots turn.found.roots_left looks (let asked = taken.stored in omega (arith, asked, before.looks)) in
            let whole : heap_end turn.found.core + turn.heap.core.heap.free ≡ size = omega (arith, free, size_found, up.state.heap.room) in
            let work = begins_light most left size words (heap_end turn.found.core) turn.heap.core.heap.free (units_of roots + units_of looks) whole end_low fits in
            light_without_debt most roots turn.heap turn.pace none low (omega (arith, first, stored, work, end_at turn.found.core))
      ]

  calls_fit : (heap : Collected) (pace : Pace) (turns : List Turn) → ArePacedCalls heap pace turns → TakeAtMost words entries looks roots heap turns → Fits most roots left size bound heap pace
      → (let last = after_turns heap pace turns in Fits most roots left size bound last.0 last.1)
  calls_fit heap pace [] k taken before = before
  calls_fit heap pace (turn ∷ turns) k taken before = calls_fit turn.heap turn.pace turns k.1 taken.3 (call_fits heap pace turn k.0 taken.1 taken.0 taken.2 before)

  last_call : (heap : Collected) (pace : Pace) → Fits most roots left size bound heap pace → FindsRoom words entries looks heap pace
  last_call heap pace k commands wanted found new after work are is taken wants paced = from (is_some found.core.collection) refl
    where
      up : IsRaised heap.core found.core
      up = subst (IsRaised heap.core) (sym is) (raised heap.core commands k.state are)

      from : (b : Bool) → is_some found.core.collection ≡ b → (wanted < (counts_in found).free) ⊎ HasEnded new.core work
      from true e = light_call most words entries looks roots heap pace k.state k.remembers (k.light (sym (ap (λ (x : State). is_some x.collection) is ∙ commands_open heap.core commands) ∙ e)) (enough_here heap pace k)
          commands wanted found new after work are is taken wants paced
      from false e = inl (found_room found wanted up.state (ap (λ (x : State). x.size) is ∙ commands_size heap.core commands ∙ k.size_is) (found_end heap pace commands found k are is taken e) wants)

-- From a flip on, each call finds more room than it wants or ends the collection.
pub cycle_room : (heap : Collected) (pace : Pace) (turns : List Turn) (most words entries looks roots : ℕ) → IsState heap.core → HasJustFlipped heap pace → ArePacedCalls heap pace turns → TakeAtMost words entries looks roots heap turns
    → pace.rate ≡ 0 → (2 * most + 1) * heap.core.size + 2 * pace.words ≤ 4294967295
    → (most + 1) * ((counts_in heap).end + 2 * words) + 2 * (units_of roots + units_of looks) + heap.core.size ≤ most * heap.core.size
    → (counts_in heap).end + 4 * words < heap.core.size → heap.roots_left ≤ roots
    → (4 * most + 2) * words + entries + looks + units_of looks + roots < pace.words
    → (let last = after_turns heap pace turns in FindsRoom words entries looks last.0 last.1)
cycle_room heap pace turns most words entries looks roots h flipped k taken rate small fits roomy few bound =
    last_call most words entries looks roots (counts_in heap).end heap.core.size pace.words (bound, small) fits roomy (after_turns heap pace turns).0 (after_turns heap pace turns).1
    (calls_fit most words entries looks roots (counts_in heap).end heap.core.size pace.words (bound, small) fits roomy heap pace turns k taken first)
  where
    first : Fits most roots (counts_in heap).end heap.core.size pace.words heap pace
    first = record {
      state = h;
      remembers = flipped.remembers;
      size_is = refl;
      left_is = flipped.left;
      words_is = refl;
      rate_is = rate;
      looks = few;
      waits = λ closed. omega (arith, end_at heap.core, roomy);
      light = λ is. absurd (let no : false ≡ true = sym (is_closed heap flipped.closed) ∙ is in cc);
    }

-- the same of the default pace, where a third of the heap is live at most
pub default_room : (heap : Collected) (pace : Pace) (turns : List Turn) (words entries looks roots : ℕ) → IsState heap.core → HasJustFlipped heap pace → ArePacedCalls heap pace turns → TakeAtMost words entries looks roots heap turns
    → IsDefault pace → 5 * heap.core.size + 2048 ≤ 4294967295
    → 3 * ((counts_in heap).end + 2 * words) + 2 * (units_of roots + units_of looks) ≤ heap.core.size → heap.roots_left ≤ roots
    → 10 * words + entries + looks + units_of looks + roots < 1024
    → (let last = after_turns heap pace turns in FindsRoom words entries looks last.0 last.1)
default_room heap pace turns words entries looks roots h flipped k taken default small fits few bound =
    cycle_room heap pace turns 2 words entries looks roots h flipped k taken default.rate (omega (arith, small, default.words)) (omega (arith, fits)) (omega (arith, fits, end_at heap.core, h.heap.room)) few (omega (arith, bound, default.words))
