-- Paced work stays ahead of the mutators through many calls, but for the steps that it owes.
use Rattle.std.proofs.lemmas.Grind.{common_steps}
use Rattle.std.specs.Option.{option_map_or, unwrap_or}
use Rattle.std.proofs.Common.{◌≡◌, ℕ, zero, suc, ◌+◌, ◌<◌, ◌≤◌, List, [], ◌∷◌, ◌++◌, length, set, slice_get, Option, None, refl, sym, subst, arith}
use Rattle.std.proofs.lemmas.Bool.{cond_both, and_parts, leb-true}
use Rattle.std.proofs.lemmas.List.{length-append}
use Rattle.std.proofs.lemmas.List.Sums.{sum_by-cons}
use Rattle.gc_graph.specs.declared.command.Op.{Op}
use Rattle.gc_model.specs.State.{Collection, State, heap_end}
use Rattle.gc_model.specs.Belonging.{IsState}
use Rattle.gc_model.specs.Steps.{logged, written, mutate, collect, useful_step}
use Rattle.gc_model.specs.Progress.{entries_in, work_left, entries_left}
use Rattle.gc_model.specs.declared.step.Step.{Step}
use Rattle.gc_model.proofs.Public.{collect_keeps, mutate_keeps, useful_ranges, command_raises}
use Rattle.gc_collected.specs.Collected.{Collected}
use Rattle.gc_pace.specs.Counts.{counts_in}
use Rattle.gc_pace.specs.Work.{with_size, after_useful}
use Rattle.gc_pace.specs.Pace.{spent, steps_due, units_of, units_left, CountsAll, IsPacedWork}
use Rattle.gc_pace.specs.Turns.{Turn, after_commands, AreCommands, AreTurns, IsTurn, after_turns, Remembers}
use Rattle.gc_pace.specs.declared.pace.Pace.{Pace}
use Rattle.gc_pace.specs.declared.work.Work.{Work}
use Rattle.gc_pace.proofs.Left.{entries_low, end_at, logged_low, logged_all}
use Rattle.gc_pace.proofs.PacedCalls.{call_work, work_state}

-- ---- commands take no word and no entry away

entries_more : (logs : List (List (ℕ × ℕ))) (m : ℕ) (more : List (ℕ × ℕ)) → entries_in logs ≤ entries_in (set logs m (unwrap_or (slice_get logs m) [] ++ more))
entries_more [] m more = omega arith
entries_more (log ∷ logs) zero more = omega (arith, length-append log more, sum_by-cons (λ log. length log) log logs, sum_by-cons (λ log. length log) (log ++ more) logs)
entries_more (log ∷ logs) (suc m) more =
    let others = entries_more logs m more in
    omega (arith, sum_by-cons (λ log. length log) log logs, sum_by-cons (λ log. length log) log (set logs m (unwrap_or (slice_get logs m) [] ++ more)))

entries_grow : (o : Option Collection) (m : ℕ) (more : List (ℕ × ℕ)) → option_map_or (λ (c : Collection). entries_in c.logs) o 0 ≤ option_map_or (λ (c : Collection). entries_in c.logs) (logged o m more) 0
entries_grow o m more = grind (arith, common_steps, entries_more)

end_grows : (s : State) (m : ℕ) (op : Op) → heap_end s ≤ heap_end (mutate s m op).1
end_grows s m op = grind (arith, common_steps, cond_both)

-- what commands made of the state s
pub record IsRaised (s t : State) : Type 0 where
  pub state : IsState t
  pub end : heap_end s ≤ heap_end t
  pub entries : entries_left s ≤ entries_left t
  pub work : work_left t + heap_end s + entries_left s ≡ work_left s + heap_end t + entries_left t

pub raised : (s : State) (commands : List (ℕ × Op)) → IsState s → AreCommands s.mutators commands → IsRaised s (after_commands s commands)
raised s [] h k = record { state = h; end = omega arith; entries = omega arith; work = refl }
raised s (command ∷ rest) h k =
    let next = (mutate s command.0 command.1).1 in
    let later = raised next rest (mutate_keeps s command.0 command.1 h k.0.0 k.0.1) k.1 in
    let work = command_raises s command.0 command.1 h.heap h.collection k.0.0 in
    let end = end_grows s command.0 command.1 in
    let entries = entries_grow s.collection command.0 (written s.heap.graph command.0 command.1 (mutate s command.0 command.1).0) in
    let later_end = later.end in
    let later_entries = later.entries in
    let later_work = later.work in
    record { state = later.state; end = omega arith; entries = omega arith; work = omega arith }

-- what was spent since the call before is what commands added to the units that are left, or more
spent_covers : (old new : Collected) (pace : Pace) → IsRaised old.core new.core → Remembers pace old → CountsAll (counts_in new) → units_left new ≤ units_left old + spent pace (counts_in new)
spent_covers old new pace now remembers all =
    let logged = logged_all new.core all in
    let end = now.end in
    let entries = now.entries in
    omega (arith, now.work, remembers.end, remembers.logged, remembers.roots, end_at old.core, end_at new.core, logged, logged_low old.core)

-- ---- calls

-- a step stays as it is without a size
unsized : (step : Step) → step ≡ with_size None step
unsized step = grind (arith, common_steps)

useful_keep : (n : ℕ) (s : State) → IsState s → IsState (after_useful None n s)
useful_keep zero s h = h
useful_keep (suc n) s h =
    let before = after_useful None n s in
    let now = useful_keep n s h in
    subst (λ (step : Step). IsState (collect before step).1) (unsized (useful_step before)) (collect_keeps before (useful_step before) now (useful_ranges before now.collection))

pub call_keeps : (wanted : ℕ) (old new : Collected) (before after : Pace) (work : Work) → IsPacedWork wanted old new before after work → IsState old.core → IsState new.core
call_keeps wanted old new before after work paced h = go (steps_due before (counts_in old) wanted) refl
  where
    go : (n : ℕ) → steps_due before (counts_in old) wanted ≡ n → IsState new.core
    go zero e = subst IsState (sym (paced.none e).0) h
    go (suc n) e =
        let busy : 1 ≤ steps_due before (counts_in old) wanted = omega arith in
        subst IsState (sym (work_state old.core new.core work (call_work wanted old new before after work paced busy))) (useful_keep work.steps old.core h)

pub call_remembers : (wanted : ℕ) (old new : Collected) (before after : Pace) (work : Work) → IsPacedWork wanted old new before after work → Remembers after new
call_remembers wanted old new before after work paced = grind (arith, common_steps)

-- the state that a turn begins with stays one through its commands
pub found_raised : (heap : Collected) (pace : Pace) (turn : Turn) → IsState heap.core → IsTurn heap pace turn → IsRaised heap.core turn.found.core
found_raised heap pace turn h k = subst (IsRaised heap.core) (sym k.found) (raised heap.core turn.commands h k.commands)

pub turn_keeps : (heap : Collected) (pace : Pace) (turn : Turn) → IsState heap.core → IsTurn heap pace turn → IsState turn.heap.core
turn_keeps heap pace turn h k = call_keeps turn.wanted turn.found turn.heap pace turn.pace turn.work k.work (found_raised heap pace turn h k).state

pub turn_remembers : (heap : Collected) (pace : Pace) (turn : Turn) → IsTurn heap pace turn → Remembers turn.pace turn.heap
turn_remembers heap pace turn k = call_remembers turn.wanted turn.found turn.heap pace turn.pace turn.work k.work

pub turns_ahead : (heap : Collected) (pace : Pace) (turns : List Turn) (most : ℕ) → IsState heap.core → Remembers pace heap → AreTurns heap pace turns → units_left heap ≤ most + pace.owed
    → IsState (after_turns heap pace turns).0.core × (units_left (after_turns heap pace turns).0 ≤ most + (after_turns heap pace turns).1.owed)
turns_ahead heap pace [] most h remembers k low = (h, low)
turns_ahead heap pace (turn ∷ turns) most h remembers k low =
    let one = k.0 in
    let before = spent_covers heap turn.found pace (found_raised heap pace turn h one) remembers (one.goes_on).counted in
    let ahead = (one.work).ahead one.goes_on in
    turns_ahead turn.heap turn.pace turns most (turn_keeps heap pace turn h one) (turn_remembers heap pace turn one) k.1 (omega (arith, ahead, before, low))

pub turns_work : (heap : Collected) (pace : Pace) (turns : List Turn) (most : ℕ) → IsState heap.core → Remembers pace heap → AreTurns heap pace turns → units_left heap ≤ most + pace.owed
    → units_left (after_turns heap pace turns).0 ≤ most + (after_turns heap pace turns).1.owed
turns_work heap pace turns most h remembers k low = (turns_ahead heap pace turns most h remembers k low).1

pub turns_logs : (heap : Collected) (pace : Pace) (turns : List Turn) (most : ℕ) → IsState heap.core → Remembers pace heap → AreTurns heap pace turns → units_left heap ≤ most + pace.owed
    → (counts_in (after_turns heap pace turns).0).logged + units_of (after_turns heap pace turns).0.roots_left < most + (after_turns heap pace turns).1.owed
turns_logs heap pace turns most h remembers k low =
    let last = turns_ahead heap pace turns most h remembers k low in
    omega (arith, last.1, logged_low (after_turns heap pace turns).0.core, entries_low (after_turns heap pace turns).0.core)

-- ---- where words are not bounded, no step is owed

call_owes : (wanted : ℕ) (old new : Collected) (before after : Pace) (work : Work) → IsPacedWork wanted old new before after work → before.words ≡ 0 → (after.words ≡ 0) × (after.owed ≡ 0)
call_owes wanted old new before after work paced free = grind (arith, common_steps, cond_both, leb-true, and_parts)

pub turns_owe : (heap : Collected) (pace : Pace) (turns : List Turn) → AreTurns heap pace turns → pace.words ≡ 0 → pace.owed ≡ 0 → ((after_turns heap pace turns).1.words ≡ 0) × ((after_turns heap pace turns).1.owed ≡ 0)
turns_owe heap pace [] k free none = (free, none)
turns_owe heap pace (turn ∷ turns) k free none =
    let call = call_owes turn.wanted turn.found turn.heap pace turn.pace turn.work (k.0).work free in
    turns_owe turn.heap turn.pace turns k.1 call.0 call.1
