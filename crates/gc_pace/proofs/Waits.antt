-- A call that finds no more room than it wants has few steps left.
use Rattle.std.proofs.lemmas.Bool.{cases_lt}
use Rattle.std.proofs.lemmas.Nat.{mul-le}
use Rattle.std.proofs.Common.{◌≡◌, ◌⊎◌, inl, inr, ℕ, ◌+◌, ◌*◌, ◌<◌, ◌≤◌, List, ap, sym, ◌∙◌, subst, arith}
use Rattle.gc_graph.specs.declared.command.Op.{Op}
use Rattle.gc_model.specs.State.{State}
use Rattle.gc_model.specs.Belonging.{IsState}
use Rattle.gc_collected.specs.Collected.{Collected}
use Rattle.gc_pace.specs.Counts.{counts_in}
use Rattle.gc_pace.specs.Work.{units}
use Rattle.gc_pace.specs.Pace.{CountsAll, HasEnded, IsPacedWork, steps_left, units_left, units_of}
use Rattle.gc_pace.specs.Turns.{Turn, AreCommands, AreFew, AreTurns, HaveTaken, IsUnbounded, Remembers, after_commands, after_turns}
use Rattle.gc_pace.specs.declared.pace.Pace.{Pace}
use Rattle.gc_pace.specs.declared.work.Work.{Work}
use Rattle.gc_pace.proofs.KeepsUp.{commands_size, room_or_end, turns_most}
use Rattle.gc_pace.proofs.Left.{units_rise}
use Rattle.gc_pace.proofs.Turns.{IsRaised, raised, turns_ahead, turns_owe}

-- twice the words, times `most`
doubled : (most words free : ℕ) → free ≤ words + words → most * free ≤ 2 * most * words
doubled most words free low =
    let wide : most * free ≤ most * (words + words) = mul-le most free most (words + words) (omega arith) low in
    let same : most * (words + words) ≡ 2 * most * words = omega arith in
    omega (arith, wide, same)

pub short_wait : (heap : Collected) (pace : Pace) (turns : List Turn) (most : ℕ) → IsState heap.core → Remembers pace heap → AreTurns heap pace turns → AreFew turns → IsUnbounded pace → 1 ≤ heap.core.heap.free → units_left heap ≤ most * heap.core.heap.free
    → (let last = after_turns heap pace turns in (commands : List (ℕ × Op)) (words entries looks wanted : ℕ) (found new : Collected) (after : Pace) (work : Work)
    → AreCommands last.0.core.mutators commands → found.core ≡ after_commands last.0.core commands → HaveTaken words entries looks last.0 found → wanted ≤ words
    → IsPacedWork wanted found new last.1 after work → CountsAll (counts_in found) → steps_left (counts_in found) ≤ 4294967295
    → (wanted < (counts_in found).free) ⊎ (HasEnded new.core work × (units work ≤ (2 * most + 1) * words + entries + units_of looks)))
short_wait heap pace turns most h remembers k few unbounded some low commands words entries looks wanted found new after work are is taken wants paced counted short = elim (cases_lt wanted found.core.heap.free) [
  | inl room ↦ inl room
  | inr none ↦ inr (ended none, omega (arith, paced.few, left none))
]
  where
    last : Collected × Pace
    last = after_turns heap pace turns

    ahead : IsState last.0.core × (units_left last.0 ≤ units_left heap + last.1.owed)
    ahead = turns_ahead heap pace turns (units_left heap) h remembers k (omega arith)

    quiet : (last.1.words ≡ 0) × (last.1.owed ≡ 0)
    quiet = turns_owe heap pace turns k unbounded.words unbounded.owed

    up : IsRaised last.0.core found.core
    up = subst (IsRaised last.0.core) (sym is) (raised last.0.core commands ahead.0 are)

    before : units_left last.0 ≤ most * last.0.core.heap.free
    before = let m = turns_most heap pace turns most h remembers k few unbounded.rate some (omega (arith, low, unbounded.owed)) in omega (arith, m, quiet.1)

    left : found.core.heap.free ≤ wanted → units_left found ≤ (2 * most + 1) * words + entries + units_of looks
    left none =
        let small : last.0.core.heap.free ≤ words + words = omega (arith, taken.allocated, none, wants) in
        let size : found.core.size ≡ last.0.core.size = ap (λ (x : State). x.size) is ∙ commands_size last.0.core commands in
        let stored = units_rise last.0.roots_left found.roots_left looks taken.stored in
        omega (arith, before, doubled most words last.0.core.heap.free small, up.work, up.end, up.entries, taken.allocated, taken.logged, stored, size, ahead.0.heap.room, up.state.heap.room)

    ended : found.core.heap.free ≤ wanted → HasEnded new.core work
    ended none = elim (room_or_end wanted found new last.1 after work paced counted short quiet.0) [
      | inl room ↦ absurd (omega (arith, room, none))
      | inr end ↦ end
    ]
