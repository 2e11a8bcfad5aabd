-- Steps that follow from the counts lower the work at least as fast as the room falls, in proportion.
use Rattle.std.proofs.lemmas.Grind.{common_steps}
use Rattle.std.proofs.lemmas.Bool.{cases_lt, eqb-true}
use Rattle.std.proofs.lemmas.Nat.{mul-le}
use Rattle.std.proofs.Math.Nat.{div-add-mod, le_of_mul-le-mul_right}
use Rattle.std.proofs.Common.{◌≡◌, ◌⊎◌, inl, inr, ℕ, zero, suc, ◌+◌, ◌-◌, ◌*◌, ◌/◌, ◌%◌, ◌<◌, ◌≤◌, Bool, true, false, List, [], ◌∷◌, length, Option, Some, None, refl, ap, sym, ◌∙◌, subst, arith}
use Rattle.std.specs.Prelude.{◌≢◌, cond}
use Rattle.std.specs.Option.{option_map_or}
use Rattle.gc_graph.specs.Machine.{Roomy}
use Rattle.gc_graph.specs.declared.command.Op.{Op}
use Rattle.gc_model.specs.State.{Collection, State, heap_end}
use Rattle.gc_model.specs.Belonging.{IsState}
use Rattle.gc_model.specs.Steps.{collect, flipped, is_ready, mutate, passes_check, step_in, step_idle}
use Rattle.gc_model.specs.Progress.{entries_left}
use Rattle.gc_model.specs.declared.step.Step.{Step}
use Rattle.gc_model.specs.declared.step.Step.TheVariants as steps
use Rattle.gc_model.specs.declared.step.StepReply.{StepReply}
use Rattle.gc_model.specs.declared.step.StepReply.TheVariants.{Flipped, NotReady, Refused}
use Rattle.gc_model.proofs.Public.{left_bounded, steps_stay}
use Rattle.gc_collected.specs.Collected.{Collected}
use Rattle.gc_pace.specs.Counts.{counts_of, counts_in}
use Rattle.gc_pace.specs.Work.{IsRun, after_useful, goes_on, is_over, sized_step, units, useful_reply}
use Rattle.gc_pace.specs.Pace.{steps_left, units_left, spent, steps_due, took_its_words, CountsAll, HasEnded, IsPacedWork}
use Rattle.gc_pace.specs.Turns.{Turn, AreFew, AreTurns, IsTurn, Remembers, after_commands, after_turns, unpaid}
use Rattle.gc_pace.specs.declared.counts.Counts.{Counts}
use Rattle.gc_pace.specs.declared.pace.Pace.{Pace}
use Rattle.gc_pace.specs.declared.work.Work.{Work}
use Rattle.gc_pace.proofs.Left.{counts_bound, end_at, logged_all}
use Rattle.gc_pace.proofs.Paid.{not_zero}
use Rattle.gc_pace.proofs.PacedCalls.{call_done, on_of}
use Rattle.gc_pace.proofs.Turns.{IsRaised, found_raised, turn_keeps, turn_remembers}

-- ---- numbers

-- Of l steps that were left, each of x words is paid for by 1 + q steps beside its own, where room times 1 + q is at least l. So l falls by as large a part as
-- a of the free words, or more.
in_proportion : (l before x q free later a room : ℕ) → l + x * (1 + q) ≤ before → later + a ≡ free → a ≤ x → room ≤ free → before ≤ room * (1 + q) → l * free ≤ before * later
in_proportion l before x q free later a room falls took few low enough =
    let one : (l + x * (1 + q)) * free ≤ before * free = mul-le (l + x * (1 + q)) free before free falls (omega arith) in
    let two : a * before ≤ x * (free * (1 + q)) = mul-le a before x (free * (1 + q)) few (omega (arith, enough, mul-le room (1 + q) free (1 + q) low (omega arith))) in
    let split : (l + x * (1 + q)) * free ≡ l * free + x * (free * (1 + q)) = omega arith in
    let whole : before * free ≡ before * later + a * before = ap (λ n. before * n) (sym took) ∙ omega arith in
    omega (arith, one, two, split, whole)

-- what l steps left are at most is at most so many times the room
rate_covers : (left room : ℕ) → 1 ≤ room → left ≤ room * (1 + left / room)
rate_covers left room some =
    let parts : room * (left / room) + left % room ≡ left = div-add-mod left room in
    omega (arith, parts)

-- two proportions one after the other
on_in_proportion : (l m n a b c : ℕ) → n ≤ m → m * a ≤ l * b → n * b ≤ m * c → n * a ≤ l * c
on_in_proportion l m n a b c less first then = elim (cases_lt 0 b) [
  | inl low ↦ le_of_mul-le-mul_right {m = n * a} {n = l * c} {k = b} (
      let one : (n * b) * a ≤ (m * c) * a = mul-le (n * b) a (m * c) a then (omega arith) in
      let two : (m * a) * c ≤ (l * b) * c = mul-le (m * a) c (l * b) c first (omega arith) in
      omega (arith, one, two)) low
  | inr none ↦
      let zero_b : b ≡ 0 = omega (arith, none) in
      let flat : l * b ≡ 0 = ap (λ k. l * k) zero_b ∙ omega arith in
      let small : n * a ≤ m * a = mul-le n a m a less (omega arith) in
      omega (arith, small, first, flat)
]

-- ---- steps that go on leave the mutators' heap

abbrev pub Same : State → State → Type 0
Same s t = (t.heap ≡ s.heap) × (t.size ≡ s.size)

flip_same : (s : State) (c : Collection) (ready passes : Bool) → goes_on (cond {A = StepReply × State} ready (cond passes (Flipped (length c.replicas), flipped s c) (Refused, s)) (NotReady, s)).0 ≡ true
    → Same s (cond {A = StepReply × State} ready (cond passes (Flipped (length c.replicas), flipped s c) (Refused, s)) (NotReady, s)).1
flip_same s c ready passes on = grind (arith, common_steps)

flips_same : (s : State) (o : Option Collection) → goes_on (option_map_or (λ c. step_in s c steps.Flip) o (step_idle s steps.Flip)).0 ≡ true → Same s (option_map_or (λ c. step_in s c steps.Flip) o (step_idle s steps.Flip)).1
flips_same s None on = (refl, refl)
flips_same s (Some c) on = flip_same s c (is_ready c s.heap.graph) (passes_check s c) on

stays_same : (s : State) (step : Step) → step ≢ steps.Flip → Same s (collect s step).1
stays_same s step other = let k = steps_stay s step other in (ap (λ (x : State). x.heap) k, ap (λ (x : State). x.size) k)

step_same : (s : State) (step : Step) → goes_on (collect s step).0 ≡ true → Same s (collect s step).1
step_same s steps.Begin on = stays_same s steps.Begin (λ e. cc e)
step_same s (steps.BeginSized size) on = stays_same s (steps.BeginSized size) (λ e. cc e)
step_same s steps.Roots on = stays_same s steps.Roots (λ e. cc e)
step_same s steps.Scan on = stays_same s steps.Scan (λ e. cc e)
step_same s (steps.Apply m) on = stays_same s (steps.Apply m) (λ e. cc e)
step_same s steps.Flip on = flips_same s s.collection on
step_same s steps.Drop on = stays_same s steps.Drop (λ e. cc e)

useful_same : (n : ℕ) (s : State) → ((k : ℕ) → k < n → goes_on (useful_reply None k s) ≡ true) → Same s (after_useful None n s)
useful_same zero s on = (refl, refl)
useful_same (suc n) s on =
    let before = useful_same n s (λ k less. on k (omega (arith, less))) in
    let one = step_same (after_useful None n s) (sized_step None (after_useful None n s)) (on n (omega arith)) in
    (one.0 ∙ before.0, one.1 ∙ before.1)

run_same : (n : ℕ) (s t : State) (reply : StepReply) → IsRun None n s t reply → goes_on reply ≡ true → Same s t
run_same n s t reply run on = subst (Same s) (sym run.state) (useful_same n s (λ k less. elim (cases_lt (suc k) n) [
  | inl early ↦ run.going k early
  | inr late ↦ (let some = run.some in let last : n - 1 ≡ k = omega (arith, less, late) in subst (λ j. goes_on (useful_reply None j s) ≡ true) last (ap goes_on (sym run.reply_is) ∙ on))
]))

-- a call that goes on leaves the mutators' heap
pub call_same : (wanted : ℕ) (old new : Collected) (before after : Pace) (work : Work) → IsPacedWork wanted old new before after work → is_over work ≡ false → Same old.core new.core
call_same wanted old new before after work paced going = (let done = call_done wanted old new before after work paced in elim (cases_lt work.steps 1) [
  | inl none ↦ (let idle = done.none (omega (arith, none)) in (ap (λ (x : State). x.heap) idle, ap (λ (x : State). x.size) idle))
  | inr steps ↦ (let p = done.some steps in run_same work.steps old.core new.core p.0 p.1 (on_of work p.0 p.2 going))
])

pub commands_size : (s : State) (commands : List (ℕ × Op)) → (after_commands s commands).size ≡ s.size
commands_size s [] = refl
commands_size s (command ∷ rest) = commands_size (mutate s command.0 command.1).1 rest

-- ---- one turn

-- All steps that are left are due, or those that are owed and those that pay for what was spent.
due_is : (pace : Pace) (counts : Counts) (wanted : ℕ) → 1 ≤ counts.is_open → pace.rate ≡ 0 → steps_left counts ≤ 4294967295
    → (steps_left counts ≤ steps_due pace counts wanted) ⊎ ((1 ≤ counts.free - wanted) × (steps_due pace counts wanted ≡ pace.owed + spent pace counts * (2 + steps_left counts / (counts.free - wanted))))
due_is pace counts wanted is_open rate few = grind (arith, common_steps, not_zero, eqb-true)

module _ (heap : Collected) (pace : Pace) (turn : Turn) (h : IsState heap.core) (remembers : Remembers pace heap) (k : IsTurn heap pace turn) (few : steps_left (counts_in turn.found) ≤ 4294967295) (rate : pace.rate ≡ 0) where
  abbrev u : Collected
  u = turn.found

  now : IsRaised heap.core u.core
  now = found_raised heap pace turn h k

  -- each unit that was due was performed, or is owed
  performed : steps_due pace (counts_in u) turn.wanted ≤ units turn.work + turn.pace.owed
  performed = let owes = ap (λ (p : Pace). p.owed) (k.work).pace in omega (arith, (k.goes_on).performed, owes)

  fallen : units_left turn.heap + units turn.work ≤ units_left u
  fallen = (k.work).falls (k.goes_on).going

  -- the steps left the mutators' heap
  same : Same u.core turn.heap.core
  same = call_same turn.wanted u turn.heap pace turn.pace turn.work k.work (k.goes_on).going

  bound : units_left u ≤ steps_left (counts_in u)
  bound = counts_bound u (λ c is. left_bounded u.core c now.state.heap now.state.collection is) (k.goes_on).counted

  -- What was spent is what the commands added, or more. `least` is what was left before them, less the looks that they took away.
  added : (least : ℕ) × (least ≤ units_left heap) × (least + spent pace (counts_in u) ≡ units_left u)
  added =
      let logged = logged_all u.core (k.goes_on).counted in
      let before : (counts_of heap.core).logged ≡ entries_left heap.core = grind (arith, common_steps, logged, now.entries, (k.goes_on).counted) in (
        units_left u - spent pace (counts_in u),
        omega (arith, now.work, now.end, now.entries, remembers.end, remembers.logged, remembers.roots, end_at heap.core, end_at u.core, logged, before),
        omega (arith, now.work, now.end, now.entries, remembers.end, remembers.logged, remembers.roots, end_at heap.core, end_at u.core, logged, before),
      )

  -- either nothing but what is owed is left, or the work fell by what pays for the room that was taken
  turn_falls : (unpaid turn.heap turn.pace ≡ 0) ⊎ ((x q room least : ℕ) × (least ≤ unpaid heap pace) × (unpaid turn.heap turn.pace + x * (1 + q) ≤ least) × (heap_end u.core - heap_end heap.core ≤ x) × (room ≤ (counts_in u).free) × (least ≤ room * (1 + q)))
  turn_falls = elim (due_is pace (counts_in u) turn.wanted (k.goes_on).collecting rate few) [
    | inl all ↦ inl (omega (arith, all, fallen, performed, bound))
    | inr paid ↦
        let room = (counts_in u).free - turn.wanted in
        let q = steps_left (counts_in u) / room in
        let x = spent pace (counts_in u) in
        let covers : steps_left (counts_in u) ≤ room * (1 + q) = rate_covers (steps_left (counts_in u)) room paid.0 in
        let before = added in
        elim (cases_lt (unpaid turn.heap turn.pace) 1) [
          | inl none ↦ inl (omega (arith, none))
          | inr some ↦ inr (
            x,
            q,
            room,
            before.0 - pace.owed,
            omega (arith, before.1),
            omega (arith, some, fallen, performed, paid.1, before.2),
            omega (arith, remembers.end, end_at heap.core, end_at u.core),
            omega arith,
            omega (arith, covers, bound, before.2),
          )
        ]
  ]

  free_then : turn.heap.core.heap.free + (heap_end u.core - heap_end heap.core) ≡ heap.core.heap.free
  free_then =
      let free : turn.heap.core.heap.free ≡ u.core.heap.free = ap (λ (x : Roomy). x.free) same.0 in
      let size : u.core.size ≡ heap.core.size = ap (λ (x : State). x.size) k.found ∙ commands_size heap.core turn.commands in
      omega (arith, free, now.end, size, h.heap.room, now.state.heap.room)

  pub turn_keeps_up : (unpaid turn.heap turn.pace ≤ unpaid heap pace) × (unpaid turn.heap turn.pace * heap.core.heap.free ≤ unpaid heap pace * turn.heap.core.heap.free)
  turn_keeps_up = elim turn_falls [
    | inl none ↦ (omega (arith, none), (let flat : unpaid turn.heap turn.pace * heap.core.heap.free ≡ 0 * heap.core.heap.free = ap (λ n. n * heap.core.heap.free) none in omega (arith, flat)))
    | inr f ↦
        let free : turn.heap.core.heap.free ≡ u.core.heap.free = ap (λ (x : Roomy). x.free) same.0 in
        let falls = in_proportion (unpaid turn.heap turn.pace) f.3 f.0 f.1 heap.core.heap.free turn.heap.core.heap.free (heap_end u.core - heap_end heap.core) f.2 f.5 free_then f.6 (omega (arith, f.7, free_then, free)) f.8 in
        let more = mul-le f.3 turn.heap.core.heap.free (unpaid heap pace) turn.heap.core.heap.free f.4 (omega arith) in (omega (arith, f.4, f.5), omega (arith, falls, more))
  ]

-- ---- many turns

keep_up : (heap : Collected) (pace : Pace) (turns : List Turn) → IsState heap.core → Remembers pace heap → AreTurns heap pace turns → AreFew turns → pace.rate ≡ 0
    → (let last = after_turns heap pace turns in (unpaid last.0 last.1 ≤ unpaid heap pace) × (unpaid last.0 last.1 * heap.core.heap.free ≤ unpaid heap pace * last.0.core.heap.free))
keep_up heap pace [] h remembers k few rate = (omega arith, omega arith)
keep_up heap pace (turn ∷ turns) h remembers k few rate =
    let one = turn_keeps_up heap pace turn h remembers k.0 few.0 rate in
    let rest = keep_up turn.heap turn.pace turns (turn_keeps heap pace turn h k.0) (turn_remembers heap pace turn k.0) k.1 few.1 (ap (λ (p : Pace). p.rate) ((k.0).work).pace ∙ rate) in
    let last = after_turns turn.heap turn.pace turns in (
      omega (arith, one.0, rest.0),
      on_in_proportion (unpaid heap pace) (unpaid turn.heap turn.pace) (unpaid last.0 last.1) heap.core.heap.free turn.heap.core.heap.free last.0.core.heap.free rest.0 one.1 rest.1,
    )

pub turns_keep_up : (heap : Collected) (pace : Pace) (turns : List Turn) → IsState heap.core → Remembers pace heap → AreTurns heap pace turns → AreFew turns → pace.rate ≡ 0
    → (let last = after_turns heap pace turns in unpaid last.0 last.1 * heap.core.heap.free ≤ unpaid heap pace * last.0.core.heap.free)
turns_keep_up heap pace turns h remembers k few rate = (keep_up heap pace turns h remembers k few rate).1

pub turns_most : (heap : Collected) (pace : Pace) (turns : List Turn) (most : ℕ) → IsState heap.core → Remembers pace heap → AreTurns heap pace turns → AreFew turns → pace.rate ≡ 0
    → 1 ≤ heap.core.heap.free → units_left heap ≤ most * heap.core.heap.free + pace.owed → (let last = after_turns heap pace turns in units_left last.0 ≤ most * last.0.core.heap.free + last.1.owed)
turns_most heap pace turns most h remembers k few rate some low =
    let last = after_turns heap pace turns in
    let ratio = turns_keep_up heap pace turns h remembers k few rate in
    let wide : unpaid heap pace * last.0.core.heap.free ≤ (most * heap.core.heap.free) * last.0.core.heap.free = mul-le (unpaid heap pace) last.0.core.heap.free (most * heap.core.heap.free) last.0.core.heap.free (omega (arith, low)) (omega arith) in
    let fits : unpaid last.0 last.1 ≤ most * last.0.core.heap.free = le_of_mul-le-mul_right {m = unpaid last.0 last.1} {n = most * last.0.core.heap.free} {k = heap.core.heap.free} (omega (arith, ratio, wide)) some in
    omega (arith, fits)

-- ---- a call that finds no more room than it wants

pub all_due : (pace : Pace) (counts : Counts) (wanted : ℕ) → counts.free ≤ wanted → steps_left counts ≤ 4294967295 → steps_left counts ≤ steps_due pace counts wanted
all_due pace counts wanted low few = grind (arith, common_steps, not_zero)

took_none : (before : Pace) (work : Work) → before.words ≡ 0 → took_its_words before work ≡ false
took_none before work free = grind (arith, common_steps)

pub room_or_end : (wanted : ℕ) (old new : Collected) (before after : Pace) (work : Work) → IsPacedWork wanted old new before after work → CountsAll (counts_in old) → steps_left (counts_in old) ≤ 4294967295 → before.words ≡ 0
    → (wanted < (counts_in old).free) ⊎ HasEnded new.core work
room_or_end wanted old new before after work paced counted few free = elim (cases_lt wanted (counts_in old).free) [
  | inl room ↦ inl room
  | inr none ↦ elim (paced.enough counted (all_due before (counts_in old) wanted none few)) [
    | inl ended ↦ inr ended
    | inr took ↦ absurd (let no : false ≡ true = sym (took_none before work free) ∙ took in cc)
  ]
]
