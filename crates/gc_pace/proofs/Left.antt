-- What a useful step leaves of the work, and what the counts say of it.
use Rattle.std.proofs.lemmas.Grind.{common_steps}
use Rattle.std.proofs.Math.Nat.{div-add-mod, mod-lt}
use Rattle.std.proofs.Common.{◌≡◌, ◌≢◌, ◌⊎◌, ℕ, ◌+◌, ◌-◌, ◌*◌, ◌/◌, ◌%◌, ◌<◌, ◌≤◌, true, Option, Some, None, Result, arith}
use Rattle.std.specs.Prelude.{IfOk}
use Rattle.std.specs.Option.{option_map_or}
use Rattle.std.proofs.lemmas.Bool.{cond_both}
use Rattle.gc_model.specs.State.{Collection, State, heap_end}
use Rattle.gc_model.specs.Progress.{entries_in, work_left, entries_left, ChangesLower, Advances}
use Rattle.gc_model.specs.Steps.{useful_with, collect, is_change, step_in, step_idle}
use Rattle.gc_model.specs.declared.step.Step.{Step}
use Rattle.gc_model.specs.declared.step.Step.TheVariants as steps
use Rattle.gc_model.specs.declared.step.StepReply.{StepReply}
use Rattle.gc_model.specs.declared.step.StepReply.TheVariants.{NoRoom, Flipped}
use Rattle.gc_pace.specs.Internal.Leaving.{LeavesLess}
use Rattle.gc_pace.specs.Work.{with_size, sized_step, goes_on}
use Rattle.gc_collected.specs.Collected.{Collected}
use Rattle.gc_pace.specs.Counts.{counts_of, counts_in}
use Rattle.gc_pace.specs.Pace.{steps_left, units_of, units_left, CountsAll}

pub some_left : (s : State) → 1 ≤ work_left s
some_left s = grind (arith, common_steps)

-- each entry is work
pub entries_low : (s : State) → entries_left s < work_left s
entries_low s = grind (arith, common_steps)

-- ---- one step

sized_begin : (size : Option ℕ) (s : State) → (with_size size steps.Begin ≢ steps.Flip) × (with_size size steps.Begin ≢ steps.Drop) × (is_change (option_map_or (λ (c : Collection). step_in s c (with_size size steps.Begin)) None (step_idle s (with_size size steps.Begin))).0 ≡ true)
sized_begin size s = grind (arith, common_steps)

-- while a collection is open, no begin is useful
pub sized_open : (size : Option ℕ) (s : State) (c : Collection) → with_size size (useful_with s (Some c)) ≡ useful_with s (Some c)
sized_open size s c = grind (arith, common_steps, cond_both)

abbrev Falls : State → StepReply × State → Type 0
Falls s next = goes_on next.0 ≡ true → work_left next.1 < work_left s

stops : (reply : StepReply) → (reply ≡ NoRoom) ⊎ ((pairs : ℕ) × (reply ≡ Flipped pairs)) → goes_on reply ≡ true → ⊥
stops reply h on = grind (arith, common_steps)

step_falls : (size : Option ℕ) (s : State) → ChangesLower s → Advances s → Falls s (collect s (sized_step size s))
step_falls size s lowers advances = grind (arith, common_steps, sized_begin, sized_open, stops)

pub leaves_less : (size : Option ℕ) (s t : State) (reply : StepReply) → ChangesLower s → Advances s → entries_left (collect s (sized_step size s)).1 ≤ entries_left s
    → collect s (sized_step size s) ≡ (reply, t) → LeavesLess s t reply
leaves_less size s t reply lowers advances entries is = grind (arith, common_steps, step_falls, entries_low)

-- `now` is the state when the step is performed
pub leaves_reply : {E : Type 0} (size : Option ℕ) (s now t : State) (step : Step) (r : Result StepReply E) → now ≡ s → step ≡ sized_step size s → ChangesLower s → Advances s
    → ((step : Step) → entries_left (collect s step).1 ≤ entries_left s) → IfOk r (λ reply. collect now step ≡ (reply, t)) → IfOk r (LeavesLess s t)
leaves_reply size s now t step r same is lowers advances entries made = grind (arith, common_steps, leaves_less)

-- ---- the counts

pub end_at : (s : State) → (counts_of s).end ≡ heap_end s
end_at s = grind (arith, common_steps)

pub logged_low : (s : State) → (counts_of s).logged ≤ entries_left s
logged_low s = grind (arith, common_steps)

pub logged_all : (s : State) → CountsAll (counts_of s) → (counts_of s).logged ≡ entries_left s
logged_all s all = grind (arith, common_steps)

counts_enough : (s : State) (left : ℕ) → ((c : Collection) → s.collection ≡ Some c → work_left s ≤ (heap_end s - c.scan_place) + entries_in c.logs + 1)
    → CountsAll (counts_of s) → work_left s + units_of left ≤ steps_left (record (counts_of s) { roots_left = left })
counts_enough s left bounded all = grind (arith, common_steps, logged_all)

-- the steps that the counts leave are enough for the work
pub counts_bound : (h : Collected) → ((c : Collection) → h.core.collection ≡ Some c → work_left h.core ≤ (heap_end h.core - c.scan_place) + entries_in c.logs + 1)
    → CountsAll (counts_in h) → units_left h ≤ steps_left (counts_in h)
counts_bound h bounded all = counts_enough h.core h.roots_left bounded all

-- ---- looks, in units

-- how many looks so many units are
units_near : (looks : ℕ) → (looks ≤ 32 * units_of looks) × (32 * units_of looks ≤ looks + 31) × (32 * (looks / 32) ≤ looks)
units_near looks =
    let up : 32 * ((looks + 31) / 32) + (looks + 31) % 32 ≡ looks + 31 = div-add-mod (looks + 31) 32 in
    let down : 32 * (looks / 32) + looks % 32 ≡ looks = div-add-mod looks 32 in
    let rest = mod-lt (looks + 31) {m = 32} (omega arith) in
    (omega (arith, up, rest), omega (arith, up), omega (arith, down))

-- looks that were taken lower the units of those that are left
pub units_fall : (old new looks : ℕ) → new + looks ≤ old → units_of new + looks / 32 ≤ units_of old
units_fall old new looks less = omega (arith, units_near old, units_near new, units_near looks, less)

-- looks that are left rise, in units, by no more than the units of those that are new
pub units_rise : (old new looks : ℕ) → new ≤ old + looks → units_of new ≤ units_of old + units_of looks
units_rise old new looks few = omega (arith, units_near old, units_near new, units_near looks, few)
