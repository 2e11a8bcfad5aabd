-- What paced work leaves in the logs, and that it stays ahead of the mutators, but for the steps that it owes.
use Rattle.std.proofs.lemmas.Grind.{common_steps}
use Rattle.std.proofs.Common.{◌≡◌, ◌⊎◌, inl, inr, ℕ, ◌+◌, ◌-◌, ◌*◌, ◌/◌, ◌≤◌, true, false, Some, None, sym, ap, ◌∙◌, subst, arith}
use Rattle.std.specs.Prelude.{min, IsTrue, IfSome}
use Rattle.std.proofs.lemmas.Bool.{le-leb, cases_lt}
use Rattle.gc_model.specs.State.{State}
use Rattle.gc_model.specs.Belonging.{IsSpaceGraph, IsOpened}
use Rattle.gc_model.specs.Progress.{entries_left, work_left}
use Rattle.gc_model.specs.Steps.{useful_step}
use Rattle.gc_collected.specs.Collected.{Collected}
use Rattle.gc_collected.specs.CollectedHeap.{Allocates}
use Rattle.gc_model.specs.declared.step.StepReply.{StepReply}
use Rattle.gc_model.proofs.Public.{left_bounded}
use Rattle.gc_pace.specs.Counts.{counts_in}
use Rattle.gc_pace.specs.Beside.{HaveFallen}
use Rattle.gc_pace.specs.Work.{IsRun, IsEnd, IsSpent, IsWork, after_useful, goes_on, has_flipped, is_over, no_work, sized_step, units, words_copied}
use Rattle.gc_pace.specs.declared.work.Looks.TheVariants.{CountUpTo, AreFree}
use Rattle.gc_pace.specs.Pace.{steps_left, units_of, units_left, spent, steps_due, Pays, took_its_words, owed_after, pace_after, CountsAll, HasEnded, WorkGoesOn, IsPacedWork}
use Rattle.gc_pace.specs.declared.pace.Pace.{Pace}
use Rattle.gc_pace.specs.declared.counts.Counts.{Counts}
use Rattle.gc_pace.specs.declared.work.Work.{Work}
use Rattle.gc_pace.proofs.Runs.{run_over}
use Rattle.gc_pace.proofs.Left.{some_left, entries_low, end_at, logged_low, counts_bound, units_fall}

-- ---- the reply to the last step

-- a reply that is no flip and found room does not end the work
pub on_of : (work : Work) (reply : StepReply) → work.last ≡ Some reply → is_over work ≡ false → goes_on reply ≡ true
on_of work reply last going = grind (arith, common_steps)

over_of : (work : Work) (reply : StepReply) → work.last ≡ Some reply → goes_on reply ≡ false → is_over work ≡ true
over_of work reply last ends = grind (arith, common_steps)

-- what allocates without a size
unsized_allocates : (t : State) → Allocates t (sized_step None t) → Allocates t (useful_step t)
unsized_allocates t allocates = grind (arith, common_steps)

-- ---- the work of one call

-- useful steps in order, or none, whether the pace bounds their words or not, and the words that their replicas took
pub record IsDueWork (s t : State) (work : Work) : Type 0 where
  pub none : work.steps ≡ 0 → t ≡ s
  pub some : 1 ≤ work.steps → (reply : StepReply) × IsRun None work.steps s t reply × (work.last ≡ Some reply)
  pub none_copied : work.steps ≡ 0 → work.copied ≡ 0
  pub copied : 1 ≤ work.steps → (reply : StepReply) × (work.last ≡ Some reply) × (work.copied ≡ words_copied s t reply)

module _ (before : Pace) (due : ℕ) (s t : State) (work : Work) (busy : 1 ≤ due)
    (whole : before.words ≡ 0 → IsWork AreFree None None due s t work) (within : 1 ≤ before.words → IsWork (CountUpTo before.words) None (Some before.words) (min due before.words) s t work) where
  due_work : IsDueWork s t work
  due_work = elim (cases_lt before.words 1) [
    | inl none ↦ (let w = whole (omega (arith, none)) in record {
      none = λ zero. (w.none zero).state;
      some = λ some. let p = w.some some in (p.reply, p.run, p.last);
      none_copied = λ zero. ap (λ (w : Work). w.copied) (w.none zero).told;
      copied = λ some. let p = w.some some in (p.reply, p.last, p.copied);
    })
    | inr bounded ↦ (let w = within bounded in record {
      none = λ zero. (w.none zero).state;
      some = λ some. let p = w.some some in (p.reply, p.run, p.last);
      none_copied = λ zero. ap (λ (w : Work). w.copied) (w.none zero).told;
      copied = λ some. let p = w.some some in (p.reply, p.last, p.copied);
    })
  ]

-- the call took its words
took : (before : Pace) (work : Work) → 1 ≤ before.words → (before.words ≤ units work) ⊎ ((2 * before.words ≤ work.looks) ⊎ (before.words ≤ work.copied)) → IsTrue (took_its_words before work)
took before work bounded many = grind (arith, common_steps, le-leb)

-- work that ended, or took so many words, has ended or took its words
end_or_words : (before : Pace) (t : State) (reply : StepReply) (work : Work) → 1 ≤ before.words → work.last ≡ Some reply → IsEnd None (Some before.words) t reply work.copied
    → HasEnded t work ⊎ IsTrue (took_its_words before work)
end_or_words before t reply work bounded last (inl ends) = inl (inl (over_of work reply last ends))
end_or_words before t reply work bounded last (inr (inl allocates)) = inl (inr (unsized_allocates t allocates))
end_or_words before t reply work bounded last (inr (inr copied)) = inr (took before work bounded (inr (inr copied)))

-- no more units were looks than all that were left
few_units : (left looks : ℕ) → looks ≤ left → looks / 32 ≤ units_of left
few_units left looks few = omega (arith, units_fall left 0 looks (omega (arith, few)))

-- a call that can do no more took its words, or performed all units that were due
spent_words : (before : Pace) (due : ℕ) (work : Work) → 1 ≤ before.words → IsSpent (CountUpTo before.words) (min due before.words) work.looks work.steps → (due ≤ units work) ⊎ IsTrue (took_its_words before work)
spent_words before due work bounded (inl all) = elim (cases_lt (units work) before.words) [
  | inl fewer ↦ inl (omega (arith, all, fewer))
  | inr many ↦ inr (took before work bounded (inl many))
]
spent_words before due work bounded (inr many) = inr (took before work bounded (inr (inl many)))

ends_within : (before : Pace) (due left : ℕ) (s t : State) (work : Work) → 1 ≤ before.words → work.looks ≤ left → IsWork (CountUpTo before.words) None (Some before.words) (min due before.words) s t work
    → work_left s + units_of left ≤ due → HasEnded t work ⊎ IsTrue (took_its_words before work)
ends_within before due left s t work bounded few w low = elim (cases_lt work.steps 1) [
  | inl zero ↦ (let no : work.steps ≡ 0 = omega (arith, zero) in elim (spent_words before due work bounded (w.none no).spent) [
    | inl all ↦ absurd (omega (arith, all, low, no, some_left s, few_units left work.looks few))
    | inr took ↦ inr took
  ])
  | inr some ↦ (let p = w.some some in elim p.ended [
    | inl spent ↦ elim (spent_words before due work bounded spent) [
      | inl all ↦ inl (inl (over_of work p.reply p.last (run_over None work.steps s t p.reply p.run (omega (arith, low, all, few_units left work.looks few)))))
      | inr took ↦ inr took
    ]
    | inr ends ↦ end_or_words before t p.reply work bounded p.last ends
  ])
]

ends_through : (due : ℕ) (s t : State) (work : Work) → 1 ≤ due → IsWork AreFree None None due s t work → work_left s ≤ due → HasEnded t work
ends_through due s t work busy w low = elim (cases_lt work.steps 1) [
  | inl zero ↦ absurd (omega (arith, zero, busy, (w.none (omega (arith, zero))).spent))
  | inr some ↦ (let p = w.some some in elim p.ended [
    | inl spent ↦ inl (over_of work p.reply p.last (run_over None work.steps s t p.reply p.run (omega (arith, low, spent))))
    | inr (inl ends) ↦ inl (over_of work p.reply p.last ends)
    | inr (inr (inl allocates)) ↦ inr (unsized_allocates t allocates)
    | inr (inr (inr never)) ↦ absurd never
  ])
]

-- the steps lowered the work that is left by their number
work_falls : (s t : State) (work : Work) → IsDueWork s t work → is_over work ≡ false → work_left t + work.steps ≤ work_left s
work_falls s t work done going = elim (cases_lt work.steps 1) [
  | inl zero ↦ (let same = ap work_left (done.none (omega (arith, zero))) in omega (arith, same, zero))
  | inr some ↦ (let p = done.some some in p.1.falls (on_of work p.0 p.2 going))
]

-- the steps, and the entries that remain, are no more than the work that was left
work_logs : (s t : State) (work : Work) → IsDueWork s t work → entries_left t + work.steps ≤ work_left s
work_logs s t work done = elim (cases_lt work.steps 1) [
  | inl zero ↦ (let same = ap entries_left (done.none (omega (arith, zero))) in omega (arith, same, zero, entries_low s))
  | inr some ↦ (done.some some).1.logs
]

-- it is so many useful steps later
pub work_state : (s t : State) (work : Work) → IsDueWork s t work → t ≡ after_useful None work.steps s
work_state s t work done = elim (cases_lt work.steps 1) [
  | inl zero ↦ (let no : work.steps ≡ 0 = omega (arith, zero) in done.none no ∙ ap (λ n. after_useful None n s) (sym no))
  | inr some ↦ (done.some some).1.state
]

-- work that goes on did not flip
quiet : (work : Work) → is_over work ≡ false → has_flipped work ≡ false
quiet work going = grind (arith, common_steps)

module _ (wanted : ℕ) (old new : Collected) (before after : Pace) (work : Work)
    (heap : IsSpaceGraph old.core.size old.core.heap.free old.core.heap.graph) (opened : IfSome old.core.collection (IsOpened old.core)) (looks : HaveFallen old.roots_left new.roots_left work)
    (none : steps_due before (counts_in old) wanted ≡ 0 → (new.core ≡ old.core) × (work ≡ no_work))
    (some : 1 ≤ steps_due before (counts_in old) wanted → before.words ≡ 0 → IsWork AreFree None None (steps_due before (counts_in old) wanted) old.core new.core work)
    (within : 1 ≤ steps_due before (counts_in old) wanted → 1 ≤ before.words → IsWork (CountUpTo before.words) None (Some before.words) (min (steps_due before (counts_in old) wanted) before.words) old.core new.core work)
    (paid : Pays before (counts_in old) (steps_due before (counts_in old) wanted)) (pace : after ≡ pace_after before (steps_due before (counts_in old) wanted) work (counts_in new)) where
  abbrev due : ℕ
  due = steps_due before (counts_in old) wanted

  -- useful steps in order, or none
  done : IsDueWork old.core new.core work
  done = elim (cases_lt due 1) [
    | inl zero ↦ (let idle = none (omega (arith, zero)) in record {
      none = λ _. idle.0;
      some = λ steps. absurd (omega (arith, steps, ap (λ (w : Work). w.steps) idle.1));
      none_copied = λ _. ap (λ (w : Work). w.copied) idle.1;
      copied = λ steps. absurd (omega (arith, steps, ap (λ (w : Work). w.steps) idle.1));
    })
    | inr busy ↦ due_work before due old.core new.core work busy (some busy) (within busy)
  ]

  bound : CountsAll (counts_in old) → units_left old ≤ steps_left (counts_in old)
  bound all = counts_bound old (λ c is. left_bounded old.core c heap opened is) all

  logs : CountsAll (counts_in old) → (counts_in new).logged + work.steps + units_of (counts_in old).roots_left ≤ steps_left (counts_in old)
  logs all = omega (arith, work_logs old.core new.core work done, logged_low new.core, bound all)

  few : units work ≤ units_left old
  few = omega (arith, work_logs old.core new.core work done, few_units old.roots_left work.looks looks.few)

  falls : is_over work ≡ false → units_left new + units work ≤ units_left old
  falls going =
      let steps = work_falls old.core new.core work done going in
      let looked = units_fall old.roots_left new.roots_left work.looks (looks.less (quiet work going)) in
      omega (arith, steps, looked)

  enough : CountsAll (counts_in old) → steps_left (counts_in old) ≤ due → HasEnded new.core work ⊎ IsTrue (took_its_words before work)
  enough all most =
      let busy : 1 ≤ due = omega (arith, most, some_left old.core, bound all) in
      elim (cases_lt before.words 1) [
        | inl free ↦ inl (ends_through due old.core new.core work busy (some busy (omega (arith, free))) (omega (arith, most, bound all)))
        | inr bounded ↦ ends_within before due old.roots_left old.core new.core work bounded looks.few (within busy bounded) (omega (arith, most, bound all))
      ]

  begun : (counts_in old).is_open ≡ 0 → 1 ≤ work.steps → is_over work ≡ false → units_left new ≤ (counts_in old).end + units_of (counts_in old).roots_left
  begun idle steps going = grind (arith, common_steps, falls, end_at)

  -- the work after the call, which owes so many steps
  ahead_of : (gone owed : ℕ) → min (min gone (steps_left (counts_in old))) 4294967295 ≤ due → gone ≤ 4294967295 → CountsAll (counts_in old) → due ≤ units work + owed → is_over work ≡ false
      → units_left new ≤ owed + (units_left old - gone)
  ahead_of gone owed pays small all made going = let b = bound all in let f = falls going in omega arith

  ahead : WorkGoesOn wanted (counts_in old) before work → units_left new ≤ after.owed + (units_left old - (before.owed + spent before (counts_in old)))
  ahead on =
      let owes : after.owed ≡ owed_after before due work = ap (λ (p : Pace). p.owed) pace in
      let left = ahead_of (before.owed + spent before (counts_in old)) (owed_after before due work) (paid on.collecting) on.few on.counted on.performed on.going in
      omega (arith, left, owes)

  paced_work : IsPacedWork wanted old new before after work
  paced_work = record {
    none = none;
    some = some;
    within = within;
    paid = paid;
    pace = pace;
    logs = logs;
    enough = enough;
    looks = looks;
    few = few;
    falls = falls;
    begun = begun;
    ahead = ahead;
    fewer = omega (arith, logged_low new.core, entries_low new.core);
  }

-- the same, as the call finds the counts and the steps that are due
pub paced_call : (wanted due : ℕ) (old new : Collected) (before after : Pace) (work : Work) (counts later : Counts)
    → due ≡ steps_due before counts wanted → Pays before counts due → HaveFallen old.roots_left new.roots_left work
    → (due ≡ 0 → (new.core ≡ old.core) × (work ≡ no_work)) → (1 ≤ due → before.words ≡ 0 → IsWork AreFree None None due old.core new.core work) → (1 ≤ due → 1 ≤ before.words → IsWork (CountUpTo before.words) None (Some before.words) (min due before.words) old.core new.core work)
    → after ≡ pace_after before due work later → counts ≡ counts_in old → later ≡ counts_in new
    → IsSpaceGraph old.core.size old.core.heap.free old.core.heap.graph → IfSome old.core.collection (IsOpened old.core)
    → IsPacedWork wanted old new before after work
paced_call wanted due old new before after work counts later is pays looks none some within pace at then heap opened =
    let same : due ≡ steps_due before (counts_in old) wanted = is ∙ ap (λ (n : Counts). steps_due before n wanted) at in
    paced_work wanted old new before after work heap opened looks
    (subst (λ (n : ℕ). n ≡ 0 → (new.core ≡ old.core) × (work ≡ no_work)) same none)
    (subst (λ (n : ℕ). 1 ≤ n → before.words ≡ 0 → IsWork AreFree None None n old.core new.core work) same some)
    (subst (λ (n : ℕ). 1 ≤ n → 1 ≤ before.words → IsWork (CountUpTo before.words) None (Some before.words) (min n before.words) old.core new.core work) same within)
    (subst (λ (n : ℕ). Pays before (counts_in old) n) same (subst (λ (n : Counts). Pays before n due) at pays))
    (pace ∙ (ap (λ (n : ℕ). pace_after before n work later) same ∙ ap (pace_after before (steps_due before (counts_in old) wanted) work) then))

-- what a call performed, whether steps were due or not
pub call_done : (wanted : ℕ) (old new : Collected) (before after : Pace) (work : Work) → IsPacedWork wanted old new before after work → IsDueWork old.core new.core work
call_done wanted old new before after work paced = elim (cases_lt (steps_due before (counts_in old) wanted) 1) [
  | inl zero ↦ (let idle = paced.none (omega (arith, zero)) in record {
    none = λ _. idle.0;
    some = λ steps. absurd (omega (arith, steps, ap (λ (w : Work). w.steps) idle.1));
    none_copied = λ _. ap (λ (w : Work). w.copied) idle.1;
    copied = λ steps. absurd (omega (arith, steps, ap (λ (w : Work). w.steps) idle.1));
  })
  | inr busy ↦ due_work before (steps_due before (counts_in old) wanted) old.core new.core work busy (paced.some busy) (paced.within busy)
]

-- what a call performed, if steps were due
pub call_work : (wanted : ℕ) (old new : Collected) (before after : Pace) (work : Work) → IsPacedWork wanted old new before after work → 1 ≤ steps_due before (counts_in old) wanted → IsDueWork old.core new.core work
call_work wanted old new before after work paced busy = due_work before (steps_due before (counts_in old) wanted) old.core new.core work busy (paced.some busy) (paced.within busy)
