-- The report has the run's steps, and the words that replicas took are counted from the new space's end at the start.
use Rattle.std.proofs.Common.{◌≡◌, ◌⊎◌, ⊎_elim, inl, inr, ◌<◌, ◌≤◌, ◌-◌, ℕ, suc, Option, Some, None, false, sym, ap, subst, arith}
use Rattle.std.specs.Prelude.{IfSome}
use Rattle.gc_model.specs.State.{State}
use Rattle.gc_copy.specs.declared.collection.stepping.StepRun.{StepRun}
use Rattle.gc_collected.specs.CollectedHeap.{Allocates}
use Rattle.gc_collected.specs.Collected.{Collected}
use Rattle.gc_pace.specs.Internal.Performed.{HasDone, HasSeen, steps_in}
use Rattle.gc_pace.specs.Internal.Waiting.{HaveRun}
use Rattle.gc_pace.specs.Work.{HaveFewLooks, IsEnd, IsSpent, IsWork, after_useful, useful_reply, end_after, end_in, goes_on, is_flip, sized_step}
use Rattle.gc_pace.proofs.Performed.{reported}
use Rattle.gc_pace.proofs.Waiting.{leaves_beside}
use Rattle.gc_pace.proofs.work.work_within_as.Goals as goal

pub returns-clause-work : goal.returns-clause-work
returns-clause-work c =
    let old = c.args.heap.now in
    let before = c.useful_steps.new.heap in
    let run = c.in-Some.run' in
    let e = c.in_ok-looks.ensures in
    let r = c.report-work.ensures in
    let start : c.end_of_new-start.result ≡ end_in old.core = c.end_of_new-start.ensures in
    let done = subst (HasDone (λ t reply. end_after t reply - c.end_of_new-start.result < c.args.words) None old before) c.in-Some.is e.done in
    let ended = subst (λ (o : Option StepRun). IsSpent c.args.looks_as c.args.most c.in_ok-looks.field-0.looks (steps_in o)
    ⊎ IfSome o (λ x. (goes_on x.reply ≡ false) ⊎ (Allocates before.core (sized_step None before.core) ⊎ (c.args.words ≤ end_after before.core x.reply - c.end_of_new-start.result)))) c.in-Some.is e.ended in
    subst (λ (s : State). IsWork c.args.looks_as None (Some c.args.words) c.args.most old.core s c.report-work.result) (sym (ap (λ (h : Collected). h.core) c.give_back.ensures))
    (reported (λ t reply. end_after t reply - c.end_of_new-start.result < c.args.words) c.args.looks_as None (Some c.args.words) c.args.most c.end_of_new-start.result old before c.report-work.result run start r.steps r.copied r.last
    done
    (subst (λ (o : Option StepRun). steps_in o ≤ c.args.most) c.in-Some.is e.steps)
    (subst (λ (n : ℕ). IsSpent c.args.looks_as c.args.most n run.steps ⊎ IsEnd None (Some c.args.words) before.core run.reply c.report-work.result.copied) (sym r.looks)
    (⊎_elim (λ spent. inl spent) (λ ends. inr (subst (λ (n : ℕ). (goes_on run.reply ≡ false) ⊎ (Allocates before.core (sized_step None before.core) ⊎ (c.args.words ≤ n))) (sym r.copied) ends)) ended))
    (λ k less. subst (λ (n : ℕ). end_after (after_useful None (suc k) old.core) (useful_reply None k old.core) - n < c.args.words) start (done.short k (omega (arith, less, r.steps))))
    (subst (HaveFewLooks c.args.looks_as c.args.most) (sym r.looks) e.few))

pub returns-clause-beside : goal.returns-clause-beside
returns-clause-beside c =
    let old = c.args.heap.now in
    let before = c.useful_steps.new.heap in
    let e = c.in_ok-looks.ensures in
    let r = c.report-work.ensures in
    leaves_beside (λ t reply. end_after t reply - c.end_of_new-start.result < c.args.words) None old before c.give_back.new.self c.report-work.result c.in-Some.run' r.steps r.last
    (subst (HasDone (λ t reply. end_after t reply - c.end_of_new-start.result < c.args.words) None old before) c.in-Some.is e.done)
    (subst (λ (o : Option StepRun). IfSome o (λ x. HaveRun None old.core before.core old.beside (is_flip x.reply) before.beside.rooms)) c.in-Some.is e.rooms)
    (subst (λ n. HasSeen old.roots_left before.roots_left n (Some c.in-Some.run')) (sym r.looks) (subst (HasSeen old.roots_left before.roots_left c.in_ok-looks.field-0.looks) c.in-Some.is e.looks))
    c.give_back.ensures
