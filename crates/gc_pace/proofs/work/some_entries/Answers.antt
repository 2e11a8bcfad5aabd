-- The entries that are applied are useful steps.
use Rattle.std.proofs.Common.{Option, is_some, ap, subst, sym}
use Rattle.gc_model.specs.declared.step.Step.TheVariants as steps
use Rattle.gc_copy.specs.StepRuns.{AppliesOn}
use Rattle.gc_copy.specs.Words.{RoomWords}
use Rattle.gc_collected.specs.Collected.{Beside}
use Rattle.gc_pace.specs.Beside.{LeavesAfter}
use Rattle.gc_pace.proofs.Repeats.{Laws, repeats_flip_not, repeats_leave, repeats_run, repeats_short}
use Rattle.gc_pace.proofs.StepsUseful.{IsToApply, applies_stay, to_apply}
use Rattle.gc_pace.proofs.work.some_entries.Goals as goal
use Rattle.gc_pace.proofs.work.some_entries.Goals.{After-apply_run}

laws_of : (c : After-apply_run) → Laws
laws_of c = record { lowers = c.useful_steps_end.ensures.lowers; useful = c.useful_steps_end.ensures.useful; entries = c.useful_steps_end.ensures.entries }

pub returns-clause-run : goal.returns-clause-run
returns-clause-run c = repeats_run c.args.size (steps.Apply c.args.m) (AppliesOn c.args.m c.args.until) c.args.until c.apply_run.result.steps c.args.heap.now.core c.apply_run.new.self.core c.apply_run.result.reply (laws_of (goal.at.returns-clause-run c).After-apply_run) (IsToApply c.args.m) (applies_stay c.args.size c.args.m c.args.until)
    (to_apply c.args.size c.args.m c.args.heap.now.core c.requires.useful c.is_sound.ensures.heap c.is_sound.ensures.open) c.apply_run.ensures.run

pub returns-clause-short : goal.returns-clause-short
returns-clause-short c = repeats_short c.args.size (steps.Apply c.args.m) (AppliesOn c.args.m c.args.until) c.args.until c.apply_run.result.steps c.args.heap.now.core c.apply_run.new.self.core c.apply_run.result.reply (laws_of (goal.at.returns-clause-short c).After-apply_run) (IsToApply c.args.m) (applies_stay c.args.size c.args.m c.args.until)
    (to_apply c.args.size c.args.m c.args.heap.now.core c.requires.useful c.is_sound.ensures.heap c.is_sound.ensures.open) c.apply_run.ensures.run

pub returns-clause-former : goal.returns-clause-former
returns-clause-former c =
    subst (λ (o : Option RoomWords). LeavesAfter c.args.size c.apply_run.result.steps c.args.heap.now.core c.args.heap.now.beside.former o) (sym (ap (λ (b : Beside). b.former) c.apply_run.ensures.beside))
    (repeats_leave c.args.size (steps.Apply c.args.m) (AppliesOn c.args.m c.args.until) c.args.until c.apply_run.result.steps c.args.heap.now.core c.apply_run.new.self.core c.apply_run.result.reply (laws_of (goal.at.returns-clause-former c).After-apply_run) (IsToApply c.args.m) (applies_stay c.args.size c.args.m c.args.until)
    (to_apply c.args.size c.args.m c.args.heap.now.core c.requires.useful c.is_sound.ensures.heap c.is_sound.ensures.open) c.apply_run.ensures.run c.args.heap.now.beside.former)

pub returns-clause-flips : goal.returns-clause-flips
returns-clause-flips c = repeats_flip_not c.args.size (steps.Apply c.args.m) (AppliesOn c.args.m c.args.until) c.args.until c.apply_run.result.steps c.args.heap.now.core c.apply_run.new.self.core c.apply_run.result.reply (laws_of (goal.at.returns-clause-flips c).After-apply_run) (IsToApply c.args.m) (applies_stay c.args.size c.args.m c.args.until)
    (to_apply c.args.size c.args.m c.args.heap.now.core c.requires.useful c.is_sound.ensures.heap c.is_sound.ensures.open) c.apply_run.ensures.run

pub returns-clause-open : goal.returns-clause-open
returns-clause-open c = ap is_some (to_apply c.args.size c.args.m c.args.heap.now.core c.requires.useful c.is_sound.ensures.heap c.is_sound.ensures.open).rooted.is
