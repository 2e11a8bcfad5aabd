-- The scans are useful steps.
use Rattle.std.proofs.Common.{Option, is_some, ap, subst, sym}
use Rattle.gc_model.specs.declared.step.Step.TheVariants as steps
use Rattle.gc_copy.specs.StepRuns.{ScansOn}
use Rattle.gc_copy.specs.Words.{RoomWords}
use Rattle.gc_collected.specs.Collected.{Beside}
use Rattle.gc_pace.specs.Beside.{LeavesAfter}
use Rattle.gc_pace.proofs.Repeats.{Laws, repeats_flip_not, repeats_leave, repeats_run, repeats_short}
use Rattle.gc_pace.proofs.StepsUseful.{IsToScan, scans_stay, to_scan}
use Rattle.gc_pace.proofs.work.some_scans.Goals as goal
use Rattle.gc_pace.proofs.work.some_scans.Goals.{After-scan_run}

laws_of : (c : After-scan_run) → Laws
laws_of c = record { lowers = c.useful_steps_end.ensures.lowers; useful = c.useful_steps_end.ensures.useful; entries = c.useful_steps_end.ensures.entries }

pub returns-clause-run : goal.returns-clause-run
returns-clause-run c = repeats_run c.args.size steps.Scan (ScansOn c.args.until) c.args.until c.scan_run.result.steps c.args.heap.now.core c.scan_run.new.self.core c.scan_run.result.reply (laws_of (goal.at.returns-clause-run c).After-scan_run) IsToScan (scans_stay c.args.size c.args.until)
    (to_scan c.args.size c.args.heap.now.core c.requires.useful c.is_sound.ensures.heap c.is_sound.ensures.open) c.scan_run.ensures.run

pub returns-clause-short : goal.returns-clause-short
returns-clause-short c = repeats_short c.args.size steps.Scan (ScansOn c.args.until) c.args.until c.scan_run.result.steps c.args.heap.now.core c.scan_run.new.self.core c.scan_run.result.reply (laws_of (goal.at.returns-clause-short c).After-scan_run) IsToScan (scans_stay c.args.size c.args.until)
    (to_scan c.args.size c.args.heap.now.core c.requires.useful c.is_sound.ensures.heap c.is_sound.ensures.open) c.scan_run.ensures.run

pub returns-clause-former : goal.returns-clause-former
returns-clause-former c =
    subst (λ (o : Option RoomWords). LeavesAfter c.args.size c.scan_run.result.steps c.args.heap.now.core c.args.heap.now.beside.former o) (sym (ap (λ (b : Beside). b.former) c.scan_run.ensures.beside))
    (repeats_leave c.args.size steps.Scan (ScansOn c.args.until) c.args.until c.scan_run.result.steps c.args.heap.now.core c.scan_run.new.self.core c.scan_run.result.reply (laws_of (goal.at.returns-clause-former c).After-scan_run) IsToScan (scans_stay c.args.size c.args.until)
    (to_scan c.args.size c.args.heap.now.core c.requires.useful c.is_sound.ensures.heap c.is_sound.ensures.open) c.scan_run.ensures.run c.args.heap.now.beside.former)

pub returns-clause-flips : goal.returns-clause-flips
returns-clause-flips c = repeats_flip_not c.args.size steps.Scan (ScansOn c.args.until) c.args.until c.scan_run.result.steps c.args.heap.now.core c.scan_run.new.self.core c.scan_run.result.reply (laws_of (goal.at.returns-clause-flips c).After-scan_run) IsToScan (scans_stay c.args.size c.args.until)
    (to_scan c.args.size c.args.heap.now.core c.requires.useful c.is_sound.ensures.heap c.is_sound.ensures.open) c.scan_run.ensures.run

pub returns-clause-open : goal.returns-clause-open
returns-clause-open c = ap is_some (to_scan c.args.size c.args.heap.now.core c.requires.useful c.is_sound.ensures.heap c.is_sound.ensures.open).rooted.is
