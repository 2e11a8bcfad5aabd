-- The pairs that a walk finds, put in order, are forced and closed; an image that is not shaped has no certificate.
use Rattle.std.proofs.Common.{rules, ◌≡◌, ◌<◌, ◌^◌, [], length}
use Rattle.gc_words.specs.Fault.{shape_fault}
use Rattle.gc_words.specs.Views.{image_of}
use Rattle.gc_check.specs.declared.verdict.CheckFault.TheVariants as fault
use Rattle.gc_check.proofs.Placements.{old_refused, new_refused}
use Rattle.gc_check.proofs.Inferred.{HasFound, has_found, pairs_are_forced, pairs_together, pairs_hold}
use Rattle.gc_check.proofs.Joined.{pairs_have_tables, pairs_are_closed, pairs_hold_if_alike, old_is_shaped, new_is_shaped}
use Rattle.gc_check.proofs.inference.infer_with_table.Goals as goal
use Rattle.gc_check.proofs.inference.infer_with_table.Goals.{After-enter_rising}

pub returns-in-Err-clause-refused : goal.returns-in-Err-clause-refused
returns-in-Err-clause-refused c =
    old_refused (image_of c.args.old) (image_of c.args.new) [] c.of_old.result (c.of_old.ensures (shape_fault (image_of c.args.old)) c.in-Err.ensures)

pub returns-in-Err-clause-impossible : goal.returns-in-Err-clause-impossible
returns-in-Err-clause-impossible c = λ refusal same.
    let is : c.of_old.result ≡ fault.Refused refusal = cc in
    old_is_shaped (image_of c.args.old) (image_of c.args.new) c.of_old.result refusal (c.of_old.ensures (shape_fault (image_of c.args.old)) c.in-Err.ensures) is

pub returns-in-Err-new-clause-refused : goal.returns-in-Err-new-clause-refused
returns-in-Err-new-clause-refused c =
    new_refused (image_of c.args.old) (image_of c.args.new) [] c.of_new.result c.in-Ok.ensures.0 (c.of_new.ensures (shape_fault (image_of c.args.new)) c.in-Err-new.ensures)

pub returns-in-Err-new-clause-impossible : goal.returns-in-Err-new-clause-impossible
returns-in-Err-new-clause-impossible c = λ refusal same.
    let is : c.of_new.result ≡ fault.Refused refusal = cc in
    new_is_shaped (image_of c.args.old) (image_of c.args.new) c.of_new.result refusal (c.of_new.ensures (shape_fault (image_of c.args.new)) c.in-Err-new.ensures) is

found : (c : After-enter_rising) → HasFound (image_of c.args.old) (image_of c.args.new) c.in_ok-walk.walk.found c.in_ok-walk.walk.alike c.enter_rising.new.pairs.items
found c = has_found _ _ _ _ _ _ _ c.in-Ok.ensures.1 c.in-Ok-new.ensures.1 c.in_ok-walk.ensures.held c.in_ok-walk.ensures.met c.in_ok-walk.ensures.alike c.enter_rising.ensures.pairs

pub returns-clause-forced : goal.returns-clause-forced
returns-clause-forced c = pairs_are_forced _ _ _ _ _ (found (goal.at.returns-clause-forced c).After-enter_rising)

pub returns-clause-together : goal.returns-clause-together
returns-clause-together c = pairs_together _ _ _ _ _ (found (goal.at.returns-clause-together c).After-enter_rising)

pub returns-clause-closed : goal.returns-clause-closed
returns-clause-closed c = pairs_are_closed _ _ _ _ _ (found (goal.at.returns-clause-closed c).After-enter_rising)

pub returns-clause-complete : goal.returns-clause-complete
returns-clause-complete c = pairs_hold _ _ _ _ _ (found (goal.at.returns-clause-complete c).After-enter_rising)

pub returns-clause-table : goal.returns-clause-table
returns-clause-table c =
    let roots : length c.args.old.roots.now ≡ length c.args.new.roots.now = search rules in
    let few : length c.args.new.words.now < 2 ^ 32 = search rules in
    pairs_have_tables _ _ _ _ _ (found (goal.at.returns-clause-table c).After-enter_rising) c.in-Ok.ensures.0 c.in-Ok-new.ensures.0 roots few

pub returns-clause-alike : goal.returns-clause-alike
returns-clause-alike c = pairs_hold_if_alike _ _ _ _ _ (found (goal.at.returns-clause-alike c).After-enter_rising) c.in-Ok.ensures.0 c.in-Ok-new.ensures.0
