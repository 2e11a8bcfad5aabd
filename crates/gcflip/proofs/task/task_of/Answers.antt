-- Arguments that are a subcommand and a file have no fault and are matched as such, so the only error left is out of memory.
use Rattle.std.proofs.Common.{◌≡◌, ◌∷◌, [], drop, map, rules, string_bytes}
use Rattle.clap.specs.Words.{Text}
use Rattle.gcflip.proofs.CommandLines.{HasFile, TakesFile, check_takes_file, file_arguments_taken, matches_of_file_arguments, no_fault, no_arguments_taken, play_takes_file, report_takes_file}
use Rattle.gcflip.proofs.task.task_of.Goals as goal
use Rattle.gcflip.proofs.task.task_of.Goals.{In_ok-matches}

found : (c : In_ok-matches) (name path : Text) → TakesFile name path → drop 1 (map string_bytes c.args.arguments.now) ≡ name ∷ path ∷ [] → HasFile c.in_ok-matches.matches name path
found c name path = matches_of_file_arguments _ _ _ name path c.in_ok-command.ensures.shape c.in_ok-matches.ensures.ok.2

pub returns-in_err-matches-clause-input : goal.returns-in_err-matches-clause-input
returns-in_err-matches-clause-input c none =
    let memory = c.in_err-matches.ensures.passes (no_arguments_taken _ _ c.in_ok-command.ensures.shape none) in
    search rules

pub returns-in-Some-clause-faultless : goal.returns-in-Some-clause-faultless
returns-in-Some-clause-faultless c =
    no_fault _ (map string_bytes c.args.arguments.now) c.in_ok-command.ensures.shape c.in_ok-matches.ensures.kinds

pub returns-in_err-matches-clause-play : goal.returns-in_err-matches-clause-play
returns-in_err-matches-clause-play c path plain e =
    let memory = c.in_err-matches.ensures.passes (file_arguments_taken _ _ _ path c.in_ok-command.ensures.shape (play_takes_file path plain) e) in
    search rules

pub returns-in-Some-clause-play : goal.returns-in-Some-clause-play
returns-in-Some-clause-play c path plain e =
    let file = found (goal.at.returns-in-Some-clause-play c).In_ok-matches _ path (play_takes_file path plain) e in
    c.in-Some.ensures.play file.rows path file.are file.first

pub returns-clause-play : goal.returns-clause-play
returns-clause-play c path plain e =
    let file = found (goal.at.returns-clause-play c).In_ok-matches _ path (play_takes_file path plain) e in
    absurd (c.in-None.ensures.play file.rows path file.are file.first)

pub returns-in_err-matches-clause-check : goal.returns-in_err-matches-clause-check
returns-in_err-matches-clause-check c path plain e =
    let memory = c.in_err-matches.ensures.passes (file_arguments_taken _ _ _ path c.in_ok-command.ensures.shape (check_takes_file path plain) e) in
    search rules

pub returns-in-Some-clause-check : goal.returns-in-Some-clause-check
returns-in-Some-clause-check c path plain e =
    let file = found (goal.at.returns-in-Some-clause-check c).In_ok-matches _ path (check_takes_file path plain) e in
    c.in-Some.ensures.check file.rows path file.are file.first

pub returns-clause-check : goal.returns-clause-check
returns-clause-check c path plain e =
    let file = found (goal.at.returns-clause-check c).In_ok-matches _ path (check_takes_file path plain) e in
    absurd (c.in-None.ensures.check file.rows path file.are file.first)

pub returns-in_err-matches-clause-report : goal.returns-in_err-matches-clause-report
returns-in_err-matches-clause-report c path plain e =
    let memory = c.in_err-matches.ensures.passes (file_arguments_taken _ _ _ path c.in_ok-command.ensures.shape (report_takes_file path plain) e) in
    search rules

pub returns-in-Some-clause-report : goal.returns-in-Some-clause-report
returns-in-Some-clause-report c path plain e =
    let file = found (goal.at.returns-in-Some-clause-report c).In_ok-matches _ path (report_takes_file path plain) e in
    c.in-Some.ensures.report file.rows path file.are file.first

pub returns-clause-report : goal.returns-clause-report
returns-clause-report c path plain e =
    let file = found (goal.at.returns-clause-report c).In_ok-matches _ path (report_takes_file path plain) e in
    absurd (c.in-None.ensures.report file.rows path file.are file.first)
