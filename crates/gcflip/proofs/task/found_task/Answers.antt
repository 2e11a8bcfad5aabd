-- The subcommand's file is in its rows, so the task is the one that the rows ask for.
use Rattle.std.proofs.Common.{◌≡◌, ℕ, List, Some, ap, codes, rules}
use Rattle.clap.specs.Words.{Row, Text, first_of, first_value, found_of, subcommand_name_of, subcommand_rows_of}
use Rattle.gcflip.specs.CommandLine.{file_of}
use Rattle.gcflip.proofs.CommandLines.{found_file, absent_has_no_text, matches_find_file, number_task_asked, present_has_text}
use Rattle.gcflip.proofs.task.found_task.Goals as goal
use Rattle.gcflip.proofs.task.found_task.Goals.{In_err-file, In_ok-file}

-- the rows of a subcommand whose matches have no file have none
no_file : (c : In_err-file) (name : Text) (rows : List Row) (path : Text) → subcommand_rows_of c.args.matches.now ≡ Some (name, rows) → first_of (codes "FILE") rows ≡ Some path → ⊥
no_file c name rows path is first = absent_has_no_text _ _ path (search rules) c.get_str.ensures (found_file c.in-Some.matches.now _ rows name path c.in-Some.ensures.rows is first)

-- the file is that of the subcommand's rows
file_is : (c : In_ok-file) (name : Text) (rows : List Row) (path : Text) → subcommand_rows_of c.args.matches.now ≡ Some (name, rows) → first_of (codes "FILE") rows ≡ Some path → c.in_ok-file.file.now ≡ path
file_is c name rows path is first = present_has_text c.get_str.result c.in_ok-file.file _ path (search rules) c.get_str.ensures (found_file c.in-Some.matches.now _ rows name path c.in-Some.ensures.rows is first)

file_found : (c : In_ok-file) (name : Text) → Some name ≡ subcommand_name_of c.args.matches.now → Some (name, Some c.in_ok-file.file.now) ≡ file_of (subcommand_rows_of c.args.matches.now)
file_found c name is =
    let first : first_value (found_of c.in-Some.matches.now) (codes "FILE") ≡ Some c.in_ok-file.file.now = search rules in
    matches_find_file c.args.matches.now c.in-Some.matches.now name _ is c.in-Some.ensures.rows first

pub returns-in_err-file-clause-play : goal.returns-in_err-file-clause-play
returns-in_err-file-clause-play c rows path is first = absurd (no_file (goal.at.returns-in_err-file-clause-play c).In_err-file _ rows path is first)

pub returns-in-play-clause-play : goal.returns-in-play-clause-play
returns-in-play-clause-play c rows path is first = ap (λ (text : List ℕ). Some (codes "play", Some text)) (file_is (goal.at.returns-in-play-clause-play c).In_ok-file _ rows path is first)

pub returns-in-play-clause-asked : goal.returns-in-play-clause-asked
returns-in-play-clause-asked c = file_found (goal.at.returns-in-play-clause-asked c).In_ok-file (codes "play") (search rules)

pub returns-in_err-file-clause-check : goal.returns-in_err-file-clause-check
returns-in_err-file-clause-check c rows path is first = absurd (no_file (goal.at.returns-in_err-file-clause-check c).In_err-file _ rows path is first)

pub returns-in-check-clause-check : goal.returns-in-check-clause-check
returns-in-check-clause-check c rows path is first = ap (λ (text : List ℕ). Some (codes "check", Some text)) (file_is (goal.at.returns-in-check-clause-check c).In_ok-file _ rows path is first)

pub returns-in-check-clause-asked : goal.returns-in-check-clause-asked
returns-in-check-clause-asked c = file_found (goal.at.returns-in-check-clause-asked c).In_ok-file (codes "check") (search rules)

pub returns-in_err-file-clause-report : goal.returns-in_err-file-clause-report
returns-in_err-file-clause-report c rows path is first = absurd (no_file (goal.at.returns-in_err-file-clause-report c).In_err-file _ rows path is first)

pub returns-in-report-clause-report : goal.returns-in-report-clause-report
returns-in-report-clause-report c rows path is first = ap (λ (text : List ℕ). Some (codes "report", Some text)) (file_is (goal.at.returns-in-report-clause-report c).In_ok-file _ rows path is first)

pub returns-in-report-clause-asked : goal.returns-in-report-clause-asked
returns-in-report-clause-asked c = file_found (goal.at.returns-in-report-clause-asked c).In_ok-file (codes "report") (search rules)

pub returns-in-pair-clause-asked : goal.returns-in-pair-clause-asked
returns-in-pair-clause-asked c = number_task_asked c.pair_task.result _ _ _ c.pair_task.ensures (file_found (goal.at.returns-in-pair-clause-asked c).In_ok-file (codes "pair") (search rules))

pub returns-in-threads-clause-asked : goal.returns-in-threads-clause-asked
returns-in-threads-clause-asked c = number_task_asked c.threads_task.result _ _ _ c.threads_task.ensures (file_found (goal.at.returns-in-threads-clause-asked c).In_ok-file (codes "threads") (search rules))
