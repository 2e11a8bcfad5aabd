-- Three subcommands are added one by one, and the definition is then the command line of those that take nothing but a file.
use Rattle.std.proofs.Common.{◌≡◌, rules, codes}
use Rattle.clap.specs.Words.{app_of, new_app}
use Rattle.gcflip.proofs.CommandLines.{adds_command}
use Rattle.gcflip.proofs.task.files.Goals as goal

pub returns-clause-shape : goal.returns-clause-shape
returns-clause-shape c =
    let top : app_of c.about.result ≡ new_app (codes "gcflip") = search rules in
    let play = adds_command _ _ c.in_ok-with_play.with_play _ _ c.in_ok-with_play.ensures c.in_ok-play.ensures.local top c.in_ok-play.ensures.shape in
    let check = adds_command _ _ c.in_ok-with_check.with_check _ _ c.in_ok-with_check.ensures c.in_ok-check.ensures.local play c.in_ok-check.ensures.shape in
    adds_command _ _ c.in_ok-subcommand.field-0 _ _ c.in_ok-subcommand.ensures c.in_ok-report.ensures.local check c.in_ok-report.ensures.shape
