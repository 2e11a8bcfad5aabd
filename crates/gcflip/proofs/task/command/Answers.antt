-- Two subcommands with a file and a number are added to the others, and the definition is then the program's command line.
use Rattle.std.proofs.Common.{◌∙◌, ap, codes}
use Rattle.clap.specs.Words.{with_rule}
use Rattle.gcflip.specs.CommandLine.{file_command}
use Rattle.gcflip.proofs.CommandLines.{adds_command}
use Rattle.gcflip.proofs.task.command.Goals as goal

pub returns-clause-shape : goal.returns-clause-shape
returns-clause-shape c =
    let pair = adds_command _ _ c.in_ok-with_pair.with_pair _ _ c.in_ok-with_pair.ensures c.in_ok-pair.ensures.local c.in_ok-files.ensures.shape (c.in_ok-pair.ensures.shape ∙ ap (with_rule (file_command (codes "pair"))) c.flip_number.ensures.rule) in
    adds_command _ _ c.in_ok-subcommand.field-0 _ _ c.in_ok-subcommand.ensures c.in_ok-threads.ensures.local pair (c.in_ok-threads.ensures.shape ∙ ap (with_rule (file_command (codes "threads"))) c.turns.ensures.rule)
