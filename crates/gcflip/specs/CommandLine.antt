-- The command line in terms of clap's definitions, and the tasks that arguments ask for.
use Rattle.std.specs.Prelude.{◌≡◌, ℕ, ◌≤◌, ⊤, pos, true, List, [], ◌∷◌, Option, Some, None, option_map, codes}
use Rattle.std.specs.List.{fold}
use Rattle.clap.specs.Lexer.{strip_byte}
use Rattle.clap.specs.Words.{App, Row, Rule, first_of, new_app, new_rule, with_rule, with_subcommand}
use Rattle.clap.specs.declared.builder.value_parser.ValueParser.{ValueParser}
use Rattle.clap.specs.declared.builder.value_parser.ValueParser.TheVariants.{Signed, Unsigned}
use Rattle.gcflip.specs.declared.task.Task.{Task}
use Rattle.gcflip.specs.declared.task.Task.TheVariants.{PlayInput, Play, Check, Report, Pair, Threads}

-- ---- the command line

-- a required argument that is a number
abbrev pub number_rule : List ℕ → ValueParser → Rule
number_rule name parser = record (new_rule name) { required = true; parser = Some parser }

-- a subcommand that takes the required argument FILE and nothing else
abbrev pub file_command : List ℕ → App
file_command name = with_rule (new_app name) (record (new_rule (codes "FILE")) { required = true })

-- N, the number of a flip, and TURNS, the number of collector steps
abbrev pub flip_rule : Rule
flip_rule = number_rule (codes "N") (Signed (pos 1) (pos 4294967295))

abbrev pub turns_rule : Rule
turns_rule = number_rule (codes "TURNS") (Unsigned 0 1000000)

-- `gcflip` with `play FILE`, `check FILE` and `report FILE`
abbrev pub files_line : App
files_line = fold (λ line name. with_subcommand line (file_command name).top) (new_app (codes "gcflip")) (codes "play" ∷ codes "check" ∷ codes "report" ∷ [])

-- the whole: also with `pair FILE N` and `threads FILE TURNS`
abbrev pub command_line : App
command_line = with_subcommand (with_subcommand files_line (with_rule (file_command (codes "pair")) flip_rule).top) (with_rule (file_command (codes "threads")) turns_rule).top

-- the argument does not begin with a hyphen, so clap takes it for a value and not for an option
abbrev pub IsPlainArgument : List ℕ → Type 0
IsPlainArgument argument = strip_byte 45 argument ≡ None

-- ---- tasks

-- the subcommand and the FILE of a task
abbrev pub asked : Task → Option (List ℕ × Option (List ℕ))
asked PlayInput = None
asked (Play file) = Some (codes "play", Some file.now)
asked (Check file) = Some (codes "check", Some file.now)
asked (Report file) = Some (codes "report", Some file.now)
asked (Pair file n) = Some (codes "pair", Some file.now)
asked (Threads file turns) = Some (codes "threads", Some file.now)

-- the task is that of this subcommand with this file
abbrev pub IsFor : List ℕ → List ℕ → Task → Type 0
IsFor name path task = asked task ≡ Some (name, Some path)

-- the number of the task is in range; flips are counted from 1
abbrev pub HasNumberInRange : Task → Type 0
HasNumberInRange (Pair file n) = 1 ≤ n
HasNumberInRange (Threads file turns) = turns ≤ 1000000
HasNumberInRange task = ⊤

-- the subcommand that clap found, and its FILE
abbrev pub file_of : Option (List ℕ × List Row) → Option (List ℕ × Option (List ℕ))
file_of found = option_map (λ f. (f.0, first_of (codes "FILE") f.1)) found
