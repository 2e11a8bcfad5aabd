-- What clap's definitions find in the program's arguments.
use Rattle.std.proofs.Common.{◌≡◌, ◌==◌, ◌∙◌, List, [], ◌∷◌, refl, sym, ap, codes, drop, Bool, true, false, Option, Some, None, option_map, IfSome}
use Rattle.std.specs.Borrow.{Bor}
use Rattle.std.specs.Box.{box_value}
use Rattle.std.specs.Prelude.{Box}
use Rattle.std.specs.Str.{bytes_eq}
use Rattle.clap.specs.Words.{AddsSubcommand, App, HasMatchesOf, Row, Text, app_of, shape_of, with_subcommand, fault_of, first_of, first_value, found_of, is_simple, is_simple_and_free, rows_of, subcommand_name_of, subcommand_of, subcommand_rows, subcommand_rows_of, takes}
use Rattle.clap.specs.declared.parser.ArgMatches.{ArgMatches}
use Rattle.clap.specs.declared.parser.matches.ArgMatches.TheViews.{out-ArgMatches, out-SubCommand}
use Rattle.clap.specs.declared.parser.matches.SubCommand.{SubCommand}
use Rattle.clap.proofs.OnLiterals.{clap_on_literals}
use Rattle.clap.proofs.WalkLemmas.{first_value-rows}
use Rattle.clap.specs.declared.builder.command.Command.{Command}
use Rattle.clap.specs.declared.builder.command.Command.TheViews.{out-Command}
use Rattle.gcflip.specs.CommandLine.{command_line, asked, file_of, IsFor, HasNumberInRange, IsPlainArgument}
use Rattle.gcflip.specs.declared.task.Task.{Task}

-- ---- no arguments after the program's name

none_taken : takes command_line ([] ∷ []) ≡ true
unfolding clap_on_literals
none_taken = refl

pub no_arguments_taken : (a : App) (arguments : List Text) → a ≡ command_line → drop 1 arguments ≡ [] → takes a arguments ≡ true
no_arguments_taken a arguments is e = ap (λ (b : App). takes b arguments) is ∙ ap (λ (rest : List Text). takes command_line ([] ∷ rest)) e ∙ none_taken

-- ---- a subcommand and a path

not_two_hyphens : (path : Text) → IsPlainArgument path → bytes_eq path (45 ∷ 45 ∷ []) ≡ false
not_two_hyphens [] plain = refl
not_two_hyphens (x ∷ xs) plain = go (x == 45) refl
  where
    go : (t : Bool) → (x == 45) ≡ t → bytes_eq (x ∷ xs) (45 ∷ 45 ∷ []) ≡ false
    go true e = let hyphen = rw e at plain in cc
    go false e = rw e refl

-- the program's command takes the subcommand's name and the path, and finds the path as its FILE
pub record TakesFile (name path : Text) : Type 0 where
  pub taken : takes command_line ([] ∷ name ∷ path ∷ []) ≡ true
  pub found : file_of (subcommand_of command_line ([] ∷ name ∷ path ∷ [])) ≡ Some (name, Some path)

pub play_takes_file : (path : Text) → IsPlainArgument path → TakesFile (codes "play") path
unfolding clap_on_literals
play_takes_file path plain = record { taken = simp (plain, not_two_hyphens path plain); found = simp (plain, not_two_hyphens path plain) }

pub check_takes_file : (path : Text) → IsPlainArgument path → TakesFile (codes "check") path
unfolding clap_on_literals
check_takes_file path plain = record { taken = simp (plain, not_two_hyphens path plain); found = simp (plain, not_two_hyphens path plain) }

pub report_takes_file : (path : Text) → IsPlainArgument path → TakesFile (codes "report") path
unfolding clap_on_literals
report_takes_file path plain = record { taken = simp (plain, not_two_hyphens path plain); found = simp (plain, not_two_hyphens path plain) }

pub file_arguments_taken : (a : App) (arguments : List Text) (name path : Text) → a ≡ command_line → TakesFile name path → drop 1 arguments ≡ name ∷ path ∷ [] → takes a arguments ≡ true
file_arguments_taken a arguments name path is takes_file e = ap (λ (b : App). takes b arguments) is ∙ ap (λ (rest : List Text). takes command_line ([] ∷ rest)) e ∙ takes_file.taken

file_arguments_found : (arguments : List Text) (name path : Text) → TakesFile name path → drop 1 arguments ≡ name ∷ path ∷ [] → file_of (subcommand_of command_line arguments) ≡ Some (name, Some path)
file_arguments_found arguments name path takes_file e = ap (λ (rest : List Text). file_of (subcommand_of command_line ([] ∷ rest))) e ∙ takes_file.found

-- ---- what the matches of the program's command contain

line_is_simple : is_simple command_line ≡ true
unfolding clap_on_literals
line_is_simple = refl

rows_are : (a : App) (arguments : List Text) (m : ArgMatches) → a ≡ command_line → HasMatchesOf a arguments m → subcommand_rows_of m ≡ subcommand_of command_line arguments
rows_are a arguments m is has = (has (ap is_simple is ∙ line_is_simple)).1 ∙ ap (λ (b : App). subcommand_of b arguments) is

line_is_simple_and_free : is_simple_and_free command_line ≡ true
unfolding clap_on_literals
line_is_simple_and_free = refl

pub no_fault : (a : App) (arguments : List Text) → a ≡ command_line → (is_simple_and_free a ≡ true → fault_of a arguments ≡ []) → fault_of command_line arguments ≡ []
no_fault a arguments is none =
    ap (λ (b : App). fault_of b arguments) (sym is) ∙ none (ap is_simple_and_free is ∙ line_is_simple_and_free)

-- the subcommand's rows, which contain the FILE
pub record HasFile (m : ArgMatches) (name path : Text) : Type 0 where
  pub rows : List Row
  pub are : subcommand_rows_of m ≡ Some (name, rows)
  pub first : first_of (codes "FILE") rows ≡ Some path

has_file : (m : ArgMatches) (o : Option (Text × List Row)) (name path : Text) → subcommand_rows_of m ≡ o → file_of o ≡ Some (name, Some path) → HasFile m name path
has_file m None name path is found = cc
has_file m (Some p) name path is found =
    let both : ◌≡◌ {A = Text × Option Text} (p.0, first_of (codes "FILE") p.1) (name, Some path) = cc in
    record {
      rows = p.1;
      are = is ∙ ap (λ (argument : Text). Some (argument, p.1)) (ap (λ (q : Text × Option Text). q.0) both);
      first = ap (λ (q : Text × Option Text). q.1) both;
    }

pub matches_of_file_arguments : (a : App) (arguments : List Text) (m : ArgMatches) (name path : Text) → a ≡ command_line → HasMatchesOf a arguments m → TakesFile name path → drop 1 arguments ≡ name ∷ path ∷ [] → HasFile m name path
matches_of_file_arguments a arguments m name path is has takes_file e =
    has_file m (subcommand_of command_line arguments) name path (rows_are a arguments m is has) (file_arguments_found arguments name path takes_file e)

-- ---- from the rows of a subcommand to what its matches give

pub found_file : (m : ArgMatches) (o : Option (Text × List Row)) (rows : List Row) (name path : Text) → Some (rows_of (found_of m)) ≡ option_map (λ p. p.1) o → o ≡ Some (name, rows) → first_of (codes "FILE") rows ≡ Some path → first_value (found_of m) (codes "FILE") ≡ Some path
found_file m o rows name path same is first =
    let is_rows : Some (rows_of (found_of m)) ≡ Some rows = same ∙ ap (option_map (λ (p : Text × List Row). p.1)) is in
    let rows_are : rows_of (found_of m) ≡ rows = cc in
    first_value-rows (found_of m) (codes "FILE") ∙ ap (first_of (codes "FILE")) rows_are ∙ first

-- ---- and back: a task is the one that the rows ask for

names_of_rows : {Z : Type 0} (s : Option (Box SubCommand Z)) → option_map (λ b. (out-SubCommand (box_value b)).name.now) s ≡ option_map (λ p. p.0) (subcommand_rows s)
names_of_rows None = refl
names_of_rows (Some b) = refl

finds_file : (o : Option (Text × List Row)) (name file : Text) (rows : List Row) → Some name ≡ option_map (λ p. p.0) o → Some rows ≡ option_map (λ p. p.1) o → first_of (codes "FILE") rows ≡ Some file → Some (name, Some file) ≡ file_of o
finds_file None name file rows is_name is_rows first = cc
finds_file (Some p) name file rows is_name is_rows first =
    let name_is : name ≡ p.0 = cc in
    let rows_are : p.1 ≡ rows = cc in
    let first_is : Some file ≡ first_of (codes "FILE") p.1 = sym (ap (first_of (codes "FILE")) rows_are ∙ first) in
    λ i. Some (name_is i, first_is i)

pub matches_find_file : (m found : ArgMatches) (name file : Text) → Some name ≡ subcommand_name_of m → Some (rows_of (found_of found)) ≡ option_map (λ p. p.1) (subcommand_rows_of m) → first_value (found_of found) (codes "FILE") ≡ Some file → Some (name, Some file) ≡ file_of (subcommand_rows_of m)
matches_find_file m found name file is_name is_rows first =
    finds_file (subcommand_rows_of m) name file (rows_of (found_of found)) (is_name ∙ names_of_rows (out-ArgMatches m).subcommand) is_rows
    (sym (first_value-rows (found_of found) (codes "FILE")) ∙ first)

-- ---- the value behind an optional reference

pub absent_has_no_text : (o : Option (Bor Text)) (v : Option Text) (text : Text) → o ≡ None → option_map (λ s. s.now) o ≡ v → v ≡ Some text → ⊥
absent_has_no_text None v text is same found = cc
absent_has_no_text (Some s) v text is same found = cc

pub present_has_text : (o : Option (Bor Text)) (s : Bor Text) (v : Option Text) (text : Text) → o ≡ Some s → option_map (λ s. s.now) o ≡ v → v ≡ Some text → s.now ≡ text
present_has_text None s v text is same found = cc
present_has_text (Some r) s v text is same found = let both : r ≡ s = cc in cc

-- ---- a subcommand with a number

-- a task for this subcommand and file is the one that its rows ask for
pub number_task_asked : (o : Option Task) (name file : Text) (found : Option (Text × List Row)) → IfSome o (λ task. IsFor name file task × HasNumberInRange task) → Some (name, Some file) ≡ file_of found → IfSome o (λ task. asked task ≡ file_of found)
number_task_asked None name file found is finds = tt
number_task_asked (Some task) name file found is finds = is.0 ∙ finds

-- ---- how the command line is put together

pub adds_command : (old sub new : Command) (a s : App) → AddsSubcommand old sub new → (out-Command sub).has_globals ≡ false → app_of old ≡ a → app_of sub ≡ s → app_of new ≡ with_subcommand a s.top
adds_command old sub new a s adds local is same = adds.shape local ∙ ap (λ (b : App). with_subcommand b (shape_of sub)) is ∙ ap (λ (b : App). with_subcommand a b.top) same
