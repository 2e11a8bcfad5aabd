-- A script has only commands of the events, in their order, so their numbers are in range as those of the events are.
use Rattle.std.proofs.Common.{ℕ, ◌==◌, List, [], ◌∷◌, ◌++◌}
use Rattle.std.specs.List.{AllByRecursion}
use Rattle.std.proofs.lemmas.Bool.{cond_both}
use Rattle.std.proofs.lemmas.List.FromFn.{length-map-range_with_len}
use Rattle.gc_graph.specs.Range.{IsCommand}
use Rattle.gc_graph.specs.declared.command.Op.{Op}
use Rattle.gc_model.specs.declared.event.Event.{Event}
use Rattle.gc_model.specs.declared.event.Event.TheVariants.{Mutate, Collect}
use Rattle.gc_trace.specs.Grammar.{IsOf}
use Rattle.gc_model.specs.Runs.{command_by, commands_of}
use Rattle.gc_trace.proofs.laws.scripts_are_commands.Goals as goal

more : (xs ys : List Op) → AllByRecursion IsCommand xs → AllByRecursion IsCommand ys → AllByRecursion IsCommand (xs ++ ys)
more [] ys h k = k
more (x ∷ xs) ys h k = (h.0, more xs ys h.1 k)

one : (m mutators : ℕ) (event : Event) → IsOf mutators event → AllByRecursion IsCommand (command_by m event)
one m mutators (Mutate other op) of = cond_both (other == m) (op ∷ []) [] (AllByRecursion IsCommand) (λ t. (of.1, tt)) (λ t. tt)
one m mutators (Collect step) of = tt

commands : (m mutators : ℕ) (events : List Event) → AllByRecursion (IsOf mutators) events → AllByRecursion IsCommand (commands_of m events)
commands m mutators [] of = tt
commands m mutators (event ∷ events) of = more (command_by m event) (commands_of m events) (one m mutators event of.0) (commands m mutators events of.1)

pub returns : goal.returns
returns c = record { count = λ mutators events. length-map-range_with_len (λ m. commands_of m events) 0 mutators; commands = commands }
