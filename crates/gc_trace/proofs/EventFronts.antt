-- The tokens of an event at the start of a text.
use Rattle.std.proofs.lemmas.Grind.{common_steps}
use Rattle.std.proofs.Common.{◌≡◌, ℕ, List, [], ◌∷◌, ◌++◌, refl, ap, ◌∙◌, arith, append_assoc}
use Rattle.std.specs.Prelude.{codes}
use Rattle.std.specs.Fmt.{decimal}
use Rattle.gc_text.specs.Lines.{space, joined}
use Rattle.gc_graph.specs.declared.command.Op.{Op}
use Rattle.gc_model.specs.declared.step.Step.{Step}
use Rattle.gc_model.specs.declared.event.Event.TheVariants.{Mutate, Collect}
use Rattle.gc_trace.specs.Grammar.{op_tokens, step_tokens, event_tokens}
use Rattle.gc_trace.specs.Internal.Fronts.{spaced}

pub command_spelled : (m : ℕ) (op : Op) (rest : List ℕ) → spaced (event_tokens (Mutate m op)) rest ≡ codes "m" ++ space ∷ (decimal m ++ space ∷ spaced (op_tokens op) rest)
unfolding event_tokens op_tokens
command_spelled m op rest = grind (arith, common_steps)

pub collect_spelled : (step : Step) (rest : List ℕ) → spaced (event_tokens (Collect step)) rest ≡ codes "c" ++ space ∷ spaced (step_tokens step) rest
unfolding event_tokens step_tokens
collect_spelled step rest = grind (arith, common_steps)

-- joined tokens and then the rest of the text
pub joined_spaced : (tokens : List (List ℕ)) (rest : List ℕ) → joined tokens ++ rest ≡ spaced tokens rest
joined_spaced [] rest = refl
joined_spaced (token ∷ []) rest = refl
joined_spaced (token ∷ next ∷ tokens) rest = append_assoc token (space ∷ joined (next ∷ tokens)) rest ∙ ap (λ (t : List ℕ). token ++ space ∷ t) (joined_spaced (next ∷ tokens) rest)
