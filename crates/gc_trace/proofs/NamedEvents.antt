-- Which event the tokens of a line name, if they are an event's.
use Rattle.std.proofs.lemmas.Grind.{common_steps}
use Rattle.std.proofs.Common.{◌≡◌, ℕ, ◌<◌, ◌^◌, Bool, true, false, cond, eqb, List, [], ◌∷◌, get_or, drop, refl, ap, arith}
use Rattle.std.specs.Prelude.{codes, if◌then◌else◌}
use Rattle.std.specs.Fmt.{decimal}
use Rattle.std.specs.Str.{bytes_eq}
use Rattle.std.specs.Str.Parse.{digits_value}
use Rattle.std.proofs.lemmas.Fmt.{digits_value-decimal}
use Rattle.gc_graph.specs.Limits.{most_words}
use Rattle.gc_graph.specs.Range.{IsSlot, IsCommand}
use Rattle.gc_graph.specs.Slots.{SlotName, own_slot}
use Rattle.gc_graph.specs.declared.command.Op.{Op}
use Rattle.gc_graph.specs.declared.command.Op.TheVariants as ops
use Rattle.gc_text.proofs.Public.{decimals, tokens_of}
use Rattle.gc_model.specs.Runs.{IsStepWithin}
use Rattle.gc_model.specs.declared.step.Step.{Step}
use Rattle.gc_model.specs.declared.step.Step.TheVariants as steps
use Rattle.gc_model.specs.declared.event.Event.{Event}
use Rattle.gc_model.specs.declared.event.Event.TheVariants.{Mutate, Collect}
use Rattle.gc_trace.specs.Grammar.{slot, op_tokens, step_tokens, event_tokens, HasLine}

abbrev Tokens : Type 0
Tokens = List (List ℕ)

-- Each definition below says what a token or tokens name. What it says of other tokens does not matter: nothing else has these tokens.

abbrev named_slot : List ℕ → SlotName
named_slot [] = own_slot 0
named_slot (letter ∷ digits) = record { shared = eqb letter 103; index = digits_value 10 digits }

-- the slot, or the number, that the argument at this place names
abbrev slot_in : Tokens → ℕ → SlotName
slot_in arguments i = named_slot (get_or arguments i [])

abbrev number_in : Tokens → ℕ → ℕ
number_in arguments i = digits_value 10 (get_or arguments i [])

-- what the first entry with this name makes of the arguments
abbrev by_name : {X : Type 0} → X → List (List ℕ × (Tokens → X)) → Tokens → X
by_name other table [] = other
by_name other [] (name ∷ arguments) = other
by_name other (entry ∷ table) (name ∷ arguments) = if bytes_eq name entry.0 then entry.1 arguments else by_name other table (name ∷ arguments)

abbrev named_op : Tokens → Op
named_op =
    by_name (ops.Look (own_slot 0))
    ((codes "new", λ a. ops.New (slot_in a 0) (number_in a 1) (number_in a 2))
    ∷ (codes "raw", λ a. ops.NewRaw (slot_in a 0) (number_in a 1) (number_in a 2))
    ∷ (codes "num", λ a. ops.Num (slot_in a 0) (number_in a 1))
    ∷ (codes "nil", λ a. ops.Nil (slot_in a 0))
    ∷ (codes "move", λ a. ops.Move (slot_in a 0) (slot_in a 1))
    ∷ (codes "get", λ a. ops.Get (slot_in a 0) (slot_in a 1) (number_in a 2))
    ∷ (codes "put", λ a. ops.Put (slot_in a 0) (number_in a 1) (slot_in a 2))
    ∷ (codes "same", λ a. ops.Same (slot_in a 0) (slot_in a 1))
    ∷ (codes "look", λ a. ops.Look (slot_in a 0))
    ∷ [])

abbrev named_begin : Tokens → Step
named_begin [] = steps.Begin
named_begin (size ∷ tokens) = steps.BeginSized (digits_value 10 size)

abbrev named_step : Tokens → Step
named_step =
    by_name steps.Drop
    ((codes "begin", named_begin)
    ∷ (codes "roots", λ a. steps.Roots)
    ∷ (codes "scan", λ a. steps.Scan)
    ∷ (codes "apply", λ a. steps.Apply (number_in a 0))
    ∷ (codes "flip", λ a. steps.Flip)
    ∷ [])

abbrev pub named_event : Tokens → Event
named_event = by_name (Collect steps.Drop) ((codes "m", λ a. Mutate (number_in a 0) (named_op (drop 1 a))) ∷ (codes "c", λ a. Collect (named_step a)) ∷ [])

-- the event that a line names
abbrev pub named_line : List ℕ → Event
named_line line = named_event (tokens_of line)

value_again : (n : ℕ) → n < 2 ^ 64 → digits_value 10 (decimal n) ≡ n
value_again n small = digits_value-decimal decimals n small

abbrev slot_of : Bool → ℕ → SlotName
slot_of shared index = record { shared = shared; index = index }

slot_again : (s : SlotName) → IsSlot s → named_slot (slot s) ≡ s
unfolding slot
slot_again s fits = rw (value_again s.index (omega (arith, fits))) (elim s.shared as (λ (b : Bool). slot_of (eqb (cond b 103 114) 103) s.index ≡ slot_of b s.index) [ true ↦ refl | false ↦ refl ])

op_again : (op : Op) → IsCommand op → named_op (op_tokens op) ≡ op
unfolding op_tokens
op_again op fits = grind (arith, common_steps, slot_again, value_again)

step_again : (step : Step) → IsStepWithin most_words 16 step → named_step (step_tokens step) ≡ step
unfolding step_tokens
step_again step fits = grind (arith, common_steps, value_again)

pub event_again : (version : ℕ) (event : Event) → HasLine version event → named_event (event_tokens event) ≡ event
unfolding event_tokens
event_again version (Mutate m op) fits = rw (value_again m (omega (arith, fits.range.0)), op_again op fits.range.1) refl
event_again version (Collect step) fits = ap Collect (step_again step fits.range)
