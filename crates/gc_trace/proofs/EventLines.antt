-- The lines of a trace have no line feed inside, and their tokens have no space.
use Rattle.std.proofs.Common.{◌≡◌, ◌≢◌, ℕ, ◌<◌, Bool, true, false, cond, List, [], ◌∷◌, ◌++◌, refl, arith, append_assoc}
use Rattle.std.proofs.lemmas.Grind.{common_steps}
use Rattle.std.proofs.lemmas.Bool.{and_parts, ne_eqb}
use Rattle.std.specs.List.{list_all}
use Rattle.std.specs.Prelude.{codes, ◌^◌}
use Rattle.std.specs.Fmt.{decimal}
use Rattle.gc_text.specs.Lines.{HasNo, space, newline, joined}
use Rattle.gc_graph.specs.Slots.{SlotName}
use Rattle.gc_graph.specs.Range.{IsSlot, IsCommand}
use Rattle.gc_graph.specs.declared.command.Op.{Op}
use Rattle.gc_graph.specs.Limits.{most_words}
use Rattle.gc_model.specs.Runs.{IsStepWithin}
use Rattle.gc_text.proofs.Public.{HasNo-name, HasNo-decimal, HasNo-lacks, lacks, AllHaveNo, HasNo-joined, tokens_of, tokens_of-joined}
use Rattle.gc_model.specs.declared.step.Step.{Step}
use Rattle.gc_model.specs.declared.event.Event.{Event}
use Rattle.gc_model.specs.declared.event.Event.TheVariants.{Mutate, Collect}
use Rattle.gc_trace.specs.Grammar.{slot, op_tokens, step_tokens, event_tokens, event_line, HasLine}

HasNo-slot : (c : ℕ) (s : SlotName) → c < 48 → IsSlot s → HasNo c (slot s)
unfolding slot
HasNo-slot c s low fits = (elim s.shared as (λ (b : Bool). cond b 103 114 ≢ c) [ true ↦ omega arith | false ↦ omega arith ], HasNo-decimal c s.index low (omega (arith, fits)))

-- the same by a test, which is computed for names
abbrev all_lack : ℕ → List (List ℕ) → Bool
all_lack c tokens = list_all (lacks c) tokens

lacks-HasNo : (c : ℕ) (token : List ℕ) → HasNo c token → lacks c token ≡ true
lacks-HasNo c [] none = refl
lacks-HasNo c (b ∷ token) none = grind (arith, common_steps, ne_eqb, lacks-HasNo c token none.1)

AllHaveNo-lack : (c : ℕ) (tokens : List (List ℕ)) → all_lack c tokens ≡ true → AllHaveNo c tokens
AllHaveNo-lack c [] lack = tt
AllHaveNo-lack c (token ∷ tokens) lack = let parts = and_parts (lacks c token) (all_lack c tokens) lack in (HasNo-lacks c token parts.0, AllHaveNo-lack c tokens parts.1)

lacks-slot : (c : ℕ) (s : SlotName) → c < 48 → IsSlot s → lacks c (slot s) ≡ true
lacks-slot c s low fits = lacks-HasNo c (slot s) (HasNo-slot c s low fits)

lacks-decimal : (c n : ℕ) → c < 48 → n < 2 ^ 64 → lacks c (decimal n) ≡ true
lacks-decimal c n low small = lacks-HasNo c (decimal n) (HasNo-decimal c n low small)

op_lack : (c : ℕ) (op : Op) → c < 48 → IsCommand op → all_lack c (op_tokens op) ≡ true
unfolding op_tokens
op_lack c op low fits = grind (arith, common_steps, lacks-slot, lacks-decimal)

step_lack : (c : ℕ) (step : Step) → c < 48 → IsStepWithin most_words 16 step → all_lack c (step_tokens step) ≡ true
unfolding step_tokens
step_lack c step low fits = grind (arith, common_steps, lacks-decimal)

AllHaveNo-event : (c version : ℕ) (event : Event) → c < 48 → HasLine version event → AllHaveNo c (event_tokens event)
unfolding event_tokens
AllHaveNo-event c version (Mutate m op) low fits = (HasNo-name c (codes "m") low refl, (HasNo-decimal c m low (omega (arith, fits.range.0)), AllHaveNo-lack c (op_tokens op) (op_lack c op low fits.range.1)))
AllHaveNo-event c version (Collect step) low fits = (HasNo-name c (codes "c") low refl, AllHaveNo-lack c (step_tokens step) (step_lack c step low fits.range))

pub tokens_of-event : (version : ℕ) (event : Event) → HasLine version event → tokens_of (joined (event_tokens event)) ≡ event_tokens event
unfolding event_tokens
tokens_of-event version (Mutate m op) fits = tokens_of-joined (codes "m") (decimal m ∷ op_tokens op) (AllHaveNo-event space version (Mutate m op) (omega arith) fits)
tokens_of-event version (Collect step) fits = tokens_of-joined (codes "c") (step_tokens step) (AllHaveNo-event space version (Collect step) (omega arith) fits)

pub HasNo-event : (version : ℕ) (event : Event) → HasLine version event → HasNo newline (joined (event_tokens event))
HasNo-event version event fits = HasNo-joined (event_tokens event) (AllHaveNo-event newline version event (omega arith) fits)

pub event_line-more : (event : Event) (more : List ℕ) → event_line event ++ more ≡ joined (event_tokens event) ++ newline ∷ more
unfolding event_line
event_line-more event more = append_assoc (joined (event_tokens event)) (newline ∷ []) more
