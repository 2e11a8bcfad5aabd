-- After a good heading every text is a whole trace, or it has a bad line or an event of a mutator that does not exist.
use Rattle.std.proofs.lemmas.Grind.{common_steps}
use Rattle.std.proofs.Common.{Bool, true, false, ◌≡◌, ◌≢◌, ℕ, suc, zero, ◌+◌, ◌<◌, ◌≤◌, List, [], ◌∷◌, ◌++◌, length, drop, refl, sym, ap, ◌∙◌, arith, append_assoc, subst, inl, inr, ◌⊎◌}
use Rattle.std.specs.List.{flat_map}
use Rattle.std.specs.Str.{bytes_eq}
use Rattle.std.proofs.lemmas.Bool.{leb-true, false≢true}
use Rattle.std.proofs.lemmas.Slice.Eq.{bytes_eq-Decides}
use Rattle.std.proofs.Math.Seq.{drop-append_seam}
use Rattle.std.proofs.lemmas.List.{append-nil, length-append}
use Rattle.std.proofs.lemmas.List.Concat.{flat_map-append, flat_map-cons}
use Rattle.gc_text.specs.Lines.{newline, joined}
use Rattle.gc_graph.specs.Limits.{most_words, most_mutators}
use Rattle.gc_graph.specs.Range.{IsCommand}
use Rattle.gc_graph.specs.declared.command.Op.{Op}
use Rattle.gc_graph.specs.declared.command.Op.TheVariants as ops
use Rattle.gc_model.specs.Runs.{IsStepWithin}
use Rattle.gc_graph.proofs.Public.{all_push}
use Rattle.gc_text.proofs.Public.{cut}
use Rattle.gc_model.specs.declared.step.Step.{Step}
use Rattle.gc_model.specs.declared.step.Step.TheVariants as steps
use Rattle.gc_model.specs.declared.event.Event.{Event}
use Rattle.gc_model.specs.declared.event.Event.TheVariants.{Mutate, Collect}
use Rattle.gc_trace.specs.Grammar.{Recording, event_tokens, event_line, trace_heading, trace_text, newest, IsHeading, HasLine, IsOf, IsTraceText, version_of}
use Rattle.gc_trace.specs.Faults.{trace_limit, GoodBefore, HasNoHeading, HasBadLine, HasStranger, IsTraceFaultOf, IsReadAsTrace}
use Rattle.gc_trace.specs.declared.fault.TraceFault.{TraceFault}
use Rattle.gc_trace.specs.declared.fault.TraceFault.TheVariants.{TooLarge, BadHeader, BadLine, NoSuchMutator}
use Rattle.gc_trace.proofs.EventLines.{event_line-more}
use Rattle.gc_trace.proofs.NamedEvents.{named_line}
use Rattle.gc_trace.proofs.FrontFaults.{no_line, no_event}

-- ---- what can be decided

abbrev Decided : Type 0 → Type 0
Decided A = A ⊎ (A → ⊥)

dec_le : (m n : ℕ) → Decided (m ≤ n)
dec_le m n = grind (arith, common_steps, leb-true)

dec_lt : (m n : ℕ) → Decided (m < n)
dec_lt m n = grind (arith, common_steps, dec_le)

dec_both : {A B : Type 0} → Decided A → Decided B → Decided (A × B)
dec_both (inl a) (inl b) = inl (a, b)
dec_both (inl a) (inr never) = inr (λ both. never both.1)
dec_both (inr never) b = inr (λ both. never both.0)

dec_command : (op : Op) → Decided (IsCommand op)
dec_command (ops.Nil d) = dec_lt d.index 16
dec_command op = grind (arith, common_steps, dec_lt)

dec_step : (mutators : ℕ) (step : Step) → Decided (IsStepWithin most_words mutators step)
dec_step mutators (steps.BeginSized size) = dec_both (dec_le 1 size) (dec_le size most_words)
dec_step mutators (steps.Apply k) = dec_lt k mutators
dec_step mutators step = inl tt

dec_of : (mutators : ℕ) (event : Event) → Decided (IsOf mutators event)
dec_of mutators (Mutate m op) = dec_both (dec_lt m mutators) (dec_command op)
dec_of mutators (Collect step) = dec_step mutators step

dec_line : (version : ℕ) (event : Event) → Decided (HasLine version event)
dec_line version event = on (dec_both (dec_of 16 event) (dec_le (version_of event) version))
  where
    on : Decided (IsOf 16 event × (version_of event ≤ version)) → Decided (HasLine version event)
    on (inl both) = inl (record { range = both.0; known = both.1 })
    on (inr never) = inr (λ fits. never (fits.range, fits.known))

dec_bytes : (xs ys : List ℕ) → Decided (xs ≡ ys)
dec_bytes xs ys = on (bytes_eq xs ys) refl
  where
    on : (b : Bool) → bytes_eq xs ys ≡ b → Decided (xs ≡ ys)
    on true same = inl ((bytes_eq-Decides xs ys).0 same)
    on false other = inr (λ same. false≢true (sym other ∙ (bytes_eq-Decides xs ys).1 same))

-- the line is that of the event that it names, or it is no event's
named : (version : ℕ) (line : List ℕ) → (HasLine version (named_line line) × (line ≡ joined (event_tokens (named_line line)))) ⊎ (HasLine version (named_line line) → line ≢ joined (event_tokens (named_line line)))
named version line =
    elim (dec_line version (named_line line)) [
      | inr none ↦ inr (λ fits. absurd (none fits))
      | inl fits ↦ elim (dec_bytes line (joined (event_tokens (named_line line)))) [ inl same ↦ inl (fits, same) | inr other ↦ inr (λ _. other) ]
    ]

-- a recording of these parts
abbrev pub made_of : ℕ → ℕ → ℕ → List Event → Recording
made_of version size mutators events = record { version = version; size = size; mutators = mutators; events = events }

-- no line of an event was read yet
pub good_start : (text rest : List ℕ) (v s m : ℕ) → IsHeading v s m → text ≡ trace_heading v s m ++ rest → GoodBefore text 3 (made_of v s m []) rest
unfolding trace_text
good_start text rest v s m fits is = record {
  lines = trace_heading v s m;
  good = record { recording = record { heading = fits; events = tt }; spelled = sym (append-nil (trace_heading v s m)) };
  parts = is;
  number = refl;
}

-- one more line was read
pub good_more : (text : List ℕ) (n v s m : ℕ) (events : List Event) (rest : List ℕ) (e : Event) (after : List ℕ) → GoodBefore text n (made_of v s m events) rest → HasLine v e → IsOf m e → rest ≡ event_line e ++ after
    → GoodBefore text (n + 1) (made_of v s m (events ++ e ∷ [])) after
unfolding trace_text
good_more text n v s m events rest e after so_far fits of is =
    let more : flat_map event_line (events ++ e ∷ []) ≡ flat_map event_line events ++ event_line e = flat_map-append event_line events (e ∷ []) ∙ ap (λ (l : List ℕ). flat_map event_line events ++ l) (flat_map-cons event_line e [] ∙ append-nil (event_line e)) in
    record {
      lines = so_far.lines ++ event_line e;
      good = record {
        recording = record { heading = so_far.good.recording.heading; events = all_push (λ event. HasLine v event × IsOf m event) events e so_far.good.recording.events (fits, of) };
        spelled = ap (λ (l : List ℕ). l ++ event_line e) so_far.good.spelled ∙ append_assoc (trace_heading v s m) (flat_map event_line events) (event_line e) ∙ ap (λ (l : List ℕ). trace_heading v s m ++ l) (sym more);
      };
      parts = so_far.parts ∙ ap (λ (l : List ℕ). so_far.lines ++ l) is ∙ sym (append_assoc so_far.lines (event_line e) after);
      number = omega (arith, so_far.number, length-append events (e ∷ []));
    }

-- all lines were read
pub good_end : (text : List ℕ) (n : ℕ) (t : Recording) (rest : List ℕ) → GoodBefore text n t rest → rest ≡ [] → IsTraceText t text
good_end text n t rest so_far none = grind (arith, common_steps, append-nil)

abbrev Reading : List ℕ → Type 0
Reading text = ((t : Recording) × IsTraceText t text) ⊎ ((n : ℕ) × HasBadLine text n) ⊎ ((n : ℕ) × HasStranger text n)

reading : (fuel : ℕ) (text : List ℕ) (n v s m : ℕ) (events : List Event) (rest : List ℕ) → length rest < fuel → GoodBefore text n (made_of v s m events) rest → Reading text
reading zero text n v s m events rest lt good = absurd (omega (arith, lt))
reading (suc fuel) text n v s m events [] lt good = inl (made_of v s m events, good_end text n (made_of v s m events) [] good refl)
reading (suc fuel) text n v s m events (b ∷ rest) lt good =
    elim (cut (b ∷ rest)) [
      | inl h ↦ inr (inl (n, (made_of v s m events, b ∷ rest, good, (λ e. cc), no_line v (b ∷ rest) h)))
      | inr c ↦ elim (named v c.line) [
        | inr none ↦ inr (inl (n, (made_of v s m events, b ∷ rest, good, (λ e. cc), no_event v (b ∷ rest) c.line c.rest c.parts c.whole none)))
        | inl one ↦
            let is = c.parts ∙ ap (λ (t : List ℕ). t ++ newline ∷ c.rest) one.1 ∙ sym (event_line-more (named_line c.line) c.rest) in
            elim (dec_of m (named_line c.line)) [
              | inl of ↦
                  reading fuel text (n + 1) v s m (events ++ named_line c.line ∷ []) c.rest (omega (arith, lt, ap length c.parts, length-append c.line (newline ∷ c.rest)))
                  (good_more text n v s m events (b ∷ rest) (named_line c.line) c.rest good one.0 of is)
              | inr strange ↦ inr (inr (n, (made_of v s m events, named_line c.line, c.rest, subst (GoodBefore text n (made_of v s m events)) is good, one.0, strange)))
            ]
      ]
    ]

-- ---- the heading

record Headed (text : List ℕ) : Type 0 where
  version : ℕ
  size : ℕ
  mutators : ℕ
  rest : List ℕ
  fits : IsHeading version size mutators
  parts : text ≡ trace_heading version size mutators ++ rest

above : (n m : ℕ) → (n ≤ m → ⊥) → m < n
above n m high = grind (arith, common_steps, high)

abbrev Some-up_to : ℕ → (ℕ → Type 0) → Type 0
Some-up_to most P = (n : ℕ) × (n ≤ most) × P n

-- whether a number up to `most` has a property can be decided if it can for each number
dec_some : (P : ℕ → Type 0) → ((n : ℕ) → Decided (P n)) → (most : ℕ) → Decided (Some-up_to most P)
dec_some P each zero = elim (each 0) [ inl p ↦ inl (0, omega arith, p) | inr never ↦ inr (λ found. never (subst P (omega (arith, found.1)) found.2)) ]
dec_some P each (suc most) = last (each (suc most)) (dec_some P each most)
  where
    last : Decided (P (suc most)) → Decided (Some-up_to most P) → Decided (Some-up_to (suc most) P)
    last (inl p) before = inl (suc most, omega arith, p)
    last (inr never) (inl found) = inl (found.0, omega (arith, found.1), found.2)
    last (inr never) (inr none) = inr (λ found. elim (dec_le found.0 most) [ inl low ↦ none (found.0, low, found.2) | inr high ↦ never (subst P (omega (arith, found.1, above found.0 most high)) found.2) ])

-- the text begins with this heading
abbrev Begins : List ℕ → ℕ → ℕ → ℕ → Type 0
Begins text v s m = IsHeading v s m × (text ≡ trace_heading v s m ++ drop (length (trace_heading v s m)) text)

dec_begins : (text : List ℕ) (v s m : ℕ) → Decided (Begins text v s m)
dec_begins text v s m = dec_both (on (dec_le 1 v) (dec_le v newest) (dec_le 1 s) (dec_le s most_words) (dec_le 1 m) (dec_le m most_mutators)) (dec_bytes text (trace_heading v s m ++ drop (length (trace_heading v s m)) text))
  where
    on : Decided (1 ≤ v) → Decided (v ≤ newest) → Decided (1 ≤ s) → Decided (s ≤ most_words) → Decided (1 ≤ m) → Decided (m ≤ most_mutators) → Decided (IsHeading v s m)
    on a b c d e f = grind (arith, a, b, c, d, e, f)

headed : (text : List ℕ) → Headed text ⊎ HasNoHeading text
headed text = on (dec_some _ (λ v. dec_some _ (λ s. dec_some _ (λ m. dec_begins text v s m) most_mutators) most_words) newest)
  where
    on : Decided (Some-up_to newest (λ v. Some-up_to most_words (λ s. Some-up_to most_mutators (λ m. Begins text v s m)))) → Headed text ⊎ HasNoHeading text
    on (inl h) =
        let begins = h.2.2.2 in
        inl (record { version = h.0; size = h.2.0; mutators = h.2.2.0; rest = drop (length (trace_heading h.0 h.2.0 h.2.2.0)) text; fits = begins.0; parts = begins.1 })
    on (inr never) =
        inr (λ v s m more fits is. never (v, fits.1, (s, fits.3, (m, fits.5, (fits, is ∙ ap (λ (t : List ℕ). trace_heading v s m ++ t) (sym (ap (λ (t : List ℕ). drop (length (trace_heading v s m)) t) is ∙ drop-append_seam (trace_heading v s m) more)))))))

-- a trace, or a first fault
abbrev Answered : List ℕ → Type 0
Answered text = ((t : Recording) × IsReadAsTrace t text) ⊎ ((f : TraceFault) × IsTraceFaultOf f text)

answered : (text : List ℕ) → length text ≤ trace_limit → Reading text → Answered text
answered text le (inl r) = inl (r.0, (r.1, le))
answered text le (inr (inl r)) = inr (BadLine r.0, (le, r.1))
answered text le (inr (inr r)) = inr (NoSuchMutator r.0, (le, r.1))

pub each_is_answered : (text : List ℕ) → Answered text
each_is_answered text =
    elim (dec_le (length text) trace_limit) [
      | inr above ↦ inr (TooLarge, (grind (arith, above)))
      | inl le ↦ elim (headed text) [
        | inr none ↦ inr (BadHeader, (le, none))
        | inl h ↦ answered text le (reading (suc (length h.rest)) text 3 h.version h.size h.mutators [] h.rest (omega arith) (good_start text h.rest h.version h.size h.mutators h.fits h.parts))
      ]
    ]
