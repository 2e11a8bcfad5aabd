-- The worked rows hold.
use Rattle.std.proofs.lemmas.Grind.{common_steps}
use Rattle.std.proofs.Common.{◌≡◌, ◌≢◌, ℕ, ◌≤◌, List, [], ◌∷◌, ◌++◌, length, leb, refl, sym, ap, ◌∙◌, append_assoc, length-append, arith, true}
use Rattle.std.proofs.lemmas.Bool.{leb-true}
use Rattle.std.proofs.lemmas.List.{append-nil}
use Rattle.std.specs.Prelude.{codes}
use Rattle.std.specs.Fmt.{digits}
use Rattle.gc_text.specs.Lines.{newline, ended, joined}
use Rattle.gc_graph.specs.Slots.{own_slot, shared_slot}
use Rattle.gc_graph.specs.declared.command.Op.TheVariants as ops
use Rattle.gc_model.specs.declared.step.Step.TheVariants as steps
use Rattle.gc_text.proofs.Public.{lacks, HasNo-lacks}
use Rattle.gc_model.specs.declared.event.Event.TheVariants.{Mutate, Collect}
use Rattle.gc_trace.specs.Grammar.{Recording, slot, op_tokens, step_tokens, event_tokens, event_line, trace_heading, trace_text, IsHeading, HasLine, IsTraceText}
use Rattle.gc_trace.specs.Faults.{trace_limit, HasNoHeading, BeginsWithNoEvent, IsTraceFaultOf}
use Rattle.gc_trace.proofs.Headings.{AreSmall, heading_spelled, heading_injective, small_heading}
use Rattle.gc_trace.proofs.NamedEvents.{named_line}
use Rattle.gc_trace.specs.Replies.{view_tokens, reply_tokens, step_reply_tokens, answer_tokens}
use Rattle.gc_trace.specs.Rows.{small, TextRows, SizedRows, RawRows, LineRows}
use Rattle.gc_trace.specs.declared.fault.TraceFault.TheVariants.{BadHeader, BadLine}
use Rattle.gc_trace.proofs.FrontFaults.{no_line, no_event, no_heading}

pub line_rows : LineRows
unfolding digits slot op_tokens step_tokens event_tokens event_line trace_heading trace_text view_tokens reply_tokens step_reply_tokens answer_tokens
line_rows = record { events = refl; replies = refl; step_replies = refl }

short : (text : List ℕ) → leb (length text) trace_limit ≡ true → length text ≤ trace_limit
short text e = leb-true (length text) trace_limit e

-- lines 1 and 2 of a trace of this version
abbrev first : ℕ → List ℕ
first version = trace_heading version 8 1

opening_text : (version : ℕ) → 1 ≤ version → version ≤ 3 → IsTraceText (small version []) (first version)
unfolding trace_text
opening_text version low high = record { recording = record { heading = (low, high, omega arith, omega arith, omega arith, omega arith); events = tt }; spelled = sym (append-nil (first version)) }

abbrev one_nil : Recording
one_nil = small 1 (Mutate 0 (ops.Nil (shared_slot 0)) ∷ [])

nil_text : IsTraceText one_nil (codes "heaptrace 1\nspace 8 mutators 1\nm 0 nil g0\n")
unfolding digits slot op_tokens event_tokens event_line trace_heading trace_text
nil_text = record { recording = record { heading = (omega arith, omega arith, omega arith, omega arith, omega arith, omega arith); events = ((record { range = (omega arith, omega arith); known = omega arith }, (omega arith, omega arith)), tt) }; spelled = refl }

-- line 3 is bad
third : (version : ℕ) (rest : List ℕ) → 1 ≤ version → version ≤ 3 → rest ≢ [] → BeginsWithNoEvent version rest → leb (length (first version ++ rest)) trace_limit ≡ true → IsTraceFaultOf (BadLine 3) (first version ++ rest)
third version rest low high some none small-enough = (short (first version ++ rest) small-enough, (small version [], rest, record { lines = first version; good = opening_text version low high; parts = refl; number = refl }, some, none))

some_line : (line : List ℕ) → ended line ≢ []
some_line line e = grind (arith, common_steps)

-- the whole of line 3 is bad
third_line : (version : ℕ) (line : List ℕ) → 1 ≤ version → version ≤ 3 → lacks newline line ≡ true → (HasLine version (named_line line) → line ≢ joined (event_tokens (named_line line))) → leb (length (first version ++ ended line)) trace_limit ≡ true → IsTraceFaultOf (BadLine 3) (first version ++ ended line)
third_line version line low high h none small-enough = third version (ended line) low high (some_line line) (no_event version (ended line) line [] refl (HasNo-lacks newline line h) none) small-enough

-- the heading's numbers are not in range
strange_heading : (v s m : ℕ) → AreSmall v s m → ¬ IsHeading v s m → leb (length (trace_heading v s m)) trace_limit ≡ true → IsTraceFaultOf BadHeader (trace_heading v s m)
strange_heading v s m small strange small-enough = (short (trace_heading v s m) small-enough, no_heading v s m (trace_heading v s m) [] small (sym (append-nil (trace_heading v s m))) strange)

-- with a line feed the text would be a heading and no more
cut_heading : HasNoHeading (codes "heaptrace 1\nspace 8 mutators 1")
unfolding digits trace_heading
cut_heading version size mutators more fits is =
    let whole : trace_heading version size mutators ++ (more ++ newline ∷ []) ≡ trace_heading 1 8 1 ++ [] = sym (append_assoc (trace_heading version size mutators) more (newline ∷ [])) ∙ ap (λ (t : List ℕ). t ++ newline ∷ []) (sym is) in
    let rest = (heading_injective version size mutators 1 8 1 (more ++ newline ∷ []) [] (small_heading version size mutators fits) (omega arith, omega arith, omega arith) whole).1 in
    absurd (omega (arith, ap length rest, length-append more (newline ∷ [])))

pub text_rows : TextRows
unfolding digits slot op_tokens step_tokens event_tokens event_line trace_heading
text_rows = record {
  nothing = (short [] refl, λ v s m more fits is. grind (arith, common_steps, heading_spelled));
  no_size = strange_heading 1 0 1 (omega arith, omega arith, omega arith) (λ fits. omega (arith, fits.2)) refl;
  many_mutators = strange_heading 1 8 17 (omega arith, omega arith, omega arith) (λ fits. omega (arith, fits.5)) refl;
  no_line_feed = (short (codes "heaptrace 1\nspace 8 mutators 1") refl, cut_heading);
  no_events = (opening_text 1 (omega arith) (omega arith), short (first 1) refl);
  cut_line = third 1 (codes "m 0 look r0") (omega arith) (omega arith) (λ e. cc) (no_line 1 (codes "m 0 look r0") (HasNo-lacks newline (codes "m 0 look r0") refl)) refl;
  no_slot = third_line 1 (codes "m 0 look r16") (omega arith) (omega arith) refl (λ fits _. omega (arith, fits.range.1)) refl;
  two_spaces = third_line 1 (codes "m 0  look r0") (omega arith) (omega arith) refl (λ _ same. cc) refl;
  no_kind = third_line 1 (codes "m 0 new r0 256 0") (omega arith) (omega arith) refl (λ fits _. omega (arith, fits.range.1.1)) refl;
  leading_zero = third_line 1 (codes "m 0 num r0 01") (omega arith) (omega arith) refl (λ _ same. cc) refl;
  no_mutator = third_line 1 (codes "m 16 look r0") (omega arith) (omega arith) refl (λ fits _. omega (arith, fits.range.0)) refl;
  strange_mutator = (
    short (codes "heaptrace 1\nspace 8 mutators 1\nm 1 look r0\n") refl,
    (small 1 [], Mutate 1 (ops.Look (own_slot 0)), [], record { lines = first 1; good = opening_text 1 (omega arith) (omega arith); parts = refl; number = refl }, record { range = (omega arith, omega arith); known = omega arith }, λ of. omega (arith, of.0)),
  );
  strange_log = (
    short (codes "heaptrace 1\nspace 8 mutators 1\nc apply 1\nx\n") refl,
    (small 1 [], Collect (steps.Apply 1), codes "x\n", record { lines = first 1; good = opening_text 1 (omega arith) (omega arith); parts = refl; number = refl }, record { range = omega arith; known = omega arith }, λ of. omega (arith, of)),
  );
  empty_line = (
    short (codes "heaptrace 1\nspace 8 mutators 1\nm 0 nil g0\n\n") refl,
    (one_nil, newline ∷ [], record { lines = codes "heaptrace 1\nspace 8 mutators 1\nm 0 nil g0\n"; good = nil_text; parts = refl; number = refl }, (λ e. cc), no_event 1 (newline ∷ []) [] [] refl tt (λ _ same. cc)),
  );
}

sized_text : IsTraceText (small 2 (Collect steps.Begin ∷ Collect (steps.BeginSized 12) ∷ [])) (codes "heaptrace 2\nspace 8 mutators 1\nc begin\nc begin 12\n")
unfolding digits step_tokens event_tokens event_line trace_heading trace_text
sized_text = record {
  recording = record {
    heading = (omega arith, omega arith, omega arith, omega arith, omega arith, omega arith);
    events = ((record { range = tt; known = omega arith }, tt), ((record { range = (omega arith, omega arith); known = omega arith }, (omega arith, omega arith)), tt));
  };
  spelled = refl;
}

pub sized_rows : SizedRows
unfolding digits step_tokens event_tokens event_line trace_heading trace_text
sized_rows = record {
  read = (sized_text, short (codes "heaptrace 2\nspace 8 mutators 1\nc begin\nc begin 12\n") refl);
  low = third_line 2 (codes "c begin 0") (omega arith) (omega arith) refl (λ fits _. omega (arith, fits.range.0)) refl;
  high = third_line 2 (codes "c begin 1048577") (omega arith) (omega arith) refl (λ fits _. omega (arith, fits.range.1)) refl;
  not_in_first = third_line 1 (codes "c begin 12") (omega arith) (omega arith) refl (λ fits _. omega (arith, fits.known)) refl;
  least = refl;
  lower = refl;
}

raw_text : IsTraceText (small 3 (Mutate 0 (ops.NewRaw (own_slot 0) 7 2) ∷ [])) (codes "heaptrace 3\nspace 8 mutators 1\nm 0 raw r0 7 2\n")
unfolding digits slot op_tokens event_tokens event_line trace_heading trace_text
raw_text = record {
  recording = record {
    heading = (omega arith, omega arith, omega arith, omega arith, omega arith, omega arith);
    events = ((record { range = (omega arith, (omega arith, omega arith, omega arith)); known = omega arith }, (omega arith, (omega arith, omega arith, omega arith))), tt);
  };
  spelled = refl;
}

pub raw_rows : RawRows
unfolding digits slot op_tokens step_tokens event_tokens event_line trace_heading trace_text view_tokens reply_tokens step_reply_tokens answer_tokens
raw_rows = record {
  read = (raw_text, short (codes "heaptrace 3\nspace 8 mutators 1\nm 0 raw r0 7 2\n") refl);
  long = third_line 3 (codes "m 0 raw r0 7 65536") (omega arith) (omega arith) refl (λ fits _. omega (arith, fits.range.1.2)) refl;
  not_in_first = third_line 1 (codes "m 0 raw r0 7 2") (omega arith) (omega arith) refl (λ fits _. omega (arith, fits.known)) refl;
  not_in_second = third_line 2 (codes "m 0 raw r0 7 2") (omega arith) (omega arith) refl (λ fits _. omega (arith, fits.known)) refl;
  no_fourth = strange_heading 4 8 1 (omega arith, omega arith, omega arith) (λ fits. omega (arith, fits.1)) refl;
  least = refl;
  played = refl;
  replies = refl;
}
