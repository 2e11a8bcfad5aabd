-- Faults that a prefix of a text already shows.
use Rattle.std.proofs.Common.{◌≡◌, ◌≢◌, ℕ, subst, List, ◌∷◌, ◌++◌, sym, ap, ◌∙◌}
use Rattle.gc_text.specs.Lines.{newline, joined, HasNo}
use Rattle.gc_model.specs.declared.event.Event.{Event}
use Rattle.gc_trace.specs.Grammar.{event_tokens, trace_heading, HasLine, IsHeading}
use Rattle.gc_trace.specs.Faults.{HasNoHeading, BeginsWithNoEvent}
use Rattle.gc_trace.proofs.Headings.{AreSmall, heading_injective, small_heading}
use Rattle.gc_trace.proofs.NamedEvents.{named_event, named_line, event_again}
use Rattle.gc_trace.proofs.EventLines.{event_line-more, tokens_of-event, HasNo-event}
use Rattle.gc_text.proofs.Public.{one_cut, not_cut}

pub no_line : (version : ℕ) (rest : List ℕ) → HasNo newline rest → BeginsWithNoEvent version rest
no_line version rest h e more fits is = not_cut newline rest (joined (event_tokens e)) more h (is ∙ event_line-more e more)

-- a line is no event's if the event that it names has no line in this version, or another one
pub no_event : (version : ℕ) (rest line after : List ℕ) → rest ≡ line ++ newline ∷ after → HasNo newline line → (HasLine version (named_line line) → line ≢ joined (event_tokens (named_line line))) → BeginsWithNoEvent version rest
no_event version rest line after parts h none e more fits is =
    let same = one_cut newline line after (joined (event_tokens e)) more h (HasNo-event version e fits) (sym parts ∙ is ∙ event_line-more e more) in
    let named : named_line line ≡ e = ap named_line same.0 ∙ ap named_event (tokens_of-event version e fits) ∙ event_again version e fits in
    none (subst (HasLine version) (sym named) fits) (same.0 ∙ ap (λ (d : Event). joined (event_tokens d)) (sym named))

-- a text with a heading whose numbers are not in range has no other heading
pub no_heading : (v s m : ℕ) (text rest : List ℕ) → AreSmall v s m → text ≡ trace_heading v s m ++ rest → ¬ IsHeading v s m → HasNoHeading text
no_heading v s m text rest small is strange version size mutators more fits other =
    let same = (heading_injective version size mutators v s m more rest (small_heading version size mutators fits) small (sym other ∙ is)).0 in
    strange (rw (← same.version, ← same.size, ← same.mutators) fits)
