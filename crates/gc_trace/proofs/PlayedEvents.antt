-- The state of a player after one more event.
use Rattle.std.proofs.lemmas.Grind.{common_steps}
use Rattle.std.proofs.Common.{◌≡◌, ℕ, ◌<◌, ◌^◌, List, [], ◌∷◌, ◌++◌, length, refl, sym, ap, ◌∙◌, subst, arith}
use Rattle.std.proofs.lemmas.List.{append-nil}
use Rattle.std.proofs.lemmas.List.Concat.{flat_map-append, flat_map-cons}
use Rattle.gc_model.specs.State.{State, opening_state, heap_end}
use Rattle.gc_model.specs.Runs.{after, answer, answers, state_after}
use Rattle.gc_model.specs.declared.event.Answer.{Answer}
use Rattle.gc_model.specs.declared.event.Event.{Event}
use Rattle.gc_world.specs.History.{unmarked}
use Rattle.gc_trace.specs.Replies.{reply_line, reply_text}
use Rattle.gc_trace.specs.Report.{report_of}
use Rattle.gc_trace.specs.declared.report.Report.{Report}
use Rattle.gc_trace.specs.Internal.Report.{FitsU64, with_answer}
use Rattle.gc_trace.proofs.ReportCounts.{report_push, with_end, run_fits}

-- ---- runs with one more event

state_pushed : (s : State) (events : List Event) (event : Event) → state_after s (events ++ event ∷ []) ≡ after (state_after s events) event
state_pushed s [] event = refl
state_pushed s (first ∷ events) event = state_pushed (after s first) events event

answers_pushed : (s : State) (events : List Event) (event : Event) → answers s (events ++ event ∷ []) ≡ answers s events ++ answer (state_after s events) event ∷ []
answers_pushed s [] event = refl
answers_pushed s (first ∷ events) event = ap (λ (told : List Answer). answer s first ∷ told) (answers_pushed (after s first) events event)

text_pushed : (told : List Answer) (last : Answer) → reply_text (told ++ last ∷ []) ≡ reply_text told ++ reply_line last
text_pushed told last = flat_map-append reply_line told (last ∷ []) ∙ ap (λ (t : List ℕ). reply_text told ++ t) (flat_map-cons reply_line last [] ∙ append-nil (reply_line last))

-- a run marks no answer as `Useful`
plain : (s : State) (event : Event) → unmarked (answer s event) ≡ answer s event
plain s event = grind (arith, common_steps)

-- ---- a player that has played some events, starting in some state

-- the state
pub state_is : (s : State) (events : List Event) (event : Event) (heap next : State) → heap ≡ state_after s events → next ≡ after heap event → next ≡ state_after s (events ++ event ∷ [])
state_is s events event heap next same moved = moved ∙ ap (λ (h : State). after h event) same ∙ sym (state_pushed s events event)

-- the counts
counted : (s : State) (events : List Event) (event : Event) (heap : State) (report : Report) → heap ≡ state_after s events → report ≡ report_of (answers s events) s → with_answer report (answer heap event) ≡ report_of (answers s (events ++ event ∷ [])) s
counted s events event heap report same so_far =
    (λ i. with_answer (so_far i) (answer (same i) event))
    ∙ report_push (answers s events) (answer (state_after s events) event) s
    ∙ ap (λ (told : List Answer). report_of told s) (sym (answers_pushed s events event))

pub counts_are : (s : State) (events : List Event) (event : Event) (heap : State) (told : Answer) (report next : Report) → heap ≡ state_after s events → told ≡ answer heap event → report ≡ report_of (answers s events) s → next ≡ with_answer report (unmarked told) → next ≡ report_of (answers s (events ++ event ∷ [])) s
counts_are s events event heap told report next same is so_far made =
    made ∙ ap (λ (t : Answer). with_answer report (unmarked t)) is ∙ ap (with_answer report) (plain heap event) ∙ counted s events event heap report same so_far

-- the next counts fit their type
pub next_fits : (size mutators : ℕ) (events : List Event) (event : Event) (heap : State) (report : Report) → heap ≡ state_after (opening_state size mutators) events → report ≡ report_of (answers (opening_state size mutators) events) (opening_state size mutators) → length (events ++ event ∷ []) < 2 ^ 64
    → FitsU64 (with_answer report (answer heap event))
next_fits size mutators events event heap report same so_far few =
    let opening = opening_state size mutators in
    subst FitsU64 (sym (counted opening events event heap report same so_far)) (run_fits size mutators (events ++ event ∷ []) opening few)

-- the lines: a text and then the buffer
pub lines_are : (s : State) (events : List Event) (event : Event) (heap : State) (told : Answer) (before text waiting next : List ℕ) → heap ≡ state_after s events → told ≡ answer heap event → before ≡ reply_text (answers s events) → text ++ waiting ≡ before → next ≡ waiting ++ reply_line told → text ++ next ≡ reply_text (answers s (events ++ event ∷ []))
lines_are s events event heap told before text waiting next same is so_far moved printed = grind (arith, common_steps, answers_pushed, text_pushed)

-- the final report, with the numbers of the space
pub report_is : (s : State) (events : List Event) (heap : State) (report next : Report) (end free : ℕ) → heap ≡ state_after s events → report ≡ report_of (answers s events) s → next ≡ record report { end = end; free = free } → end ≡ heap_end heap → free ≡ heap.heap.free
    → next ≡ report_of (answers s events) (state_after s events)
report_is s events heap report next end free same so_far is same_end same_free = grind (arith, common_steps, with_end)
