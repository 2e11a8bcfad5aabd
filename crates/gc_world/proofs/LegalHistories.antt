-- The replies in a history are the replies of its run.
use Rattle.std.proofs.lemmas.Grind.{common_steps}
use Rattle.std.proofs.Common.{◌≡◌, ℕ, List, [], ◌∷◌, ◌++◌, refl, sym, subst, ◌≤◌, arith}
use Rattle.gc_graph.specs.Legal.{IsLegal}
use Rattle.gc_graph.specs.declared.command.Op.{Op}
use Rattle.gc_graph.specs.declared.reply.Reply.{Reply}
use Rattle.gc_model.specs.State.{State, opening_state}
use Rattle.gc_model.specs.Runs.{after, answer, answers}
use Rattle.gc_model.specs.declared.event.Event.{Event}
use Rattle.gc_model.specs.declared.event.Event.TheVariants.{Mutate}
use Rattle.gc_model.specs.declared.event.Answer as answered
use Rattle.gc_model.specs.declared.event.Answer.TheVariants.{Mutator}
use Rattle.gc_collected.specs.Replies.{told_in}
use Rattle.gc_collected.proofs.Public.{run_is_legal}
use Rattle.gc_model.proofs.Public.{wider_events}
use Rattle.gc_world.specs.History.{unmarked, events_of, answers_of, told_by, told_of, IsHistory}
use Rattle.gc_world.specs.declared.entry.Entry.{Entry}

-- if an answer without its mark is a mutator's, so is the answer itself
told_reply : (m : ℕ) (op : Op) (told : answered.Answer) (reply : Reply) → unmarked told ≡ Mutator reply → told_by (Mutate m op) told ≡ record { m = m; op = op; reply = reply } ∷ []
told_reply m op told reply e = grind (arith, common_steps)

told_event : (entries : List Entry) (event : Event) (told : answered.Answer) (s : State) → unmarked told ≡ answer s event
    → told_of entries ≡ told_in (after s event) (events_of entries) → told_by event told ++ told_of entries ≡ told_in s (event ∷ events_of entries)
told_event entries event told s e rest = grind (arith, common_steps, told_reply)

told_is_run : (entries : List Entry) (s : State) → answers_of entries ≡ answers s (events_of entries) → told_of entries ≡ told_in s (events_of entries)
told_is_run [] s e = refl
told_is_run (entry ∷ entries) s e =
    let first : unmarked entry.answer ≡ answer s entry.event = cc in
    let rest : answers_of entries ≡ answers (after s entry.event) (events_of entries) = cc in
    told_event entries entry.event entry.answer s first (told_is_run entries (after s entry.event) rest)

pub history_is_legal : (size mutators : ℕ) (entries : List Entry) → IsHistory size mutators entries → IsLegal mutators (told_of entries)
history_is_legal size mutators entries h =
    subst (IsLegal mutators) (sym (told_is_run entries (opening_state size mutators) h.run))
    (let high : size ≤ 1048576 = h.high in run_is_legal size mutators (events_of entries) h.low (omega arith) (wider_events 1048576 mutators (events_of entries) (omega arith) h.events))
