-- The monitor is told of a new replica, and then looks at the field of the entry that the step applied; any other reply changes nothing.
use Rattle.std.proofs.Common.{◌≡◌, ℕ, List, [], ◌∷◌, Option, Some, None, refl, ap, sym, subst, ◌∙◌}
use Rattle.std.specs.Prelude.{IfSome, slice_get}
use Rattle.gc_words.specs.Image.{Image}
use Rattle.gc_model.specs.declared.step.StepReply.{StepReply}
use Rattle.gc_model.specs.declared.step.StepReply.TheVariants.{Applied}
use Rattle.gc_model.specs.Steps.{log_at}
use Rattle.gc_copy.specs.Entries.{entry_in}
use Rattle.gc_copy.specs.Words.{collection_in, open_state}
use Rattle.gc_copy.specs.declared.log.LogEntry.{LogEntry}
use Rattle.gc_collected.proofs.Monitor.Follows.{follows_same}
use Rattle.gc_collected.proofs.Monitor.FollowsSteps.{follows_applied}
use Rattle.gc_collected.proofs.Monitor.SameSteps.{apply_or_same}
use Rattle.gc_collected.specs.Internal.Beside.{AreOld}
use Rattle.gc_collected.proofs.barrier.apply_log.Goals as goal

first_entry : (log : List (ℕ × ℕ)) (entry : ℕ × ℕ) → slice_get log 0 ≡ Some entry → (rest : List (ℕ × ℕ)) × (log ≡ entry ∷ rest)
first_entry [] entry is = absurd (let no : None ≡ Some entry = is in cc)
first_entry (x ∷ rest) entry is = (rest, (let same : x ≡ entry = cc is in ap (λ x. x ∷ rest) same))

pub returns-in_default-clause-follows : goal.returns-in_default-clause-follows
returns-in_default-clause-follows c =
    let s = open_state c.args.heap.now c.args.collection.now in
    let s' = open_state c.apply_noted-reply.new.heap c.apply_noted-reply.new.self in
    follows_same s s' c.args.watch.now (apply_or_same s s' c.args.m c.apply_noted-reply.result.0 c.apply_noted-reply.ensures.step (c.apply_noted-reply.ensures.other c.in_default.is))

pub returns-clause-follows : goal.returns-clause-follows
returns-clause-follows c = λ f.
    let s = open_state c.args.heap.now c.args.collection.now in
    let s' = open_state c.apply_noted-reply.new.heap c.apply_noted-reply.new.self in
    let words = c.words-old.ensures.value ∙ ap (λ x. x.words) c.space.ensures.value in
    let entry = entry_in c.in-Some.entry in
    let did = subst (λ (o : Option LogEntry). IfSome o (λ e. (c.apply_noted-reply.result.0 ≡ Applied) × (slice_get (log_at (collection_in c.args.collection.now) c.args.m) 0 ≡ Some (entry_in e)))) c.in-Some.is c.apply_noted-reply.ensures.applied in
    let log = first_entry (log_at (collection_in c.args.collection.now) c.args.m) entry did.1 in
    follows_applied s s' (collection_in c.args.collection.now) (collection_in c.apply_noted-reply.new.self) c.words-old.result.now c.new_image.result.words.now c.are_shown.ensures.heap c.are_shown.ensures.opened c.are_shown-2.ensures.opened refl refl
    (subst (AreOld s') (sym words) c.are_shown-2.ensures.old) (ap (λ (image : Image). image.words) c.new_image.ensures.words ∙ c.are_shown-2.ensures.new) c.args.watch.now f c.args.m entry log.0 c.placed.new.self c.applied.new.self log.1
    (c.apply_noted-reply.ensures.step ∙ ap (λ (r : StepReply). (r, s')) did.0) c.placed.ensures.stays c.placed.ensures.placed c.placed.ensures.copied c.applied.ensures.stays c.applied.ensures.applied
