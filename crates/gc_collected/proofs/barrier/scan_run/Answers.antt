-- The monitor is told of all replicas of the run, and then looks at the scanned fields.
use Rattle.std.proofs.Common.{◌≡◌, ℕ, refl, ap, sym, subst, ◌∙◌}
use Rattle.gc_words.specs.Image.{Image}
use Rattle.gc_monitor.specs.Runs.{CanLookAll, LookedAll}
use Rattle.gc_copy.specs.Words.{collection_in, open_state}
use Rattle.gc_collected.specs.Internal.Beside.{AreOld}
use Rattle.gc_collected.proofs.Monitor.FollowsRuns.{follows_run}
use Rattle.gc_collected.proofs.barrier.scan_run.Goals as goal

pub returns-clause-follows : goal.returns-clause-follows
returns-clause-follows c = λ f.
    let s = open_state c.args.heap.now c.args.collection.now in
    let s' = open_state c.scan_run-run.new.heap c.scan_run-run.new.self in
    let words = c.words-old.ensures.value ∙ ap (λ x. x.words) c.space.ensures.value in
    let old = c.words-old.result.now in
    let new = c.new_image.result.words.now in
    let here : (c.scan_place-place.result, c.scan_field-field.result, c.scan_place-end.result, c.scan_field-last.result) ≡ (c.args.collection.now.scan_place, c.args.collection.now.scan_field, c.scan_run-run.new.self.scan_place, c.scan_run-run.new.self.scan_field)
    = λ i. (c.scan_place-place.ensures i, c.scan_field-field.ensures i, c.scan_place-end.ensures i, c.scan_field-last.ensures i) in
    follows_run s s' (collection_in c.args.collection.now) (collection_in c.scan_run-run.new.self) c.args.until c.scan_run-run.result.steps c.scan_run-run.result.reply old new c.are_shown.ensures.heap c.are_shown.ensures.opened refl refl
    c.scan_run-run.ensures.run (subst (AreOld s') (sym words) c.are_shown-2.ensures.old) (ap (λ (image : Image). image.words) c.new_image.ensures.words ∙ c.are_shown-2.ensures.new) c.args.watch.now c.placed_all.new.self c.look_all.new.self f
    c.placed_all.ensures.stays c.placed_all.ensures.placed
    (λ n can. c.look_all.ensures.stays n (subst (λ (q : ℕ × ℕ × ℕ × ℕ). CanLookAll old new q.0 q.1 q.2 q.3 c.placed_all.new.self) (sym here) can))
    (λ n. subst (λ (q : ℕ × ℕ × ℕ × ℕ). LookedAll old new q.0 q.1 q.2 q.3 c.placed_all.new.self c.look_all.new.self) here (c.look_all.ensures.looked n))
