-- Each replica's link leads to an original, whose link is cleared, so at the end no object of the heap has a link above the mark.
use Rattle.std.proofs.lemmas.Grind.{common_steps}
use Rattle.std.proofs.Common.{◌≡◌, arith, rules, ◌<◌, ℕ, List, sym, ap, ◌∙◌, subst}
use Rattle.std.specs.Prelude.{◌^◌}
use Rattle.gc_words.specs.Image.{is_start}
use Rattle.gc_heap.specs.Heap.{HeapWords}
use Rattle.gc_model.specs.Members.{In}
use Rattle.gc_copy.specs.Words.{CollectionWords, replicas_in}
use Rattle.gc_copy.proofs.ObjectWalks.{start_met}
use Rattle.gc_copy.proofs.Dropping.{Clears, clears_none, original_here, clears_more, none_above, none_left, dropped_state, all_cleared}
use Rattle.gc_copy.proofs.collection.Collection.clear_into.Goals as goal

pub loop-at-init : goal.loop-at-init
loop-at-init c = clears_none c.args.heap.now _ c.args.self c.self.view_is c.space.ensures.sound c.self.invariant.0 c.requires

pub link-requires : goal.link-requires
link-requires c = start_met c.self.inside.space.words c.loop-at.at.0 c.loop-at.invariant.done c.loop-at.invariant.met (omega arith)

pub overflow_cast-original : goal.overflow_cast-original
overflow_cast-original c =
    let here = original_here c.self.inside.epoch c.self.inside.space.words c.args.heap.now c.loop-at.heap c.loop-at.at.0 c.loop-at.invariant (omega arith) in
    let small : c.link.result < 2 ^ 32 = subst (λ n. n < 2 ^ 32) (sym c.link.ensures) here.1 in
    search rules

pub set_link-requires : goal.set_link-requires
set_link-requires c =
    let here = original_here c.self.inside.epoch c.self.inside.space.words c.args.heap.now c.loop-at.heap c.loop-at.at.0 c.loop-at.invariant (omega arith) in
    ap (is_start c.loop-at.heap.space.words) c.link.ensures ∙ here.0

pub next_start-at-requires : goal.next_start-at-requires
next_start-at-requires c = start_met c.self.inside.space.words c.loop-at.at.0 c.loop-at.invariant.done c.loop-at.invariant.met (omega arith)

pub loop-at-preserved : goal.loop-at-preserved
loop-at-preserved c = grind (arith, common_steps, clears_more)

same_mark : (x c : CollectionWords) (words : List ℕ) (old now : HeapWords) (at : ℕ) → x ≡ c → c.epoch ≡ 0 → Clears x.epoch words old now at → Clears 0 words old now at
same_mark x c words old now at seen plain k = subst (λ m. Clears m words old now at) (ap (λ (y : CollectionWords). y.epoch) seen ∙ plain) k

pub returns-clause-heap : goal.returns-clause-heap
returns-clause-heap c = λ plain. all_cleared c.self.inside.space.words c.args.heap.now c.loop-at.heap c.loop-at.at.0 (same_mark _ c.args.self _ _ _ _ c.self.view_is plain c.loop-at.invariant) (omega arith)

pub returns-clause-step : goal.returns-clause-step
returns-clause-step c = grind (arith, common_steps, dropped_state)

pub returns-clause-links : goal.returns-clause-links
returns-clause-links c = grind (arith, common_steps, none_above)

pub returns-clause-originals : goal.returns-clause-originals
returns-clause-originals c = λ r l. none_left c.self.inside.epoch c.self.inside.space.words c.args.heap.now c.loop-at.heap c.loop-at.at.0 c.loop-at.invariant (omega arith) r (subst (λ y. In r (replicas_in y)) (ap (λ (y : CollectionWords). y.space.words) (sym c.self.view_is)) l)
