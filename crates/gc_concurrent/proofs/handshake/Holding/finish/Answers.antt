-- A collection with nothing left to do, whose roots have replicas, is ready: its flip fails only for lack of memory.
use Rattle.std.proofs.Common.{◌≡◌, ◌<◌, Result, Ok, Err, Bool, ap, true, false, true≢false, sym, ◌∙◌, ◌⊎◌, map, subst, inl, inr, ⊎_elim}
use Rattle.std.specs.Prelude.{IfErr}
use Rattle.gc_concurrent.specs.declared.handshake.Unflipped.{Unflipped}
use Rattle.gc_concurrent.specs.declared.held.Held.{Held}
use Rattle.gc_concurrent.specs.declared.held.NoFlip.TheVariants as reasons
use Rattle.gc_concurrent.specs.Holders.{heap_held, known_to, may_flip}
use Rattle.gc_concurrent.proofs.Turn.{ready_in}
use Rattle.std.specs.Prelude.{IfOk, OnOk}
use Rattle.gc_cert.specs.Grammar.{CertifiedPair}
use Rattle.gc_words.specs.Word.{value_of}
use Rattle.gc_heap.specs.Heap.{HeapWords, graph_in}
use Rattle.gc_model.specs.State.{new_graph}
use Rattle.gc_concurrent.specs.declared.handshake.Collector.{Collector}
use Rattle.gc_concurrent.specs.Checking.{CertifiesFlip, FlippedBy, IsVouchedBy, IsVouchedFor, flip_shown}
use Rattle.gc_concurrent.specs.Ends.{Theirs, its, opening_theirs}
use Rattle.gc_concurrent.specs.Works.{KeepsBeginning, KeepsOrBegins, StandsOrBegins}
use Rattle.gc_concurrent.specs.Turns.{IfAsked, TurnsBy, after_flip, whole_is_due}
use Rattle.gc_concurrent.specs.declared.turns.Turns.{Turns}
use Rattle.gc_concurrent.proofs.handshake.Holding.finish.Goals as goal

never_unready : {A : Type 0} (r : Result A Unflipped) (h : Held) (P : Type 0) → may_flip h ≡ true → IfErr r (λ refused. refused.why ≡ reasons.NotReady → may_flip h ≡ Rattle.std.proofs.Common.false)
    → IfErr r (λ refused. refused.why ≡ reasons.NotReady → P)
never_unready (Ok a) h P ready told = tt
never_unready (Err e) h P ready told = λ why. absurd (true≢false (sym ready ∙ told why))

pub returns-in-Done-clause-why : goal.returns-in-Done-clause-why
returns-in-Done-clause-why g c =
    let h : Held = c.work.new.self.held in
    let done = c.in-Done.ensures.done in
    never_unready c.flip.result h ((known_to c.args.self.held.copier).size < (known_to c.args.self.held.copier).old)
    (ready_in h.copier.seat.me.0.mine h.copier.seat.me.0.theirs h.roots.items done.0 done.1 (c.in-Done.ensures.rooted c.loop-holding.invariant.rooted)) c.flip.ensures.not_ready

-- a flip that was vouched for or asked about, of a heap that stayed the same
flipped_by : (r : Result Collector Unflipped) (says : CertifiedPair → Type 0) (h : Held) (old : HeapWords) → heap_held h ≡ old → IfOk r (λ c. IsVouchedBy h.copier.standing (heap_held h) (known_to c.copier).base ⊎ says (flip_shown (heap_held h) (known_to h.copier)))
    → OnOk r (CertifiesFlip (heap_held h) (known_to h.copier)) → IfOk r (λ c. graph_in (known_to c.copier).base ≡ new_graph (its (known_to h.copier)) (map value_of h.roots.items)) → IfOk r (λ c. FlippedBy says old (known_to c.copier).base)
flipped_by (Ok c) says h old same asked certified graph = subst (λ z. FlippedBy says z (known_to c.copier).base) same (known_to h.copier, ⊎_elim (λ v. inl (h.copier.standing, v)) (λ s. inr s) asked, certified, graph)
flipped_by (Err e) says h old same asked certified graph = tt

pub returns-in-Done-clause-asked : goal.returns-in-Done-clause-asked
returns-in-Done-clause-asked g c =
    flipped_by c.flip.result (g.C.Checks.says_yes c.args.checker.now) c.work.new.self.held (heap_held c.args.self.held) (c.in-Done.ensures.heap ∙ c.loop-holding.invariant.heap) c.flip.ensures.asked c.flip.ensures.certified c.flip.ensures.graph

by_some : (asked : Bool) (says : CertifiedPair → Type 0) (h : Held) (old base : HeapWords) → heap_held h ≡ old
    → IfAsked asked (says (flip_shown (heap_held h) (known_to h.copier))) (IsVouchedBy h.copier.standing (heap_held h) base)
    → IfAsked asked ((t : Theirs) × says (flip_shown old t)) (IsVouchedFor old base)
by_some true says h old base same by = subst (λ z. (t : Theirs) × says (flip_shown z t)) same (known_to h.copier, by)
by_some false says h old base same by = subst (λ z. IsVouchedFor z base) same (h.copier.standing, by)

turned_by : (r : Result Collector Unflipped) (says : CertifiedPair → Type 0) (h : Held) (old : HeapWords) (before turns : Turns) → heap_held h ≡ old → turns ≡ before
    → IfOk r (λ c. TurnsBy (says (flip_shown (heap_held h) (known_to h.copier))) (IsVouchedBy h.copier.standing (heap_held h) (known_to c.copier).base) turns c.turns)
    → IfOk r (λ c. TurnsBy ((t : Theirs) × says (flip_shown old t)) (IsVouchedFor old (known_to c.copier).base) before c.turns)
turned_by (Ok c) says h old before turns same kept by = record {
  asked = by.asked;
  turned = by.turned ∙ ap (after_flip by.asked) kept;
  due = by.due ∙ ap whole_is_due kept;
  by = by_some by.asked says h old (known_to c.copier).base same by.by;
}
turned_by (Err e) says h old before turns same kept by = tt

pub returns-in-Done-clause-turns : goal.returns-in-Done-clause-turns
returns-in-Done-clause-turns g c =
    turned_by c.flip.result (g.C.Checks.says_yes c.args.checker.now) c.work.new.self.held (heap_held c.args.self.held) c.args.self.turns c.work.new.self.turns
    (c.in-Done.ensures.heap ∙ c.loop-holding.invariant.heap) (c.in-Done.ensures.turns ∙ c.loop-holding.invariant.turns) c.flip.ensures.turns

along_by : (r : Result Collector Unflipped) (h : Held) (old : HeapWords) (before turns : Turns) → heap_held h ≡ old → turns ≡ before
    → IfOk r (λ c. whole_is_due turns ≡ false → IsVouchedBy h.copier.standing (heap_held h) (known_to c.copier).base)
    → IfOk r (λ c. whole_is_due before ≡ false → IsVouchedFor old (known_to c.copier).base)
along_by (Ok c) h old before turns same kept by = λ none. subst (λ z. IsVouchedFor z (known_to c.copier).base) same (h.copier.standing, by (ap whole_is_due kept ∙ none))
along_by (Err e) h old before turns same kept by = tt

pub returns-in-Done-clause-along : goal.returns-in-Done-clause-along
returns-in-Done-clause-along g c =
    along_by c.flip.result c.work.new.self.held (heap_held c.args.self.held) c.args.self.turns c.work.new.self.turns
    (c.in-Done.ensures.heap ∙ c.loop-holding.invariant.heap) (c.in-Done.ensures.turns ∙ c.loop-holding.invariant.turns) c.flip.ensures.along

-- ---- what is left where no flip was made

after_both : (s t u : Theirs) → KeepsBeginning s t → KeepsBeginning t u → KeepsBeginning s u
after_both s t u a b = record { base = b.base ∙ a.base; from = b.from ∙ a.from; into = b.into ∙ a.into }

kept_by : (r : Result Collector Unflipped) (t u : Theirs) → KeepsBeginning t u → IfErr r (λ x. (x.why ≡ reasons.NoMemory → ⊥) → known_to x.holding.held.copier ≡ u)
    → IfErr r (λ x. (x.why ≡ reasons.NoMemory → ⊥) → KeepsBeginning t (known_to x.holding.held.copier))
kept_by (Ok c) t u k told = tt
kept_by (Err x) t u k told = λ other. subst (KeepsBeginning t) (sym (told other)) k

begins_by : (r : Result Collector Unflipped) (t u : Theirs) → KeepsBeginning t u → IfErr r (λ x. StandsOrBegins u (known_to x.holding.held.copier)) → IfErr r (λ x. KeepsOrBegins t (known_to x.holding.held.copier))
begins_by (Ok c) t u k told = tt
begins_by (Err x) t u k told = ⊎_elim
    (λ e. inl (subst (KeepsBeginning t) (sym e) k))
    (λ e. inr (e ∙ (λ i. opening_theirs (k.base i) (k.from i) 1)))
    told

pub returns-in-Done-clause-begun : goal.returns-in-Done-clause-begun
returns-in-Done-clause-begun g c = kept_by c.flip.result _ _ (after_both _ _ _ c.loop-holding.invariant.begun c.in-Done.ensures.begun) c.flip.ensures.known

pub returns-in-Done-clause-memory : goal.returns-in-Done-clause-memory
returns-in-Done-clause-memory g c = begins_by c.flip.result _ _ (after_both _ _ _ c.loop-holding.invariant.begun c.in-Done.ensures.begun) c.flip.ensures.memory
