-- A flip rests on the given checker's yes, or on that of the monitor, which follows the heap. So the certificate holds, and the monitor follows the heap after the flip.
use Rattle.std.proofs.Common.{◌≡◌, ◌∙◌, ◌≤◌, arith, Option, Some, None, Ok, Err, Result, sym, ap, subst}
use Rattle.std.specs.Prelude.{MatchResult, IfOk, IsFalse}
use Rattle.std.specs.Option.{option_map}
use Rattle.gc_monitor.specs.Claims.{Accepts}
use Rattle.gc_monitor.specs.Origins.{pairs_in}
use Rattle.gc_monitor.specs.Tables.{Tables}
use Rattle.gc_heap.specs.Heap.{graph_in}
use Rattle.gc_model.specs.State.{State, pairs_of}
use Rattle.gc_model.specs.Steps.{collect, is_ready}
use Rattle.gc_model.specs.declared.step.Step.TheVariants as steps
use Rattle.gc_model.specs.declared.step.StepReply.TheVariants.{NotReady, Flipped}
use Rattle.gc_copy.specs.Words.{CollectionWords, collection_in, open_state, state_of}
use Rattle.gc_graph.specs.Slots.{roots_of}
use Rattle.gc_roots.specs.Looks.{LookRow}
use Rattle.gc_collected.specs.declared.known.KnownRoots.{KnownRoots}
use Rattle.gc_collected.specs.Internal.Flip.{IsFlipOf, IsNoFlip}
use Rattle.gc_collected.specs.Flip.{HasAccepted, PassesIfReady, flip_pair}
use Rattle.gc_collected.specs.Internal.Follows.{Follows}
use Rattle.gc_collected.proofs.Core.{core_is}
use Rattle.gc_collected.proofs.Flips.{Said, flip_along, flip_certified, flip_followed, monitored, not_refused, same_pairs}
use Rattle.gc_collected.proofs.Marks.{flip_fits}
use Rattle.gc_collected.proofs.collected_heap.CollectedHeap.flip.Given as given
use Rattle.gc_collected.proofs.collected_heap.CollectedHeap.flip.Goals as goal
use Rattle.gc_collected.proofs.collected_heap.CollectedHeap.flip.Goals.{In-Err, After-flipped}

at_err : {A B : Type 0} (P : A → Type 0) (Q : B → Type 0) (r : Result A B) (e : B) → r ≡ Err e → MatchResult r P Q → Q e
at_err P Q r e is h = subst (λ r. MatchResult r P Q) is h

at_yes : {A B : Type 0} (P : A → Type 0) (Q : B → Type 0) (r : Result A B) (a : A) → r ≡ Ok a → MatchResult r P Q → P a
at_yes P Q r a is h = subst (λ r. MatchResult r P Q) is h

at_ok : {A B : Type 0} (P : A → Type 0) (r : Result A B) (a : A) → r ≡ Ok a → IfOk r P → P a
at_ok P r a is h = subst (λ r. IfOk r P) is h

-- ---- no flip

pub returns-in_default-clause-along : goal.returns-in_default-clause-along
returns-in_default-clause-along g c none = (c.self.inside.watch, λ pairs is. cc)

stays : (g : given.Over) (c : In-Err g) → (c.in-Err.reply ≡ NotReady) × (collect c.args.self.now.core steps.Flip ≡ (c.in-Err.reply, c.args.self.now.core)) × PassesIfReady c.args.self.now.core c.in-Err.reply
stays g c = not_refused c.self.inside.heap c.self.inside.collection c.in-Some.collection c.args.self.now.core c.self.inside.watch c.self.inside.along c.is_whole-whole.result c.in-Some.is (core_is c.self.view_is) c.is_sound.ensures.heap c.is_sound.ensures.open
    c.self.invariant.1 (monitored c.args.keep _ _ _ c.self.view_is c.is_whole-whole.ensures) c.in-Err.reply
    (subst (λ (t : Tables). IsNoFlip c.is_whole-whole.result (is_ready (collection_in c.in-Some.collection) (graph_in c.self.inside.heap)) (HasAccepted (Accepts t) (flip_pair (open_state c.self.inside.heap c.in-Some.collection) (collection_in c.in-Some.collection))) c.in-Err.reply)
    c.root_watcher-along.ensures.standing (at_err _ _ _ _ c.in-Err.is c.in_ok-decided.ensures.approved))

pub returns-in-Err-clause-step : goal.returns-in-Err-clause-step
returns-in-Err-clause-step g c =
    let s = stays g (goal.at.returns-in-Err-clause-step g c).In-Err in
    s.1 ∙ ap (λ (x : State). (c.in-Err.reply, x)) (sym (core_is c.self.view_is) ∙ ap (λ o. state_of c.self.inside.heap (option_map collection_in o)) c.in-Some.is ∙ sym c.decide.ensures.state)

pub returns-in-Err-clause-along : goal.returns-in-Err-clause-along
returns-in-Err-clause-along g c none = (c.self.inside.watch, λ pairs is. (let no : NotReady ≡ Flipped pairs = sym (stays g (goal.at.returns-in-Err-clause-along g c).In-Err).0 ∙ is in cc))

pub returns-in-Err-clause-passes : goal.returns-in-Err-clause-passes
returns-in-Err-clause-passes g c = (stays g (goal.at.returns-in-Err-clause-passes g c).In-Err).2

pub returns-in-Err-clause-never_refused : goal.returns-in-Err-clause-never_refused
returns-in-Err-clause-never_refused g c is = (let told = (stays g (goal.at.returns-in-Err-clause-never_refused g c).In-Err).0 in cc)

-- ---- a flip

-- the collection that is carried out is the one that was decided about
taken_is : (after taken : CollectionWords) (o : Option CollectionWords) → Some after ≡ o → o ≡ Some taken → after ≡ taken
taken_is after taken o e f = (let both : Some after ≡ Some taken = e ∙ f in cc)

-- it leaves the state in which the call began
before : (g : given.Over) (c : After-flipped g) → open_state c.decide.new.heap c.unwrap-collection.result ≡ state_of c.self.inside.heap (option_map collection_in c.self.inside.collection)
before g c =
    ap (λ (d : CollectionWords). open_state c.decide.new.heap d) (sym (taken_is c.decide.new.collection c.unwrap-collection.result _ (sym c.take.ensures.value) c.unwrap-collection.ensures)) ∙ c.decide.ensures.state
    ∙ ap (λ o. state_of c.self.inside.heap (option_map collection_in o)) (sym c.in-Some.is)

pub returns-clause-step : goal.returns-clause-step
returns-clause-step g c =
    subst (λ (s : State). collect s steps.Flip ≡ (Flipped c.carry_out-pairs.result, state_of c.carry_out-pairs.new.heap (option_map collection_in c.take.new.self))) (before g (goal.at.returns-clause-step g c).After-flipped ∙ core_is c.self.view_is)
    (c.carry_out-pairs.ensures.step ∙ ap (λ o. (Flipped c.carry_out-pairs.result, state_of c.carry_out-pairs.new.heap (option_map collection_in o))) (sym c.take.ensures.after))

-- the roots that the monitor has compared are alike, so its yes is that of its tables
said : (g : given.Over) (c : After-flipped g) → IsFalse c.is_whole-whole.result → HasAccepted (Said c.self.inside.watch) (flip_pair (open_state c.self.inside.heap c.in-Some.collection) (collection_in c.in-Some.collection))
said g c none =
    let pairs = same_pairs c.self.inside.heap c.self.inside.collection c.in-Some.collection c.args.self.now.core c.self.inside.watch c.self.inside.along c.is_whole-whole.result c.in-Some.is (core_is c.self.view_is) c.is_sound.ensures.heap c.is_sound.ensures.open
    c.self.invariant.1 (monitored c.args.keep _ _ _ c.self.view_is c.is_whole-whole.ensures) none in
    subst (λ (t : Tables). HasAccepted (Said t) (flip_pair (open_state c.self.inside.heap c.in-Some.collection) (collection_in c.in-Some.collection))) c.root_watcher-along.ensures.standing
    ((at_ok _ _ _ c.in-Ok.is c.in_ok-decided.ensures.asked).1 none
    (c.root_watcher-along.ensures.looked (subst (λ (t : Tables). pairs_in t.origins ≡ pairs_of (collection_in c.in-Some.collection)) (sym c.root_watcher-along.ensures.standing) pairs)))

pub returns-clause-along : goal.returns-clause-along
returns-clause-along g c none = (
  c.self.inside.watch,
  λ pairs told. flip_along c.self.inside.heap c.self.inside.collection c.in-Some.collection c.args.self.now.core c.self.inside.watch c.self.inside.along c.is_whole-whole.result c.in-Some.is (core_is c.self.view_is) c.is_sound.ensures.heap c.is_sound.ensures.open
      c.self.invariant.1 (monitored c.args.keep _ _ _ c.self.view_is c.is_whole-whole.ensures) _ ((at_ok _ _ _ c.in-Ok.is c.in_ok-decided.ensures.asked).0, said g (goal.at.returns-clause-along g c).After-flipped) (c.is_whole-whole.ensures ∙ none),
)

pub returns-clause-sound : goal.returns-clause-sound
returns-clause-sound g c pairs told = flip_certified c.self.inside.heap c.self.inside.collection c.in-Some.collection c.args.self.now.core c.self.inside.watch c.self.inside.along c.is_whole-whole.result c.in-Some.is (core_is c.self.view_is) c.is_sound.ensures.heap c.is_sound.ensures.open
    c.self.invariant.1 (monitored c.args.keep _ _ _ c.self.view_is c.is_whole-whole.ensures) _ c.a_yes_is_sound.ensures.watched c.is_watched.ensures (λ whole. at_ok _ _ _ c.in-Ok.is (c.in_ok-decided.ensures.certified whole)) ((at_ok _ _ _ c.in-Ok.is c.in_ok-decided.ensures.asked).0, said g (goal.at.returns-clause-sound g c).After-flipped)

pub carry_out-pairs-requires-clause-approved : goal.carry_out-pairs-requires-clause-approved
carry_out-pairs-requires-clause-approved g c =
    subst (λ (d : CollectionWords). IsFlipOf c.decide.new.heap d c.decide.new.twins c.in-Ok.approved) (taken_is c.decide.new.collection c.unwrap-collection.result _ (sym c.take.ensures.value) c.unwrap-collection.ensures)
    (at_yes _ _ _ _ c.in-Ok.is c.in_ok-decided.ensures.approved).1

pub invariant_of-self-2 : goal.invariant_of-self-2
invariant_of-self-2 g c =
    let was = before g (goal.at.invariant_of-self-2 g c).After-flipped in
    let known : KnownRoots = record { slots = c.search.new.known.slots; twins = c.carry_out-pairs.new.twins; looks = c.restart.new.self } in
    let slots : c.search.new.known.slots ≤ roots_of c.carry_out-pairs.new.heap.mutators = omega (arith, c.search.ensures.knows.slots_high, ap roots_of c.carry_out-pairs.ensures.mutators, ap (λ (s : State). roots_of s.mutators) c.decide.ensures.state) in
    let marks = flip_fits 1 known c.carry_out-pairs.new.heap c.take.new.self slots c.carry_out-pairs.ensures.keeps c.carry_out-pairs.ensures.links c.take.ensures.after in (
      (marks.0, marks.1, λ k less. absurd (omega (arith, less, ap (λ (row : LookRow). row.front) c.restart.ensures))),
      λ on. subst (λ o. Follows (state_of c.carry_out-pairs.new.heap (option_map collection_in o)) c.flipped.new.self) (sym c.take.ensures.after)
          (flip_followed c.self.inside.heap c.self.inside.collection c.in-Some.collection c.args.self.now.core c.self.inside.watch c.self.inside.along c.is_whole-whole.result c.in-Some.is (core_is c.self.view_is) c.is_sound.ensures.heap c.is_sound.ensures.open
          c.self.invariant.1 (monitored c.args.keep _ _ _ c.self.view_is c.is_whole-whole.ensures) c.carry_out-pairs.new.heap c.carry_out-pairs.result c.flipped.new.self
          (subst (λ (s : State). collect s steps.Flip ≡ (Flipped c.carry_out-pairs.result, state_of c.carry_out-pairs.new.heap (option_map collection_in None))) (was ∙ core_is c.self.view_is) c.carry_out-pairs.ensures.step) c.flipped.ensures.stays c.flipped.ensures.flipped on),
    )
