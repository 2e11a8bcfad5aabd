-- Commands on roots by their places keep what is known of the roots.
use Rattle.std.proofs.lemmas.Grind.{common_steps}
use Rattle.std.proofs.lemmas.Bool.{cases_lt, cond_both, ltb-true}
use Rattle.std.proofs.Common.{◌≡◌, inl, inr, ℕ, ◌+◌, ◌-◌, ◌<◌, ◌≤◌, length, Bool, List, [], Option, Some, None, true, refl, ap, sym, ◌∙◌, subst, arith}
use Rattle.std.specs.Prelude.{IfSome, max}
use Rattle.std.specs.Option.{option_map}
use Rattle.std.proofs.lemmas.Option.{slice_get_past}
use Rattle.gc_graph.specs.Graph.{Value, Nil, Num, Ref, Object, Graph, field_of, lookup, object_of, root}
use Rattle.gc_graph.specs.declared.command.Op.TheVariants.{Get, Put}
use Rattle.gc_graph.specs.declared.command.Op.TheVariants as ops
use Rattle.gc_model.proofs.Public.{lookup_in}
use Rattle.gc_graph.specs.Machine.{words_taken}
use Rattle.gc_graph.specs.Slots.{SlotName, place, roots_of}
use Rattle.gc_graph.specs.declared.command.Op.{Op}
use Rattle.gc_graph.specs.declared.reply.Reply.{Reply}
use Rattle.gc_heap.specs.Commands.{Performs}
use Rattle.gc_heap.specs.Heap.{HeapWords, IsHeap}
use Rattle.gc_heap.specs.Places.{root_at}
use Rattle.gc_model.specs.State.{State}
use Rattle.gc_model.specs.Staying.{root_written}
use Rattle.gc_model.specs.Steps.{WritesField, mutate}
use Rattle.gc_model.specs.Belonging.{IsOpened, IsSpaceGraph}
use Rattle.gc_copy.specs.Words.{CollectionWords, collection_in, state_of}
use Rattle.gc_monitor.specs.Tables.{Tables}
use Rattle.gc_collected.specs.Internal.CollectedHeap.{Fits}
use Rattle.gc_collected.specs.Internal.Follows.{Follows}
use Rattle.gc_collected.specs.Internal.KnownRoots.{ComparesTwins, HasStored, HasWritten, KnowsRoots}
use Rattle.gc_collected.specs.declared.known.KnownRoots.{KnownRoots}
use Rattle.gc_collected.proofs.Followed.{quiet}
use Rattle.gc_collected.specs.Internal.Values.{set_plain}
use Rattle.gc_collected.specs.declared.values.Plain.{Plain}
use Rattle.gc_collected.specs.declared.values.Plain.TheVariants as plains
use Rattle.gc_collected.proofs.Marks.{SetsPlain, one_below, plain_command, put_knows, set_nil, slot_command, stored_command}
use Rattle.gc_collected.proofs.OtherCommands.{it_belongs, mutated, still_fits}

-- what is known of the roots, and what the monitor has compared
abbrev pub Known : KnownRoots → State → Type 0
Known known s = KnowsRoots known s × ComparesTwins known

-- an extra root was written, and is in use
module _ (known now : KnownRoots) (s : State) (m p : ℕ) (op : Op) (at : root_written m op ≡ Some p) (within : p < length s.heap.graph.roots) (high : roots_of s.mutators ≤ p) where
  here : root_written m op ≡ Some (roots_of s.mutators + (p - roots_of s.mutators))
  here = at ∙ ap Some (omega (arith, high))

-- an extra root was written, and is in use unless it is nil
extra_known : (was now : KnownRoots) (s : State) (m p : ℕ) (op : Op) → root_written m op ≡ Some p → p < length s.heap.graph.roots → roots_of s.mutators ≤ p → HasWritten was now (p - roots_of s.mutators) → was.twins.used ≤ now.twins.used
    → roots_of s.mutators + now.twins.used ≤ length was.twins.twins → (now.twins.used ≤ p - roots_of s.mutators → root (mutate s m op).1.heap.graph (roots_of s.mutators + (p - roots_of s.mutators)) ≡ Nil) → Known was s → Known now (mutate s m op).1
extra_known was now s m p op at within high written more counted nil k =
    (stored_command was now s m (p - roots_of s.mutators) op (here was now s m p op at within high) written more counted nil k.0, written.compares k.1)

-- the same of a root at a place that took a value
taken_known : (was now : KnownRoots) (known : ℕ) (s : State) (m p : ℕ) (op : Op) → root_written m op ≡ Some p → p < length s.heap.graph.roots → HasStored was now known (max was.twins.used (p - roots_of s.mutators + 1)) (roots_of s.mutators) p
    → roots_of s.mutators ≤ p → Known was s → Known now (mutate s m op).1
taken_known was now known s m p op at within taken high k =
    let used = taken.used high in
    let up = k.0.keeps.used_high in
    let counted = k.0.keeps.counted in
    extra_known was now s m p op at within high (taken.extra high) (omega (arith, used)) (omega (arith, used, up, counted, within, high)) (λ le. absurd (omega (arith, le, used))) k

pub root_known : (was now : KnownRoots) (s : State) (m p : ℕ) (op : Op) → root_written m op ≡ Some p → p < length s.heap.graph.roots → HasStored was now 0 (max was.twins.used (p - roots_of s.mutators + 1)) (roots_of s.mutators) p → Known was s → Known now (mutate s m op).1
root_known was now s m p op at within taken k = elim (cases_lt p (roots_of s.mutators)) [
  | inl low ↦ subst (λ (n : KnownRoots). Known n (mutate s m op).1) (sym (taken.slot low)) (slot_command was s m op (λ q e. one_below p q (roots_of s.mutators) low (sym at ∙ e)) k.0, k.1)
  | inr high ↦ taken_known was now 0 s m p op at within taken high k
]

-- nothing changes for a slot that takes nil or a number
plain_slot : (was now : KnownRoots) (used : ℕ) (s : State) (m p : ℕ) (op : Op) → SetsPlain op → root_written m op ≡ Some p → HasStored was now was.slots used (roots_of s.mutators) p → p < roots_of s.mutators → Known was s → Known now (mutate s m op).1
plain_slot was now used s m p op plain at taken low k =
    subst (λ (n : KnownRoots). Known n (mutate s m op).1) (sym (taken.slot low)) (plain_command was s m op plain (λ q e. one_below p q (roots_of s.mutators) low (sym at ∙ e)) k.0, k.1)

pub plain_root_known : (was now : KnownRoots) (s : State) (m p : ℕ) (op : Op) → SetsPlain op → root_written m op ≡ Some p → p < length s.heap.graph.roots → HasStored was now was.slots (max was.twins.used (p - roots_of s.mutators + 1)) (roots_of s.mutators) p
    → Known was s → Known now (mutate s m op).1
plain_root_known was now s m p op plain at within taken k = elim (cases_lt p (roots_of s.mutators)) [
  | inl low ↦ plain_slot was now _ s m p op plain at taken low k
  | inr high ↦ taken_known was now was.slots s m p op at within taken high k
]

nil_made : (s : State) (p q : ℕ) → q ≡ p → root (mutate s 0 (ops.Nil (root_at p))).1.heap.graph q ≡ Nil
nil_made s p q same = grind (arith, common_steps, cond_both, ltb-true, set_nil)

pub nil_root_known : (was now : KnownRoots) (s : State) (p : ℕ) → p < length s.heap.graph.roots → HasStored was now was.slots was.twins.used (roots_of s.mutators) p → Known was s → Known now (mutate s 0 (ops.Nil (root_at p))).1
nil_root_known was now s p within taken k = elim (cases_lt p (roots_of s.mutators)) [
  | inl low ↦ plain_slot was now _ s 0 p (ops.Nil (root_at p)) tt refl taken low k
  | inr high ↦ (let used = taken.used high in extra_known was now s 0 p (ops.Nil (root_at p)) refl within high (taken.extra high) (omega (arith, used)) (omega (arith, used, k.0.keeps.used_high)) (λ le. nil_made s p _ (omega (arith, high))) k)
]

-- ---- a root that is set to nil or a number

sets_plain : (q : ℕ) (v : Plain) → SetsPlain (set_plain q v)
sets_plain q plains.Nil = tt
sets_plain q (plains.Number n) = tt

sets_root : (m q : ℕ) (v : Plain) → root_written m (set_plain q v) ≡ Some q
sets_root m q plains.Nil = refl
sets_root m q (plains.Number n) = refl

pub puts_none : (q : ℕ) (v : Plain) → ¬ WritesField (set_plain q v)
puts_none q plains.Nil = λ none. none
puts_none q (plains.Number n) = λ none. none

pub takes_none : (q : ℕ) (v : Plain) → words_taken (set_plain q v) ≡ 0
takes_none q plains.Nil = refl
takes_none q (plains.Number n) = refl

-- and then put, where it is a slot
pub set_put_knows : (known : KnownRoots) (s one new : State) (m p i q : ℕ) (v : Plain) (first reply : Reply) → q < roots_of s.mutators → mutate s m (set_plain q v) ≡ (first, one) → mutate one m (Put (root_at p) i (root_at q)) ≡ (reply, new) → KnowsRoots known s → KnowsRoots known new
set_put_knows known s one new m p i q v first reply low set put k =
    put_knows known one new m i (root_at p) (root_at q) reply put
    (subst (KnowsRoots known) (ap (λ (x : Reply × State). x.1) set) (plain_command known s m (set_plain q v) (sets_plain q v) (λ r e. one_below q r (roots_of s.mutators) low (sym (sets_root m q v) ∙ e)) k))

-- ---- with the heap and the monitor

abbrev pub Holds : ℕ → KnownRoots → HeapWords → Option CollectionWords → Tables → Bool → Type 0
Holds epoch known heap o t along = (Fits epoch heap o × KnowsRoots known (state_of heap (option_map collection_in o)) × ComparesTwins known) × (along ≡ true → Follows (state_of heap (option_map collection_in o)) t)

-- a command that writes no field and makes no object
pub root_followed : (s : State) (epoch : ℕ) (known now : KnownRoots) (heap new : HeapWords) (o : Option CollectionWords) (m : ℕ) (op : Op) (reply : Reply) (t : Tables) (along : Bool) → state_of heap (option_map collection_in o) ≡ s → IfSome s.collection (IsOpened s)
    → IsHeap heap → Performs heap m op reply new → ¬ WritesField op → words_taken op ≡ 0 → (Known known (state_of heap (option_map collection_in o)) → Known now (mutate (state_of heap (option_map collection_in o)) m op).1)
    → Holds epoch known heap o t along → Holds epoch now new o t along
root_followed s epoch known now heap new o m op reply t along view is_open sound performs none few knows k =
    let known_now = subst (Known now) (ap (λ (x : Reply × State). x.1) (mutated epoch heap new o m op reply sound none performs k.0.0)) (knows (k.0.1, k.0.2)) in (
      (still_fits epoch heap new o m op reply sound none performs k.0.0, known_now.0, known_now.1),
      λ on. quiet s heap new o m op reply t view is_open sound none few performs (it_belongs epoch heap o k.0.0) (k.1 on),
    )

-- ---- a field that no object has

named : (objects : List (ℕ × Object)) (v : Value) (o : Object) → object_of objects v ≡ Some o → (a : ℕ) × (lookup objects a ≡ Some o)
named objects Nil o found = absurd (let no : None ≡ Some o = found in cc)
named objects (Num n) o found = absurd (let no : None ≡ Some o = found in cc)
named objects (Ref a) o found = (a, found)

pub absent : (size free : ℕ) (g : Graph) (v : Value) (i : ℕ) → IsSpaceGraph size free g → 65535 ≤ i → field_of (object_of g.objects v) i ≡ None
absent size free g v i graph high = go (object_of g.objects v) refl
  where
    go : (o : Option Object) → object_of g.objects v ≡ o → field_of o i ≡ None
    go None is = slice_get_past {X = Value} [] i (omega arith)
    go (Some o) is = let there = named g.objects v o is in slice_get_past o.fields i (let short = (graph.objects there.0 o (lookup_in g.objects there.0 o there.1)).len in omega (arith, short, high))

same_get : (s : State) (m i j : ℕ) (d p : SlotName) → field_of (object_of s.heap.graph.objects (root s.heap.graph (place p m))) i ≡ None → field_of (object_of s.heap.graph.objects (root s.heap.graph (place p m))) j ≡ None → mutate s m (Get d p i) ≡ mutate s m (Get d p j)
same_get s m i j d p one other = grind (arith, common_steps)

pub same_put : (s : State) (m i j : ℕ) (p t : SlotName) → field_of (object_of s.heap.graph.objects (root s.heap.graph (place p m))) i ≡ None → field_of (object_of s.heap.graph.objects (root s.heap.graph (place p m))) j ≡ None → mutate s m (Put p i t) ≡ mutate s m (Put p j t)
same_put s m i j p t one other = grind (arith, common_steps)

pub get_numbered : (s : State) (m i n : ℕ) (d p : SlotName) → IsSpaceGraph s.size s.heap.free s.heap.graph → (i ≤ 65535 → n ≡ i) → (65535 < i → n ≡ 65535) → mutate s m (Get d p n) ≡ mutate s m (Get d p i)
get_numbered s m i n d p graph small large = elim (cases_lt 65535 i) [
  | inl high ↦ (let is = large high in same_get s m n i d p (absent s.size s.heap.free s.heap.graph (root s.heap.graph (place p m)) n graph (omega (arith, is))) (absent s.size s.heap.free s.heap.graph (root s.heap.graph (place p m)) i graph (omega (arith, high))))
  | inr low ↦ ap (λ k. mutate s m (Get d p k)) (small low)
]

pub put_numbered : (s : State) (m i n : ℕ) (p t : SlotName) → IsSpaceGraph s.size s.heap.free s.heap.graph → (i ≤ 65535 → n ≡ i) → (65535 < i → n ≡ 65535) → mutate s m (Put p n t) ≡ mutate s m (Put p i t)
put_numbered s m i n p t graph small large = elim (cases_lt 65535 i) [
  | inl high ↦ (let is = large high in same_put s m n i p t (absent s.size s.heap.free s.heap.graph (root s.heap.graph (place p m)) n graph (omega (arith, is))) (absent s.size s.heap.free s.heap.graph (root s.heap.graph (place p m)) i graph (omega (arith, high))))
  | inr low ↦ ap (λ k. mutate s m (Put p k t)) (small low)
]
