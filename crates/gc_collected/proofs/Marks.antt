-- What commands and steps leave of the marks of a collected heap.
use Rattle.std.proofs.lemmas.Grind.{common_steps}
use Rattle.std.proofs.Common.{◌≡◌, ◌≢◌, ⊎_elim, ℕ, zero, suc, ◌+◌, ◌-◌, ◌<◌, ◌≤◌, nat_lt, List, [], ◌∷◌, length, map, slice_get, replicate, Option, Some, None, refl, sym, ap, ◌∙◌, subst, arith}
use Rattle.std.specs.Prelude.{IfSome, max, slice_index, slice_set}
use Rattle.std.specs.Option.{option_map, unwrap_or}
use Rattle.std.proofs.lemmas.Bool.{cond_both, cases_lt, cases_eq, ltb-true}
use Rattle.gc_graph.specs.Slots.{SlotName, place, roots_of}
use Rattle.gc_graph.specs.Graph.{Value, Nil, Num, Ref, Graph, root}
use Rattle.gc_graph.specs.Machine.{Roomy}
use Rattle.gc_heap.specs.ExtraRoots.{extra_root}
use Rattle.gc_heap.specs.declared.options.HeapOptions.{HeapOptions}
use Rattle.gc_collected.specs.ExtraRoots.{clear_step}
use Rattle.std.proofs.lemmas.List.{length-map, length-replicate}
use Rattle.gc_words.specs.Word.{value_of}
use Rattle.gc_heap.specs.Heap.{HeapWords, empty_heap}
use Rattle.gc_graph.specs.declared.command.Op.{Op}
use Rattle.gc_graph.specs.declared.command.Op.TheVariants as ops
use Rattle.gc_graph.specs.declared.reply.Reply.{Reply}
use Rattle.gc_graph.specs.declared.reply.Reply.TheVariants as replies
use Rattle.gc_model.specs.State.{Collection, State}
use Rattle.gc_copy.specs.Words.{CollectionWords, LinksNothing, collection_in, state_of, idle_state}
use Rattle.gc_model.specs.Staying.{HasReplicaOf, KnowsRoot, root_written}
use Rattle.gc_model.specs.Steps.{mutate, collect}
use Rattle.gc_model.specs.declared.step.Step.{Step}
use Rattle.gc_model.specs.declared.step.Step.TheVariants as steps
use Rattle.gc_model.proofs.Public.{all_replicated, first_missing, steps_stay, collect_stays, mutate_stays}
use Rattle.gc_collected.specs.CollectedHeap.{fill_step, filled, new_from_step}
use Rattle.gc_collected.specs.Internal.CollectedHeap.{Fits}
use Rattle.gc_collected.specs.Internal.KnownRoots.{HasStored, HasWritten, KnowsRoots, roots_left_in}
use Rattle.gc_roots.specs.Twins.{AskForLooks, AsksForLook, KeepsTwins, IsDone}
use Rattle.gc_roots.proofs.Public.{extra_known, nil_asks as nil_twins, opening_keeps, root_command as root_twins, slot_command as slot_twins, step_keeps as step_twins, taken_asks as taken_twins}
use Rattle.gc_collected.specs.declared.known.KnownRoots.{KnownRoots}
use Rattle.gc_collected.specs.declared.known.Found.{Found}
use Rattle.gc_collected.specs.declared.known.Found.TheVariants.{Missing, AllKnown, Unfinished}
use Rattle.gc_collected.specs.Internal.Found.{FindsFirst, IsMissingExtra}

-- what is known of a heap and its roots, with what the monitor has compared
pub with_looks : {A B C : Type 0} → C → A × B → A × B × C
with_looks c pair = (pair.0, pair.1, c)

-- the same marks, of which nothing is said of the slots
abbrev pub forgetting : KnownRoots → KnownRoots
forgetting known = record { slots = 0; twins = known.twins; looks = known.looks }

-- ---- commands

-- the command writes no root at this place or after it
abbrev pub WritesBelow : ℕ → ℕ → Op → Type 0
WritesBelow end m op = (q : ℕ) → root_written m op ≡ Some q → q < end

-- a slot's place is below that of the first extra root
pub slot_below : (d : SlotName) (m mutators : ℕ) → d.index < 16 → m < mutators → place d m < roots_of mutators
slot_below d m mutators low less = cond_both d.shared _ _ (λ (p : ℕ). p < roots_of mutators) (λ t. omega (arith, low)) (λ t. omega (arith, low, less))

pub one_below : (p q end : ℕ) → p < end → Some p ≡ Some q → q < end
one_below p q end less e = let same : p ≡ q = cc e in omega (arith, same, less)

not_this : (end m : ℕ) (op : Op) (p : ℕ) → WritesBelow end m op → end ≤ p → root_written m op ≢ Some p
not_this end m op p below le e = let less = below p e in absurd (omega (arith, less, le))

-- a command that writes at most a slot
pub slot_command : (known : KnownRoots) (s : State) (m : ℕ) (op : Op) → WritesBelow (roots_of s.mutators) m op → KnowsRoots known s
    → KnowsRoots (forgetting known) (mutate s m op).1
slot_command known s m op below k = record {
  slots_high = omega arith;
  slots = λ p less. absurd (omega (arith, less));
  keeps = slot_twins known.twins s m op below k.keeps;
}

-- a command that writes no root
quiet_command : (known : KnownRoots) (s : State) (m : ℕ) (op : Op) → root_written m op ≡ None → KnowsRoots known s → KnowsRoots known (mutate s m op).1
quiet_command known s m op none k = record {
  slots_high = k.slots_high;
  slots = λ p less. mutate_stays s m op p (other p) (k.slots p less);
  keeps = slot_twins known.twins s m op (λ q e. absurd (other q e)) k.keeps;
}
  where
    other : (p : ℕ) → root_written m op ≢ Some p
    other p e = absurd (let no : None ≡ Some p = sym none ∙ e in cc)

-- a value that refers to no object
abbrev pub RefersNot : Value → Type 0
RefersNot Nil = Unit {0}
RefersNot (Num n) = Unit {0}
RefersNot (Ref a) = ⊥

-- the command sets a slot to such a value
abbrev pub SetsPlain : Op → Type 0
SetsPlain (ops.New d kind len) = ⊥
SetsPlain (ops.NewRaw d kind len) = ⊥
SetsPlain (ops.Num d n) = Unit {0}
SetsPlain (ops.Nil d) = Unit {0}
SetsPlain (ops.Move d s) = ⊥
SetsPlain (ops.Get d s i) = ⊥
SetsPlain (ops.Put s i t) = ⊥
SetsPlain (ops.Same s t) = ⊥
SetsPlain (ops.Look s) = ⊥

plain_known : (s : State) (p : ℕ) → RefersNot (root s.heap.graph p) → KnowsRoot s p
plain_known s p plain = grind (arith, common_steps)

set_plain : (vs : List Value) (q : ℕ) (v : Value) → RefersNot v → RefersNot (unwrap_or (slice_get (slice_set vs q v) q) Nil)
set_plain [] q v plain = tt
set_plain (x ∷ vs) zero v plain = plain
set_plain (x ∷ vs) (suc q) v plain = set_plain vs q v plain

-- the root that it sets, and that it refers to no object afterwards
plain_set : (s : State) (m : ℕ) (op : Op) → SetsPlain op → (q : ℕ) × (root_written m op ≡ Some q) × RefersNot (root (mutate s m op).1.heap.graph q)
plain_set s m (ops.New d kind len) plain = absurd plain
plain_set s m (ops.NewRaw d kind len) plain = absurd plain
plain_set s m (ops.Num d n) plain = (
  place d m,
  refl,
  cond_both (nat_lt s.heap.free 0) _ _ (λ (x : Reply × Roomy). RefersNot (root x.1.graph (place d m)))
      (λ t. absurd (let no = ltb-true s.heap.free 0 t in omega (arith, no)))
      (λ t. set_plain s.heap.graph.roots (place d m) (Num n) tt),
)
plain_set s m (ops.Nil d) plain = (
  place d m,
  refl,
  cond_both (nat_lt s.heap.free 0) _ _ (λ (x : Reply × Roomy). RefersNot (root x.1.graph (place d m)))
      (λ t. absurd (let no = ltb-true s.heap.free 0 t in omega (arith, no)))
      (λ t. set_plain s.heap.graph.roots (place d m) Nil tt),
)
plain_set s m (ops.Move d t) plain = absurd plain
plain_set s m (ops.Get d t i) plain = absurd plain
plain_set s m (ops.Put t i u) plain = absurd plain
plain_set s m (ops.Same t u) plain = absurd plain
plain_set s m (ops.Look t) plain = absurd plain

-- a command that sets a slot to nil or a number, which needs no replica
pub plain_command : (known : KnownRoots) (s : State) (m : ℕ) (op : Op) → SetsPlain op → WritesBelow (roots_of s.mutators) m op → KnowsRoots known s → KnowsRoots known (mutate s m op).1
plain_command known s m op plain below k = record {
  slots_high = k.slots_high;
  slots = λ p less. knows p (k.slots p less);
  keeps = slot_twins known.twins s m op below k.keeps;
}
  where
    there : (q : ℕ) × (root_written m op ≡ Some q) × RefersNot (root (mutate s m op).1.heap.graph q)
    there = plain_set s m op plain

    knows : (p : ℕ) → KnowsRoot s p → KnowsRoot (mutate s m op).1 p
    knows p has = ⊎_elim
        (λ same. plain_known (mutate s m op).1 p (subst (λ q. RefersNot (root (mutate s m op).1.heap.graph q)) (sym same) there.2))
        (λ other. mutate_stays s m op p (λ e. (let same : there.0 ≡ p = cc (sym there.1 ∙ e) in other (sym same))) has)
        (cases_eq p there.0)

-- a command that writes extra root i, which is in use afterwards, or nil
pub stored_command : (known now : KnownRoots) (s : State) (m i : ℕ) (op : Op) → root_written m op ≡ Some (roots_of s.mutators + i) → HasWritten known now i → known.twins.used ≤ now.twins.used
    → roots_of s.mutators + now.twins.used ≤ length known.twins.twins → (now.twins.used ≤ i → root (mutate s m op).1.heap.graph (roots_of s.mutators + i) ≡ Nil) → KnowsRoots known s → KnowsRoots now (mutate s m op).1
stored_command known now s m i op at written more high nil k = record {
  slots_high = omega (arith, written.slots, k.slots_high);
  slots = λ p less. mutate_stays s m op p (other p (omega (arith, less, written.slots, k.slots_high))) (k.slots p (omega (arith, less, written.slots)));
  keeps = root_twins known.twins now.twins s m i op at written.twins more high nil k.keeps;
}
  where
    other : (p : ℕ) → p ≢ roots_of s.mutators + i → root_written m op ≢ Some p
    other p differ e = let same : roots_of s.mutators + i ≡ p = cc (sym at ∙ e) in differ (sym same)

-- ---- nil

pub set_nil : (vs : List Value) (q : ℕ) → unwrap_or (slice_get (slice_set vs q Nil) q) Nil ≡ Nil
set_nil [] q = refl
set_nil (v ∷ vs) zero = refl
set_nil (v ∷ vs) (suc q) = set_nil vs q

-- ---- looks

-- an extra root that takes a value, or becomes nil, asks for one look at most, whether a collection is open or not
taken_asks : (o : Option CollectionWords) (known now : KnownRoots) (k : ℕ) → HasWritten known now k → now.twins.used ≡ max known.twins.used (k + 1) → AsksForLook k (roots_left_in o known.twins) (roots_left_in o now.twins)
taken_asks None known now k w used = (taken_twins known.twins now.twins k w.twins used).1
taken_asks (Some c) known now k w used = (taken_twins known.twins now.twins k w.twins used).0

nilled_asks : (o : Option CollectionWords) (known now : KnownRoots) (k : ℕ) → HasWritten known now k → now.twins.used ≡ known.twins.used → AskForLooks 1 (roots_left_in o known.twins) (roots_left_in o now.twins)
nilled_asks None known now k w used = (nil_twins known.twins now.twins k w.twins used).1
nilled_asks (Some c) known now k w used = (nil_twins known.twins now.twins k w.twins used).0

-- a slot asks for no look
pub stored_stays : (o : Option CollectionWords) (was now : KnownRoots) (known bound slots p : ℕ) → HasStored was now known bound slots p → p < slots → roots_left_in o now.twins ≡ roots_left_in o was.twins
stored_stays o was now known bound slots p h less = ap (λ (x : KnownRoots). roots_left_in o x.twins) (h.slot less)

-- a root at a place that takes a value
pub stored_asks_near : (o : Option CollectionWords) (was now : KnownRoots) (known slots p : ℕ) → HasStored was now known (max was.twins.used (p - slots + 1)) slots p → AsksForLook (p - slots) (roots_left_in o was.twins) (roots_left_in o now.twins)
stored_asks_near o was now known slots p h = ⊎_elim
    (λ less. (let same = ap (λ (x : KnownRoots). roots_left_in o x.twins) (h.slot less) in (omega (arith, same), omega (arith, same))))
    (λ high. taken_asks o was now (p - slots) (h.extra high) (h.used high))
    (cases_lt p slots)

pub stored_asks : (o : Option CollectionWords) (was now : KnownRoots) (known slots p : ℕ) → HasStored was now known (max was.twins.used (p - slots + 1)) slots p → AsksForLook p (roots_left_in o was.twins) (roots_left_in o now.twins)
stored_asks o was now known slots p h = let asks = stored_asks_near o was now known slots p h in (asks.0, omega (arith, asks.1))

-- a root at a place that becomes nil
pub nil_asks : (o : Option CollectionWords) (was now : KnownRoots) (known slots p : ℕ) → HasStored was now known was.twins.used slots p → AskForLooks 1 (roots_left_in o was.twins) (roots_left_in o now.twins)
nil_asks o was now known slots p h = ⊎_elim
    (λ less. (let same = ap (λ (x : KnownRoots). roots_left_in o x.twins) (h.slot less) in omega (arith, same)))
    (λ high. nilled_asks o was now (p - slots) (h.extra high) (h.used high))
    (cases_lt p slots)

-- ---- steps

pub step_knows : (known : KnownRoots) (s : State) (c : Collection) (step : Step) → s.collection ≡ Some c → step ≢ steps.Flip → KnowsRoots known s → KnowsRoots known (collect s step).1
step_knows known s c step is other k = record {
  slots_high = subst (λ (t : State). known.slots ≤ roots_of t.mutators) (sym (steps_stay s step other)) k.slots_high;
  slots = λ p less. collect_stays p s c step is (k.slots p less);
  keeps = step_twins known.twins s c step is other k.keeps;
}

-- ---- searches

module _ (known : KnownRoots) (s : State) (c : Collection) (is : s.collection ≡ Some c) (k : KnowsRoots known s) where
  abbrev Has : ℕ → Type 0
  Has p = HasReplicaOf c (root s.heap.graph p)

  has : (p : ℕ) → KnowsRoot s p → Has p
  has p h = subst (λ o. IfSome o (λ d. HasReplicaOf d (root s.heap.graph p))) is h

  knows : (p : ℕ) → Has p → KnowsRoot s p
  knows p h = subst (λ o. IfSome o (λ d. HasReplicaOf d (root s.heap.graph p))) (sym is) h

  -- the slots: those that are known, and those that were searched
  pub slots_have : (end : ℕ) → ((p : ℕ) → known.slots ≤ p → p < end → Has p) → (p : ℕ) → p < end → Has p
  slots_have end searched p less = ⊎_elim (λ l. has p (k.slots p l)) (λ l. searched p l less) (cases_lt p known.slots)

  -- the extra roots, where none of them has to be looked at
  pub all_have : ((p : ℕ) → p < roots_of s.mutators → Has p) → IsDone known.twins → (p : ℕ) → Has p
  all_have slots done p = ⊎_elim
      (λ l. slots p l)
      (λ l. (let back : roots_of s.mutators + (p - roots_of s.mutators) ≡ p = omega (arith, l) in subst Has back (extra_known known.twins s c (p - roots_of s.mutators) is k.keeps done)))
      (cases_lt p (roots_of s.mutators))

-- and the first root without a replica, where the slots have theirs
pub rest_found : (c : Collection) (g : Graph) (slots : ℕ) (found : Found) → ((p : ℕ) → p < slots → HasReplicaOf c (root g p)) → (found ≡ AllKnown → (p : ℕ) → HasReplicaOf c (root g p))
    → IsMissingExtra c g slots found → FindsFirst c g found
rest_found c g slots Unfinished first none some = tt
rest_found c g slots AllKnown first none some = all_replicated c g (λ p l. none refl p)
rest_found c g slots (Missing r) first none some = first_missing c g (length g.roots) r.place r.target.0 (record {
  low = omega arith;
  high = some.high;
  before = λ p low less. ⊎_elim (λ a. first p a) (λ b. some.before p b less) (cases_lt p slots);
  target = some.target;
  missing = some.missing;
})

-- ---- commands that fill fields

fill_knows : (known : KnownRoots) (s : State) (m : ℕ) (d : SlotName) (i : ℕ) (fields : List SlotName) → KnowsRoots known s → KnowsRoots known (fill_step s m d i fields)
fill_knows known s m d i [] k = k
fill_knows known s m d i (t ∷ rest) k = fill_knows known (mutate s m (ops.Put d i t)).1 m d (suc i) rest (quiet_command known s m (ops.Put d i t) refl k)

filled_knows : (known : KnownRoots) (reply : Reply) (made : State) (m : ℕ) (d : SlotName) (fields : List SlotName) → KnowsRoots known made → KnowsRoots known (filled reply made m d fields)
filled_knows known replies.Full made m d fields k = k
filled_knows known replies.Made made m d fields k = fill_knows known made m d 0 fields k
filled_knows known replies.Done made m d fields k = fill_knows known made m d 0 fields k
filled_knows known replies.NoObject made m d fields k = fill_knows known made m d 0 fields k
filled_knows known replies.NoField made m d fields k = fill_knows known made m d 0 fields k
filled_knows known replies.NoNumber made m d fields k = fill_knows known made m d 0 fields k
filled_knows known (replies.Saw view) made m d fields k = fill_knows known made m d 0 fields k
filled_knows known replies.Yes made m d fields k = fill_knows known made m d 0 fields k
filled_knows known replies.No made m d fields k = fill_knows known made m d 0 fields k

pub from_knows : (known : KnownRoots) (s new : State) (m kind : ℕ) (d : SlotName) (fields : List SlotName) (reply : Reply) → new_from_step s m d kind fields ≡ (reply, new) → KnowsRoots known (mutate s m (ops.New d kind (length fields))).1
    → KnowsRoots known new
from_knows known s new m kind d fields reply steps k =
    let op = ops.New d kind (length fields) in
    subst (KnowsRoots known) (ap (λ (x : Reply × State). x.1) steps) (filled_knows known (mutate s m op).0 (mutate s m op).1 m d fields k)

pub put_knows : (known : KnownRoots) (s new : State) (m i : ℕ) (d t : SlotName) (reply : Reply) → mutate s m (ops.Put d i t) ≡ (reply, new) → KnowsRoots known s → KnowsRoots known new
put_knows known s new m i d t reply steps k = subst (KnowsRoots known) (ap (λ (x : Reply × State). x.1) steps) (quiet_command known s m (ops.Put d i t) refl k)

-- ---- nil roots

-- the command that makes extra root i nil
abbrev pub Clears : State → ℕ → State
Clears s i = (mutate s 0 (ops.Nil (extra_root s.mutators i))).1

-- one more root
pub clear_next : (s : State) (i j n count : ℕ) → count ≡ suc n → j ≡ suc i → clear_step s i count ≡ clear_step (Clears s i) j n
clear_next s i j n count e f = ap (clear_step s i) e ∙ ap (λ q. clear_step (Clears s i) q n) (sym f)

-- ---- opening, beginning and flipping

nil_words : (n p : ℕ) → unwrap_or (slice_get (map value_of (replicate n 0)) p) Nil ≡ Nil
nil_words zero p = refl
nil_words (suc n) zero = refl
nil_words (suc n) (suc p) = nil_words n p

no_word : (a : ℕ) → slice_index (0 ∷ []) (a + 1) ≤ 0
no_word a = grind (arith, common_steps)

-- a heap that was just opened has no links
pub no_links : (options : HeapOptions) (heap : HeapWords) → heap ≡ empty_heap options → LinksNothing 0 heap
no_links options heap empty = subst (LinksNothing 0) (sym empty) (λ a start. no_word a)

zeros_long : (n word : ℕ) → length (replicate n word) ≡ n
zeros_long n word = length-replicate n word

-- all roots of a heap that was just opened are nil
pub opening_knows : (options : HeapOptions) (heap : HeapWords) (known : KnownRoots) (count : ℕ) → heap ≡ empty_heap options → count ≡ length heap.roots → known.slots ≡ 0 → known.twins.twins ≡ replicate count 0 → known.twins.front ≡ 0 → known.twins.used ≡ 0
    → known.twins.stale ≡ 0 → KnowsRoots known (state_of heap None)
opening_knows options heap known count empty all_of slots twins front used stale = record {
  slots_high = omega (arith, slots);
  slots = λ p less. absurd (omega (arith, less, slots));
  keeps = opening_keeps known.twins (state_of heap None) count twins front used stale (length-map heap.roots value_of ∙ sym all_of)
      (omega (arith, all_of, ap (λ (h : HeapWords). length h.roots) empty, ap (λ (h : HeapWords). roots_of h.mutators) empty, zeros_long (roots_of options.mutators + options.extra_roots) 0))
      (λ p. subst (λ (h : HeapWords). unwrap_or (slice_get (map value_of h.roots) p) Nil ≡ Nil) (sym empty) (nil_words (roots_of options.mutators + options.extra_roots) p));
}

-- after a flip no collection is open, and nothing is linked
pub flip_fits : (epoch : ℕ) (known : KnownRoots) (new : HeapWords) (after : Option CollectionWords) → known.slots ≤ roots_of new.mutators → KeepsTwins known.twins (idle_state new) → LinksNothing epoch new → after ≡ None
    → Fits epoch new after × KnowsRoots known (state_of new (option_map collection_in after))
flip_fits epoch known new after slots keeps links none =
    subst (λ o. Fits epoch new o × KnowsRoots known (state_of new (option_map collection_in o))) (sym none) (links, record { slots_high = slots; slots = λ p less. tt; keeps = keeps })
