-- A root that a command writes only if it is not refused: what is known of the roots, and how many looks are left.
use Rattle.std.proofs.lemmas.Grind.{common_steps}
use Rattle.std.proofs.lemmas.Bool.{cases_Bool}
use Rattle.std.proofs.Common.{◌≡◌, ◌⊎◌, inl, inr, ℕ, suc, ◌+◌, ◌-◌, ◌<◌, Bool, true, false, true≢false, List, [], ◌∷◌, length, Option, Some, None, is_some, refl, ap, sym, ◌∙◌, subst, arith}
use Rattle.std.specs.Prelude.{max}
use Rattle.std.specs.Option.{option_map}
use Rattle.gc_graph.specs.Graph.{Graph, Object, Value}
use Rattle.gc_graph.specs.Machine.{get_field, view_of}
use Rattle.gc_graph.specs.Slots.{SlotName, roots_of}
use Rattle.gc_graph.specs.declared.command.Op.{Op}
use Rattle.gc_graph.specs.declared.command.Op.TheVariants.{Get, New, NewRaw, Put}
use Rattle.gc_graph.specs.declared.reply.Reply.{Reply}
use Rattle.gc_graph.specs.declared.reply.Reply.TheVariants.{Full, Saw}
use Rattle.gc_graph.specs.declared.reply.Reply.TheVariants as replies
use Rattle.gc_graph.specs.declared.reply.View.{View}
use Rattle.gc_graph.specs.declared.reply.View.TheVariants as views
use Rattle.gc_heap.specs.Commands.{fetched_of}
use Rattle.gc_model.specs.State.{Collection, State}
use Rattle.gc_model.specs.Staying.{root_written}
use Rattle.gc_model.specs.Steps.{logged, mutate}
use Rattle.gc_copy.specs.Words.{CollectionWords, collection_in}
use Rattle.gc_roots.specs.Twins.{AsksForLook, RootRow}
use Rattle.gc_collected.specs.CollectedHeap.{HasMissed, fill_step, filled, new_from_step}
use Rattle.gc_collected.specs.Internal.KnownRoots.{HasStored, roots_left_in, without_slots}
use Rattle.gc_collected.specs.declared.known.KnownRoots.{KnownRoots}
use Rattle.gc_collected.proofs.ByPlace.{Known, root_known}
use Rattle.gc_collected.proofs.Marks.{stored_asks, stored_stays}
use Rattle.gc_collected.proofs.Together.{logged_none}

-- The root at place p was written, or nothing was; then the slots may be known no longer.
pub record StoredIf (is_written : Bool) (was now : KnownRoots) (slots p : ℕ) : Type 0 where
  pub written : is_written ≡ true → HasStored was now 0 (max was.twins.used (p - slots + 1)) slots p
  pub none : is_written ≡ false → (now ≡ was) ⊎ (now ≡ without_slots was)

-- a slot that a command may write is not known from then on
pub slot_taken : (was : KnownRoots) (slots d : ℕ) → d < slots → StoredIf true was (without_slots was) slots d
slot_taken was slots d low = record {
  written = λ _. record { slot = λ _. refl; extra = λ high. absurd (omega arith); used = λ high. absurd (omega arith) };
  none = λ e. absurd (true≢false e);
}

-- what is known stays known without the slots
known_less : (was : KnownRoots) (s : State) → Known was s → Known (without_slots was) s
known_less was s k = (record { slots_high = omega arith; slots = λ p low. absurd (omega arith); keeps = (k.0).keeps }, k.1)

known_still : (was now : KnownRoots) (s : State) → (now ≡ was) ⊎ (now ≡ without_slots was) → Known was s → Known now s
known_still was now s (inl same) k = subst (λ (n : KnownRoots). Known n s) (sym same) k
known_still was now s (inr less) k = subst (λ (n : KnownRoots). Known n s) (sym less) (known_less was s k)

twins_still : (was now : KnownRoots) → (now ≡ was) ⊎ (now ≡ without_slots was) → now.twins ≡ was.twins
twins_still was now (inl same) = ap (λ (x : KnownRoots). x.twins) same
twins_still was now (inr less) = ap (λ (x : KnownRoots). x.twins) less

pub known_if : (written : Bool) (was now : KnownRoots) (s : State) (m p : ℕ) (op : Op) → root_written m op ≡ Some p → p < length s.heap.graph.roots → StoredIf written was now (roots_of s.mutators) p → (written ≡ false → (mutate s m op).1 ≡ s) → Known was s → Known now (mutate s m op).1
known_if written was now s m p op at within stored same k = elim (cases_Bool written) [
  | inl done ↦ root_known was now s m p op at within (stored.written done) k
  | inr skipped ↦ subst (λ (t : State). Known now t) (sym (same skipped)) (known_still was now s (stored.none skipped) k)
]

pub asks_if : (written : Bool) (o : Option CollectionWords) (was now : KnownRoots) (slots p : ℕ) → StoredIf written was now slots p → AsksForLook p (roots_left_in o was.twins) (roots_left_in o now.twins)
asks_if written o was now slots p stored = elim (cases_Bool written) [
  | inl done ↦ stored_asks o was now 0 slots p (stored.written done)
  | inr skipped ↦ (let same = ap (λ (x : RootRow). roots_left_in o x) (twins_still was now (stored.none skipped)) in (omega (arith, same), omega (arith, same)))
]

pub same_if : (written : Bool) (o : Option CollectionWords) (was now : KnownRoots) (slots p : ℕ) → StoredIf written was now slots p → written ≡ false → roots_left_in o now.twins ≡ roots_left_in o was.twins
same_if written o was now slots p stored skipped = ap (λ (x : RootRow). roots_left_in o x) (twins_still was now (stored.none skipped))

-- a slot asks for no look
pub stays_if : (written : Bool) (o : Option CollectionWords) (was now : KnownRoots) (slots p : ℕ) → StoredIf written was now slots p → p < slots → roots_left_in o now.twins ≡ roots_left_in o was.twins
stays_if written o was now slots p stored low = elim (cases_Bool written) [
  | inl done ↦ stored_stays o was now 0 _ slots p (stored.written done) low
  | inr skipped ↦ same_if written o was now slots p stored skipped
]

-- ---- whether a collection is open

pub left_open : (o p : Option CollectionWords) (row : RootRow) → is_some (option_map collection_in p) ≡ is_some (option_map collection_in o) → roots_left_in p row ≡ roots_left_in o row
left_open None None row same = refl
left_open (Some c) (Some d) row same = refl
left_open None (Some d) row same = absurd (let no : true ≡ false = same in cc)
left_open (Some c) None row same = absurd (let no : false ≡ true = same in cc)

pub logged_open : (o : Option Collection) (m : ℕ) (fields : List (ℕ × ℕ)) → is_some (logged o m fields) ≡ is_some o
logged_open None m fields = refl
logged_open (Some c) m fields = refl

-- what is not true is false
pub not_made : (b : Bool) → (b ≡ true → ⊥) → b ≡ false
not_made true never = absurd (never refl)
not_made false never = refl

fill_open : (fields : List SlotName) (s : State) (m i : ℕ) (d : SlotName) → is_some (fill_step s m d i fields).collection ≡ is_some s.collection
fill_open [] s m i d = refl
fill_open (t ∷ rest) s m i d = fill_open rest (mutate s m (Put d i t)).1 m (suc i) d ∙ logged_open s.collection m _

filled_open : (reply : Reply) (made : State) (m : ℕ) (d : SlotName) (fields : List SlotName) → is_some (filled reply made m d fields).collection ≡ is_some made.collection
filled_open replies.Full made m d fields = refl
filled_open replies.Made made m d fields = fill_open fields made m 0 d
filled_open replies.Done made m d fields = fill_open fields made m 0 d
filled_open replies.NoObject made m d fields = fill_open fields made m 0 d
filled_open replies.NoField made m d fields = fill_open fields made m 0 d
filled_open replies.NoNumber made m d fields = fill_open fields made m 0 d
filled_open (replies.Saw view) made m d fields = fill_open fields made m 0 d
filled_open replies.Yes made m d fields = fill_open fields made m 0 d
filled_open replies.No made m d fields = fill_open fields made m 0 d

pub from_open : (s new : State) (m kind : ℕ) (d : SlotName) (fields : List SlotName) (reply : Reply) → new_from_step s m d kind fields ≡ (reply, new) → is_some new.collection ≡ is_some s.collection
from_open s new m kind d fields reply steps =
    let made = mutate s m (New d kind (length fields)) in
    sym (ap (λ (x : Reply × State). is_some x.1.collection) steps) ∙ filled_open made.0 made.1 m d fields ∙ logged_open s.collection m _

-- ---- commands that are refused change nothing

pub full_raw : (s s' : State) (m kind len : ℕ) (d : SlotName) (reply : Reply) → mutate s m (NewRaw d kind len) ≡ (reply, s') → reply ≡ Full → s' ≡ s
full_raw s s' m kind len d reply said full = grind (arith, common_steps, logged_none)

get_kept : (g : Graph) (d : ℕ) (object : Option Object) (found : Option Value) → HasMissed (fetched_of (get_field g d object found).0) → (get_field g d object found).1 ≡ g
get_kept g d None found missed = refl
get_kept g d (Some o) None missed = refl
get_kept g d (Some o) (Some v) missed = absurd (seen (view_of g.objects v) missed)
  where
    seen : (view : View) → HasMissed (fetched_of (Saw view)) → ⊥
    seen views.Nil m = m
    seen (views.Num n) m = m
    seen (views.Obj kind len) m = m
    seen (views.RawObj kind len) m = m

pub missed_same : (s : State) (m i : ℕ) (d q : SlotName) → HasMissed (fetched_of (mutate s m (Get d q i)).0) → (mutate s m (Get d q i)).1 ≡ s
missed_same s m i d q missed = grind (arith, common_steps, get_kept, logged_none)
