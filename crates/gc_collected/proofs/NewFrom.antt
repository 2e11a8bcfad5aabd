-- The commands that make an object and fill its fields, in order.
use Rattle.std.proofs.lemmas.Grind.{common_steps}
use Rattle.std.proofs.Common.{◌≡◌, ℕ, zero, suc, ◌+◌, ◌<◌, get_or, List, [], ◌∷◌, length, refl, sym, ◌∙◌, ap, arith}
use Rattle.gc_graph.specs.Slots.{SlotName, place}
use Rattle.gc_graph.specs.declared.command.Op.TheVariants.{New, Put}
use Rattle.gc_graph.specs.declared.reply.Reply.{Reply}
use Rattle.gc_graph.specs.declared.reply.Reply.TheVariants as replies
use Rattle.gc_heap.specs.Places.{root_at}
use Rattle.gc_model.specs.State.{State}
use Rattle.gc_model.specs.Steps.{mutate}
use Rattle.gc_collected.specs.CollectedHeap.{fill_step, filled, new_from_step, roots_from}

pub made_from : (old made new : State) (m kind : ℕ) (d : SlotName) (fields : List SlotName) (reply : Reply) → mutate old m (New d kind (length fields)) ≡ (reply, made) → (reply ≡ replies.Full → ⊥)
    → fill_step made m d 0 fields ≡ new → new_from_step old m d kind fields ≡ (reply, new)
made_from old made new m kind d fields reply first other fill = grind (arith, common_steps)

pub full_from : (old made : State) (m kind : ℕ) (d : SlotName) (fields : List SlotName) (reply : Reply) → mutate old m (New d kind (length fields)) ≡ (reply, made) → reply ≡ replies.Full
    → new_from_step old m d kind fields ≡ (reply, made)
full_from old made m kind d fields reply first full = grind (arith, common_steps)

-- as many fields are asked for as there are slots
pub counted : (old made : State) (m kind count : ℕ) (d : SlotName) (fields : List SlotName) (reply : Reply) → count ≡ length fields → mutate old m (New d kind count) ≡ (reply, made)
    → mutate old m (New d kind (length fields)) ≡ (reply, made)
counted old made m kind count d fields reply same first = ap (λ n. mutate old m (New d kind n)) (sym same) ∙ first

-- a name within the list is the same whatever stands for one beyond it
pub same_default : (names : List SlotName) (i : ℕ) (d e : SlotName) → i < length names → get_or names i d ≡ get_or names i e
same_default [] i d e less = absurd (omega (arith, less))
same_default (n ∷ rest) zero d e less = refl
same_default (n ∷ rest) (suc i) d e less = same_default rest i d e (omega (arith, less))

pub range_counted : (p n : ℕ) → length (roots_from p n) ≡ n
range_counted p zero = refl
range_counted p (suc n) = ap suc (range_counted (suc p) n)

pub range_at : (p n i m : ℕ) (d : SlotName) → i < n → place (get_or (roots_from p n) i d) m ≡ p + i
range_at p zero i m d less = absurd (omega (arith, less))
range_at p (suc n) zero m d less = omega arith
range_at p (suc n) (suc i) m d less = let more = range_at (suc p) n i m d (omega (arith, less)) in omega (arith, more)

-- ---- a slot and the root at its place are the same to a command

same_filled : (reply : Reply) (made : State) (m : ℕ) (d e : SlotName) (fields others : List SlotName) → fill_step made m d 0 fields ≡ fill_step made m e 0 others → filled reply made m d fields ≡ filled reply made m e others
same_filled replies.Full made m d e fields others same = refl
same_filled replies.Made made m d e fields others same = same
same_filled replies.Done made m d e fields others same = same
same_filled replies.NoObject made m d e fields others same = same
same_filled replies.NoField made m d e fields others same = same
same_filled replies.NoNumber made m d e fields others same = same
same_filled (replies.Saw view) made m d e fields others same = same
same_filled replies.Yes made m d e fields others same = same
same_filled replies.No made m d e fields others same = same

fill_named : (s : State) (m i : ℕ) (d : SlotName) (fields : List SlotName) → fill_step s m (root_at (place d m)) i fields ≡ fill_step s m d i fields
fill_named s m i d [] = refl
fill_named s m i d (t ∷ rest) = fill_named (mutate s m (Put d i t)).1 m (suc i) d rest

pub from_named : (s : State) (m kind : ℕ) (d : SlotName) (fields : List SlotName) → new_from_step s m (root_at (place d m)) kind fields ≡ new_from_step s m d kind fields
from_named s m kind d fields =
    let made = mutate s m (New d kind (length fields)) in
    ap (λ (x : State). (made.0, x)) (same_filled made.0 made.1 m (root_at (place d m)) d fields fields (fill_named made.1 m 0 d fields))

pub pair_named : (s : State) (m kind : ℕ) (d t u : SlotName) → new_from_step s m (root_at (place d m)) kind (root_at (place t m) ∷ root_at (place u m) ∷ []) ≡ new_from_step s m d kind (t ∷ u ∷ [])
pair_named s m kind d t u =
    let made = mutate s m (New d kind 2) in
    ap (λ (x : State). (made.0, x)) (same_filled made.0 made.1 m (root_at (place d m)) d (root_at (place t m) ∷ root_at (place u m) ∷ []) (t ∷ u ∷ []) refl)
