-- Fields that take numbers and the values of slots take the same by places, where no number goes through a slot; the slot of the numbers keeps the last one.
use Rattle.std.proofs.Common.{◌≡◌, ◌≢◌, ℕ, zero, suc, ◌<◌, ◌≤◌, List, [], ◌∷◌, length, get_or, take, Bool, true, false, Option, Some, None, refl, sym, ap, ◌∙◌, subst, inl, inr, eq-eqb, eqb-true, arith}
use Rattle.std.specs.Prelude.{◌==◌, if◌then◌else◌}
use Rattle.std.proofs.lemmas.Bool.{cases_Bool}
use Rattle.gc_graph.specs.Graph.{Num}
use Rattle.gc_graph.specs.Slots.{SlotName, place}
use Rattle.gc_graph.specs.declared.command.Op.TheVariants as ops
use Rattle.gc_graph.specs.declared.reply.Reply.{Reply}
use Rattle.gc_graph.specs.declared.reply.Reply.TheVariants as replies
use Rattle.gc_heap.specs.Places.{root_at}
use Rattle.gc_model.specs.State.{State}
use Rattle.gc_model.specs.Steps.{mutate}
use Rattle.gc_model.proofs.Public.{roots_counted}
use Rattle.gc_collected.specs.Giving.{IsGiven, give_step, given, gives_step, new_given_step}
use Rattle.gc_collected.specs.Mixed.{mixed, new_with_step, source_step, sources_step}
use Rattle.gc_collected.specs.declared.giving.FieldValue.{FieldValue}
use Rattle.gc_collected.specs.declared.giving.FieldValue.TheVariants as values
use Rattle.gc_collected.specs.declared.mixed.FieldSource.{FieldSource}
use Rattle.gc_collected.specs.declared.mixed.FieldSource.TheVariants as sources
use Rattle.gc_collected.specs.Internal.Sources.{last_number_of, last_after, slot_by_place, source_by_place, sources_by_place}
use Rattle.gc_collected.proofs.ThroughSlot.{held_again, holding, number_held, put_beside, put_held}

-- ---- the fields in a row

pub sources_counted : (fields : List FieldSource) (m q : ℕ) (before : Option ℕ) → length (sources_by_place m q before fields) ≡ length fields
sources_counted [] m q before = refl
sources_counted (source ∷ rest) m q before = ap suc (sources_counted rest m q (last_after before source))

pub source_at : (fields : List FieldSource) (m q i : ℕ) (before : Option ℕ) (source : FieldSource) (value : FieldValue) → i < length fields → source ≡ get_or fields i source → get_or (sources_by_place m q before fields) i value ≡ source_by_place m q (last_number_of before (take i fields)) source
source_at [] m q i before source value less is = absurd (omega (arith, less))
source_at (first ∷ rest) m q zero before source value less is = ap (source_by_place m q before) (sym is)
source_at (first ∷ rest) m q (suc i) before source value less is = source_at rest m q i (last_after before first) source value (omega (arith, less)) is

-- one field more
last_then : (fields : List FieldSource) (i : ℕ) (before : Option ℕ) (source : FieldSource) → i < length fields → source ≡ get_or fields i source → last_number_of before (take (suc i) fields) ≡ last_after (last_number_of before (take i fields)) source
last_then [] i before source less is = absurd (omega (arith, less))
last_then (first ∷ rest) zero before source less is = ap (last_after before) (sym is)
last_then (first ∷ rest) (suc i) before source less is = last_then rest i (last_after before first) source (omega (arith, less)) is

pub last_is : (fields : List FieldSource) (i k n : ℕ) (source : FieldSource) → i < length fields → k ≡ suc i → source ≡ get_or fields i source → source ≡ sources.Number n → last_number_of None (take k fields) ≡ Some n
last_is fields i k n source less next is number =
    ap (λ x. last_number_of None (take x fields)) next ∙ (last_then fields i None source less is ∙ ap (last_after (last_number_of None (take i fields))) number)

pub last_before : (fields : List FieldSource) (i k : ℕ) (source : FieldSource) → i < length fields → k ≡ suc i → source ≡ get_or fields i source → ((n : ℕ) → source ≡ sources.Number n → ⊥) → last_number_of None (take k fields) ≡ last_number_of None (take i fields)
last_before fields i k source less next is other =
    ap (λ x. last_number_of None (take x fields)) next ∙ (last_then fields i None source less is ∙ same source other)
  where
    same : (source : FieldSource) → ((n : ℕ) → source ≡ sources.Number n → ⊥) → last_after (last_number_of None (take i fields)) source ≡ last_number_of None (take i fields)
    same sources.Nil none = refl
    same (sources.Number n) none = absurd (none n refl)
    same (sources.Slot v) none = refl

pub none_first : (fields : List FieldSource) (i : ℕ) → i ≤ 0 → None ≡ last_number_of None (take i fields)
none_first fields i low = first fields ∙ ap (λ k. last_number_of None (take k fields)) (let none : 0 ≡ i = omega arith in none)
  where
    first : (fields : List FieldSource) → None ≡ last_number_of None (take 0 fields)
    first [] = refl
    first (source ∷ rest) = refl

-- a slot that holds the last number
pub slot_numbered : (q p n : ℕ) (before : Option ℕ) → p ≡ q → before ≡ Some n → values.Number n ≡ slot_by_place q before p
slot_numbered q p n before same is = sym (ap (λ o. slot_by_place q o p) is ∙ ap (λ (b : Bool). if b then values.Number n else values.Root p) (eq-eqb p q same))

-- a slot's value is a number, or that of a root
pub slot_given : (roots q p : ℕ) (before : Option ℕ) → p < roots → IsGiven roots (slot_by_place q before p)
slot_given roots q p None within = within
slot_given roots q p (Some n) within = elim (cases_Bool (p == q)) [
  | inl one ↦ subst (λ (b : Bool). IsGiven roots (if b then values.Number n else values.Root p)) (sym one) tt
  | inr other ↦ subst (λ (b : Bool). IsGiven roots (if b then values.Number n else values.Root p)) (sym other) within
]

-- ---- the state

-- the root at place q holds the last number, if there was one
abbrev pub keeping : State → ℕ → Option ℕ → State
keeping s q None = s
keeping s q (Some n) = holding s q (Num n)

keeping_again : (s : State) (q n : ℕ) (before : Option ℕ) → holding (keeping s q before) q (Num n) ≡ holding s q (Num n)
keeping_again s q n None = refl
keeping_again s q n (Some k) = held_again s q (Num k) (Num n)

roots_given : (s : State) (m p i : ℕ) (value : FieldValue) → length (give_step s m p i value).heap.graph.roots ≡ length s.heap.graph.roots
roots_given s m p i values.Nil = refl
roots_given s m p i (values.Number n) = refl
roots_given s m p i (values.Root q) = roots_counted s m (ops.Put (root_at p) i (root_at q))

module _ (m : ℕ) (d t : SlotName) (apart : place t m ≢ place d m) where
  abbrev target : ℕ
  target = place d m

  abbrev slot : ℕ
  slot = place t m

  number_given : (s : State) (i n : ℕ) (before : Option ℕ) → target < length s.heap.graph.roots → slot < length s.heap.graph.roots
      → source_step (keeping s slot before) m d t i (sources.Number n) ≡ keeping (give_step s m target i (values.Number n)) slot (Some n)
  number_given s i n before within there =
      ap (λ (x : Reply × State). (mutate x.1 m (ops.Put d i t)).1) (number_held (keeping s slot before) m n t)
      ∙ (ap (λ x. (mutate x m (ops.Put d i t)).1) (keeping_again s slot n before)
      ∙ ap (λ (x : Reply × State). x.1) (put_held s m i d t (Num n) apart within there))

  value_given : (s : State) (i : ℕ) (v : SlotName) (before : Option ℕ) → target < length s.heap.graph.roots → slot < length s.heap.graph.roots
      → source_step (keeping s slot before) m d t i (sources.Slot v) ≡ keeping (give_step s m target i (slot_by_place slot before (place v m))) slot before
  value_given s i v None within there = refl
  value_given s i v (Some n) within there = elim (cases_Bool (place v m == slot)) [
    | inl one ↦ (let same = eqb-true (place v m) slot one in
        (λ k. (mutate (holding s slot (Num n)) m (ops.Put (root_at target) i (root_at (same k)))).1)
        ∙ (ap (λ (x : Reply × State). x.1) (put_held s m i d t (Num n) apart within there)
        ∙ sym (ap (λ (b : Bool). holding (give_step s m target i (if b then values.Number n else values.Root (place v m))) slot (Num n)) one)))
    | inr other ↦ (let differ : place v m ≢ slot = λ e. absurd (let both : false ≡ true = sym other ∙ eq-eqb (place v m) slot e in cc) in
        ap (λ (x : Reply × State). x.1) (put_beside s m i slot d v (Num n) (λ e. apart (sym e)) differ)
        ∙ sym (ap (λ (b : Bool). holding (give_step s m target i (if b then values.Number n else values.Root (place v m))) slot (Num n)) other))
  ]

  one_given : (s : State) (i : ℕ) (source : FieldSource) (before : Option ℕ) → target < length s.heap.graph.roots → slot < length s.heap.graph.roots
      → source_step (keeping s slot before) m d t i source ≡ keeping (give_step s m target i (source_by_place m slot before source)) slot (last_after before source)
  one_given s i sources.Nil before within there = refl
  one_given s i (sources.Number n) before within there = number_given s i n before within there
  one_given s i (sources.Slot v) before within there = value_given s i v before within there

  all_given : (fields : List FieldSource) (s : State) (i : ℕ) (before : Option ℕ) → target < length s.heap.graph.roots → slot < length s.heap.graph.roots
      → sources_step (keeping s slot before) m d t i fields ≡ keeping (gives_step s m target i (sources_by_place m slot before fields)) slot (last_number_of before fields)
  all_given [] s i before within there = refl
  all_given (source ∷ rest) s i before within there =
      let value = source_by_place m slot before source in
      let same = roots_given s m target i value in
      ap (λ x. sources_step x m d t (suc i) rest) (one_given s i source before within there)
      ∙ all_given rest (give_step s m target i value) (suc i) (last_after before source) (omega (arith, same, within)) (omega (arith, same, there))

  -- ---- with the new object

  filled : (reply : Reply) (made : State) (fields : List FieldSource) → (reply ≡ replies.Full → ⊥) → target < length made.heap.graph.roots → slot < length made.heap.graph.roots
      → mixed reply made m d t fields ≡ keeping (given reply made m target (sources_by_place m slot None fields)) slot (last_number_of None fields)
  filled replies.Full made fields other within there = absurd (other refl)
  filled replies.Made made fields other within there = all_given fields made 0 None within there
  filled replies.Done made fields other within there = all_given fields made 0 None within there
  filled replies.NoObject made fields other within there = all_given fields made 0 None within there
  filled replies.NoField made fields other within there = all_given fields made 0 None within there
  filled replies.NoNumber made fields other within there = all_given fields made 0 None within there
  filled (replies.Saw view) made fields other within there = all_given fields made 0 None within there
  filled replies.Yes made fields other within there = all_given fields made 0 None within there
  filled replies.No made fields other within there = all_given fields made 0 None within there

  -- the object, made by the slot's name
  made_by_name : (old mid : State) (kind : ℕ) (fields : List FieldSource) (reply : Reply) → new_given_step old m target kind (sources_by_place m slot None fields) ≡ (reply, mid)
      → (let made = mutate old m (ops.New d kind (length fields)) in ◌≡◌ {A = Reply × State} (made.0, given made.0 made.1 m target (sources_by_place m slot None fields)) (reply, mid))
  made_by_name old mid kind fields reply steps =
      ap (λ n. let x = mutate old m (ops.New (root_at target) kind n) in let r : Reply × State = (x.0, given x.0 x.1 m target (sources_by_place m slot None fields)) in r) (sym (sources_counted fields m slot None)) ∙ steps

  pub made_mixed : (old mid new : State) (kind : ℕ) (fields : List FieldSource) (reply : Reply) → target < length old.heap.graph.roots → slot < length old.heap.graph.roots → new_given_step old m target kind (sources_by_place m slot None fields) ≡ (reply, mid)
      → (reply ≡ replies.Full → ⊥) → keeping mid slot (last_number_of None fields) ≡ new → new_with_step old m d kind t fields ≡ (reply, new)
  made_mixed old mid new kind fields reply within there steps other keeps =
      let op = ops.New d kind (length fields) in
      let made = mutate old m op in
      let both = made_by_name old mid kind fields reply steps in
      let said : made.0 ≡ reply = ap (λ (x : Reply × State). x.0) both in
      let same = roots_counted old m op in
      let last : mixed made.0 made.1 m d t fields ≡ new
      = filled made.0 made.1 fields (λ e. other (sym said ∙ e)) (omega (arith, same, within)) (omega (arith, same, there))
      ∙ (ap (λ (x : Reply × State). keeping x.1 slot (last_number_of None fields)) both ∙ keeps) in
      λ k. (said k, last k)

  pub none_mixed : (old new : State) (kind : ℕ) (fields : List FieldSource) (reply : Reply) → new_given_step old m target kind (sources_by_place m slot None fields) ≡ (reply, new) → reply ≡ replies.Full → new_with_step old m d kind t fields ≡ (reply, new)
  none_mixed old new kind fields reply steps full =
      let made = mutate old m (ops.New d kind (length fields)) in
      let both = made_by_name old new kind fields reply steps in
      let said : made.0 ≡ reply = ap (λ (x : Reply × State). x.0) both in
      let is : made.0 ≡ replies.Full = said ∙ full in
      let last : mixed made.0 made.1 m d t fields ≡ new
      = ap (λ r. mixed r made.1 m d t fields) is ∙ (sym (ap (λ r. given r made.1 m target (sources_by_place m slot None fields)) is) ∙ ap (λ (x : Reply × State). x.1) both) in
      λ k. (said k, last k)

-- the slot keeps the last number
pub keeps_number : (mid new : State) (m n : ℕ) (t : SlotName) (reply : Reply) (last : Option ℕ) → last ≡ Some n → mutate mid m (ops.Num t n) ≡ (reply, new) → keeping mid (place t m) last ≡ new
keeps_number mid new m n t reply last is set = ap (keeping mid (place t m)) is ∙ (sym (ap (λ (x : Reply × State). x.1) (number_held mid m n t)) ∙ ap (λ (x : Reply × State). x.1) set)
