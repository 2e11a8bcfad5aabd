-- Values that go through a slot: a `Put` of the slot puts its value, which needs no root, and the slot keeps the last one.
use Rattle.std.proofs.Common.{◌≡◌, ◌≢◌, ℕ, zero, suc, ◌+◌, ◌-◌, ◌<◌, List, [], ◌∷◌, get_or, length, map, Option, Some, refl, sym, ap, ◌∙◌, subst, arith}
use Rattle.std.specs.Prelude.{slice_get, slice_set}
use Rattle.std.specs.Option.{unwrap_or}
use Rattle.gc_graph.specs.Graph.{Value, Nil, Num, Object, Graph, field_of, object_of, root}
use Rattle.gc_graph.specs.Graph as graphs
use Rattle.gc_graph.specs.Machine.{Roomy, get_field}
use Rattle.gc_graph.specs.Slots.{SlotName, place}
use Rattle.gc_graph.specs.declared.command.Op.{Op}
use Rattle.gc_graph.specs.declared.command.Op.TheVariants.{Get, Num as SetNumber, Put}
use Rattle.gc_graph.specs.declared.reply.Reply.{Reply}
use Rattle.gc_graph.specs.declared.reply.Reply.TheVariants as replies
use Rattle.gc_graph.proofs.Public.{in_place}
use Rattle.gc_heap.specs.Raws.{numbers_reply, raw_numbers}
use Rattle.gc_model.specs.State.{Collection, State, heap_end}
use Rattle.gc_model.specs.Steps.{logged, mutate, written}
use Rattle.gc_model.proofs.Public.{get_set_other, get_set_same}
use Rattle.gc_collected.specs.Copying.{copy_reply, copy_step, copy_fields_step, copy_values_step, object_in, value_in, values_step}
use Rattle.gc_collected.specs.Values.{put_value_step, with_roots}
use Rattle.gc_collected.specs.Giving.{gives_step}
use Rattle.gc_collected.specs.Writing.{after_reply, numbers_step, put_numbers_step, put_root_numbers_step}
use Rattle.gc_collected.specs.declared.giving.FieldValue.TheVariants.{Number}
use Rattle.gc_collected.proofs.CopiesDone.{goes_on, later, taker_named, value_again, value_put, value_there}
use Rattle.gc_collected.proofs.Given.{value_is}
use Rattle.gc_collected.proofs.Together.{logged_none}
use Rattle.gc_collected.proofs.ValuesPut.{put_at}

-- the same state, in which the root at this place holds this value
abbrev pub holding : State → ℕ → Value → State
holding s p v = with_roots s (slice_set s.heap.graph.roots p v)

-- the same after a command
abbrev pub then_holding : ℕ → Value → Reply × State → Reply × State
then_holding p v x = (x.0, holding x.1 p v)

-- ---- roots of a list

set_twice : (vs : List Value) (p : ℕ) (v w : Value) → slice_set (slice_set vs p v) p w ≡ slice_set vs p w
set_twice [] p v w = refl
set_twice (x ∷ vs) zero v w = refl
set_twice (x ∷ vs) (suc p) v w = ap (λ ws. x ∷ ws) (set_twice vs p v w)

set_own : (vs : List Value) (p : ℕ) → slice_set vs p (unwrap_or (slice_get vs p) Nil) ≡ vs
set_own [] p = refl
set_own (x ∷ vs) zero = refl
set_own (x ∷ vs) (suc p) = ap (λ ws. x ∷ ws) (set_own vs p)

root_left : (vs : List Value) (p q : ℕ) (v : Value) → q ≢ p → unwrap_or (slice_get (slice_set vs p v) q) Nil ≡ unwrap_or (slice_get vs q) Nil
root_left vs p q v other = ap (λ o. unwrap_or o Nil) (get_set_other vs p q v other)

root_held : (vs : List Value) (p : ℕ) (v : Value) → p < length vs → unwrap_or (slice_get (slice_set vs p v) p) Nil ≡ v
root_held vs p v within = ap (λ o. unwrap_or o Nil) (get_set_same vs p v within)

pub held_again : (s : State) (p : ℕ) (v w : Value) → holding (holding s p v) p w ≡ holding s p w
held_again s p v w = ap (with_roots s) (set_twice s.heap.graph.roots p v w)

held_before : (s : State) (p : ℕ) → holding s p (root s.heap.graph p) ≡ s
held_before s p = ap (with_roots s) (set_own s.heap.graph.roots p)

-- ---- commands

-- a `Put` of the slot
pub put_held : (s : State) (m i : ℕ) (d t : SlotName) (v : Value) → place t m ≢ place d m → place d m < length s.heap.graph.roots → place t m < length s.heap.graph.roots
    → mutate (holding s (place t m) v) m (Put d i t) ≡ then_holding (place t m) v (put_value_step s m (place d m) i v)
put_held s m i d t v apart within there =
    let rs = s.heap.graph.roots in
    let p = place d m in
    let q = place t m in
    put_at s (slice_set rs q v) m p q i (root s.heap.graph p) v (root_left rs q p v (λ e. apart (sym e))) (root_held rs q v there)
    ∙ sym (ap (then_holding q v) (value_is s m p i v within))

-- a `Put` of another slot
pub put_beside : (s : State) (m i q : ℕ) (d u : SlotName) (v : Value) → place d m ≢ q → place u m ≢ q → mutate (holding s q v) m (Put d i u) ≡ then_holding q v (mutate s m (Put d i u))
put_beside s m i q d u v apart other =
    let rs = s.heap.graph.roots in
    let p = place d m in
    let r = place u m in
    put_at s (slice_set rs q v) m p r i (root s.heap.graph p) (root s.heap.graph r) (root_left rs q p v apart) (root_left rs q r v other)
    ∙ sym (ap (then_holding q v) (put_at s rs m p r i (root s.heap.graph p) (root s.heap.graph r) refl refl))

-- what a state becomes by a command that writes no field
abbrev becomes : State → ℕ → Op → Reply × Graph → Reply × State
becomes s m op x = (x.0, record s { heap = record { graph = x.1; free = s.heap.free }; collection = logged s.collection m (written s.heap.graph m op x.0) })

still_open : (s : State) (m : ℕ) (reply : Reply) (g : Graph) → ◌≡◌ {A = Reply × State} (reply, record s { heap = record { graph = g; free = s.heap.free }; collection = logged s.collection m [] }) (reply, record s { heap = record { graph = g; free = s.heap.free } })
still_open s m reply g = ap (λ (o : Option Collection). (reply, record s { heap = record { graph = g; free = s.heap.free }; collection = o })) (logged_none s.collection m)

-- a `Num` of the slot
pub number_held : (s : State) (m n : ℕ) (t : SlotName) → mutate s m (SetNumber t n) ≡ (replies.Done, holding s (place t m) (Num n))
number_held s m n t =
    let op = SetNumber t n in
    ap (λ (x : Reply × Roomy). (x.0, record s { heap = x.1; collection = logged s.collection m (written s.heap.graph m op x.0) })) (in_place s.heap m op (heap_end s) (λ none. none))
    ∙ still_open s m replies.Done (holding s (place t m) (Num n)).heap.graph

-- a `Get` into the slot
get_held : (s : State) (m j : ℕ) (t u : SlotName) (v : Value) → (o : Object) × (object_in s.heap.graph u m ≡ Some o) × (slice_get o.fields j ≡ Some v) → (mutate s m (Get t u j)).1 ≡ holding s (place t m) v
get_held s m j t u v there =
    let op = Get t u j in
    let g = s.heap.graph in
    ap (λ (x : Roomy). record s { heap = x; collection = logged s.collection m [] }) (ap (λ (x : Reply × Roomy). x.1) (in_place s.heap m op (heap_end s) (λ none. none)))
    ∙ ((λ k. (becomes s m op (get_field g (place t m) (there.1 k) (field_of (there.1 k) j))).1)
    ∙ (ap (λ f. (becomes s m op (get_field g (place t m) (Some there.0) f)).1) there.2
    ∙ ap (λ (x : Reply × State). x.1) (still_open s m replies.Done (holding s (place t m) v).heap.graph)))

-- ---- numbers that are written through the slot

first_number : (s : State) (m i n : ℕ) (d t : SlotName) (w : Value) → place t m ≢ place d m → place d m < length s.heap.graph.roots → place t m < length s.heap.graph.roots
    → (mutate (mutate (holding s (place t m) w) m (SetNumber t n)).1 m (Put d i t)).1 ≡ holding (put_value_step s m (place d m) i (Num n)).1 (place t m) (Num n)
first_number s m i n d t w apart within held =
    ap (λ (x : Reply × State). (mutate x.1 m (Put d i t)).1) (number_held (holding s (place t m) w) m n t)
    ∙ ap (λ x. (mutate x m (Put d i t)).1) (held_again s (place t m) w (Num n))
    ∙ ap (λ (x : Reply × State). x.1) (put_held s m i d t (Num n) apart within held)

numbers_held : (rest : List ℕ) (s : State) (m i n : ℕ) (d t : SlotName) (w : Value) → place t m ≢ place d m → place d m < length s.heap.graph.roots → place t m < length s.heap.graph.roots
    → numbers_step (holding s (place t m) w) m d t i (n ∷ rest) ≡ holding (gives_step s m (place d m) i (map Number (n ∷ rest))) (place t m) (Num (get_or (n ∷ rest) (length rest) 0))
numbers_held [] s m i n d t w apart within held = first_number s m i n d t w apart within held
numbers_held (k ∷ rest) s m i n d t w apart within held =
    ap (λ x. numbers_step x m d t (suc i) (k ∷ rest)) (first_number s m i n d t w apart within held)
    ∙ numbers_held rest (put_value_step s m (place d m) i (Num n)).1 m (suc i) k d t (Num n) apart within held

-- the slot takes the last number
pub numbers_through : (old mid new : State) (m i : ℕ) (d t : SlotName) (words : List ℕ) (reply set : Reply) → place t m ≢ place d m → place d m < length old.heap.graph.roots → place t m < length old.heap.graph.roots
    → put_root_numbers_step old m (place d m) i words ≡ (reply, mid) → reply ≡ replies.Done → 0 < length words → mutate mid m (SetNumber t (get_or words (length words - 1) 0)) ≡ (set, new) → put_numbers_step old m d i t words ≡ (reply, new)
numbers_through old mid new m i d t [] reply set apart within held puts is some sets = absurd (omega (arith, some))
numbers_through old mid new m i d t (n ∷ rest) reply set apart within held puts is some sets =
    let q = place t m in
    let words = n ∷ rest in
    let last = get_or words (length words - 1) 0 in
    let all = gives_step old m (place d m) i (map Number words) in
    let said : numbers_reply i words (raw_numbers old.heap.graph d m) ≡ reply = ap (λ (x : Reply × State). x.0) puts in
    let is_done = said ∙ is in
    let given : all ≡ mid = sym (ap (λ r. after_reply r old all) is_done) ∙ ap (λ (x : Reply × State). x.1) puts in
    let steps : numbers_step old m d t i words ≡ new
    = ap (λ x. numbers_step x m d t i words) (sym (held_before old q))
    ∙ (numbers_held rest old m i n d t (root old.heap.graph q) apart within held
    ∙ (ap (λ k. holding all q (Num (get_or words k 0))) (let same : length rest ≡ length words - 1 = omega arith in same)
    ∙ (ap (λ x. holding x q (Num last)) given
    ∙ (sym (ap (λ (x : Reply × State). x.1) (number_held mid m last t))
    ∙ ap (λ (x : Reply × State). x.1) sets)))) in
    λ k. (said k, (ap (λ r. after_reply r old (numbers_step old m d t i words)) is_done ∙ steps) k)

-- ---- fields that are copied through the slot

module _ (m : ℕ) (d u t : SlotName) (apart : place t m ≢ place d m) (beside : place t m ≢ place u m) where
  abbrev target : ℕ
  target = place d m

  abbrev source : ℕ
  source = place u m

  abbrev slot : ℕ
  slot = place t m

  -- so many fields can be copied
  record CanGoOn (s : State) (i j n : ℕ) : Type 0 where
    within : target < length s.heap.graph.roots
    held : slot < length s.heap.graph.roots
    done : copy_reply i j n (object_in s.heap.graph d m) (object_in s.heap.graph u m) ≡ replies.Done

  -- the state after the first of them
  abbrev next : State → ℕ → ℕ → State
  next s i j = (put_value_step s m target i (value_in s.heap.graph source j)).1

  module _ (s : State) (i j n : ℕ) (can : CanGoOn s i j (suc n)) where
    abbrev g : Graph
    g = s.heap.graph

    abbrev v : Value
    v = value_in g source j

    name : (a : ℕ) × (root g target ≡ graphs.Ref a)
    name = taker_named g target source i j (suc n) can.done

    graph_then : (next s i j).heap.graph ≡ later g target source name.0 i j n name.1 can.done
    graph_then =
        ap (λ (x : Reply × State). x.1.heap.graph) (value_is s m target i v can.within)
        ∙ ap (λ (x : Reply × Graph). record x.1 { roots = g.roots }) (value_put g target source name.0 i j n name.1 can.done)

    first_copied : (w : Value) → (mutate (mutate (holding s slot w) m (Get t u j)).1 m (Put d i t)).1 ≡ holding (next s i j) slot v
    first_copied w =
        let there = value_there g target source name.0 i j n name.1 can.done in
        let object : object_in (holding s slot w).heap.graph u m ≡ Some there.0 = ap (object_of g.objects) (root_left g.roots slot source w (λ e. beside (sym e))) ∙ there.1 in
        ap (λ x. (mutate x m (Put d i t)).1) (get_held (holding s slot w) m j t u v (there.0, object, there.2) ∙ held_again s slot w v)
        ∙ ap (λ (x : Reply × State). x.1) (put_held s m i d t v apart can.within can.held)

    first_read : (mutate (next s i j) m (Get t d i)).1 ≡ holding (next s i j) slot v
    first_read =
        let again = value_again g target source name.0 i j n name.1 can.done in
        get_held (next s i j) m i t d v (again.0, ap (λ (x : Graph). object_in x d m) graph_then ∙ again.1, again.2)

    on : CanGoOn (next s i j) (suc i) (suc j) n
    on = record {
      within = can.within;
      held = can.held;
      done = subst (λ (x : Graph). copy_reply (suc i) (suc j) n (object_in x d m) (object_in x u m) ≡ replies.Done) (sym graph_then) (goes_on g target source name.0 i j n name.1 can.done);
    }

  copied_on : (n : ℕ) (s : State) (i j : ℕ) (w : Value) → CanGoOn s i j (suc n) → copy_step (holding s slot w) m d i u j t (suc n) ≡ (mutate (values_step s m target i source j (suc n)) m (Get t d (i + n))).1
  copied_on zero s i j w can =
      let same : i + 0 ≡ i = omega arith in
      first_copied s i j 0 can w ∙ sym (ap (λ k. (mutate (next s i j) m (Get t d k)).1) same ∙ first_read s i j 0 can)
  copied_on (suc n) s i j w can =
      let same : suc i + n ≡ i + suc n = omega arith in
      ap (λ x. copy_step x m d (suc i) u (suc j) t (suc n)) (first_copied s i j (suc n) can w)
      ∙ (copied_on n (next s i j) (suc i) (suc j) (value_in s.heap.graph source j) (on s i j (suc n) can)
      ∙ ap (λ k. (mutate (values_step (next s i j) m target (suc i) source (suc j) (suc n)) m (Get t d k)).1) same)

  -- the slot takes the value of the last field
  pub copied_through : (old mid new : State) (i j count : ℕ) (reply got : Reply) → target < length old.heap.graph.roots → slot < length old.heap.graph.roots → copy_values_step old m target i source j count ≡ (reply, mid) → reply ≡ replies.Done → 0 < count
      → mutate mid m (Get t d (i + (count - 1))) ≡ (got, new) → copy_fields_step old m d i u j t count ≡ (reply, new)
  copied_through old mid new i j count reply got within held copies done some gets =
      let n = count - 1 in
      let all : count ≡ suc n = omega arith in
      let g = old.heap.graph in
      let said : copy_reply i j count (object_in g d m) (object_in g u m) ≡ reply = ap (λ (x : Reply × State). x.0) copies in
      let is_done = said ∙ done in
      let values : values_step old m target i source j count ≡ mid = sym (ap (λ r. after_reply r old (values_step old m target i source j count)) is_done) ∙ ap (λ (x : Reply × State). x.1) copies in
      let can : CanGoOn old i j (suc n) = record { within = within; held = held; done = subst (λ k. copy_reply i j k (object_in g d m) (object_in g u m) ≡ replies.Done) all is_done } in
      let steps : copy_step old m d i u j t count ≡ new
      = ap (copy_step old m d i u j t) all
      ∙ (ap (λ x. copy_step x m d i u j t (suc n)) (sym (held_before old slot))
      ∙ (copied_on n old i j (root g slot) can
      ∙ (ap (λ k. (mutate (values_step old m target i source j k) m (Get t d (i + n))).1) (sym all)
      ∙ (ap (λ x. (mutate x m (Get t d (i + n))).1) values
      ∙ ap (λ (x : Reply × State). x.1) gets)))) in
      λ k. (said k, (ap (λ r. after_reply r old (copy_step old m d i u j t count)) is_done ∙ steps) k)
