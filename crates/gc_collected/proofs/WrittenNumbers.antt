-- An object whose fields take numbers, and nothing else changes.
use Rattle.std.proofs.lemmas.List.{append-nil, append_assoc, drop-set-lt, length-map, length-set, map-set, take-append-drop, take_more_set}
use Rattle.std.proofs.lemmas.Option.{slice_get-get_or}
use Rattle.std.proofs.Common.{◌≡◌, ℕ, suc, ◌+◌, ◌<◌, ◌≤◌, List, [], ◌∷◌, ◌++◌, length, set, take, drop, map, true, false, Option, Some, refl, ap, sym, ◌∙◌, subst, arith}
use Rattle.std.specs.Prelude.{Bool, ◌&&◌, slice_get, slice_set, if◌then◌else◌}
use Rattle.std.specs.Option.{unwrap_or}
use Rattle.gc_bytes.specs.Text.{overwritten}
use Rattle.gc_graph.specs.Graph.{Graph, Object, Value, Nil, Num, Ref, field_of, lookup, number_of, root, set_field, with_field}
use Rattle.gc_graph.specs.Machine.{Roomy, put_field}
use Rattle.gc_graph.specs.declared.reply.Reply.{Reply}
use Rattle.gc_graph.specs.declared.reply.Reply.TheVariants.{Done, NoNumber}
use Rattle.gc_model.specs.State.{State}
use Rattle.gc_collected.specs.Giving.{gives_step}
use Rattle.gc_collected.specs.Values.{put_value_step}
use Rattle.gc_collected.specs.declared.giving.FieldValue.TheVariants.{Number}
use Rattle.gc_collected.proofs.CopiesDone.{written_itself}
use Rattle.gc_collected.proofs.Given.{value_is}
use Rattle.gc_collected.proofs.Numbered.{set_keeps}
use Rattle.gc_collected.proofs.ValuesPut.{given}

-- ---- fields that take numbers

-- the fields from i on take these numbers
pub fields_after : List Value → ℕ → List ℕ → List Value
fields_after fields i [] = fields
fields_after fields i (n ∷ rest) = fields_after (slice_set fields i (Num n)) (suc i) rest

pub length_after : (ns : List ℕ) (fields : List Value) (i : ℕ) → length (fields_after fields i ns) ≡ length fields
unfolding fields_after
length_after [] fields i = refl
length_after (n ∷ rest) fields i = length_after rest (slice_set fields i (Num n)) (suc i) ∙ length-set fields i (Num n)

-- one number and then the rest
one_more : (xs ns : List ℕ) (i n : ℕ) → i < length xs → overwritten (set xs i n) (suc i) ns ≡ overwritten xs i (n ∷ ns)
one_more xs ns i n less =
    let front : take (suc i) (set xs i n) ≡ take i xs ++ n ∷ [] = ap (λ k. take k (set xs i n)) (let e : suc i ≡ i + 1 = omega arith in e) ∙ take_more_set xs i n less in
    let back : drop (suc i + length ns) (set xs i n) ≡ drop (i + suc (length ns)) xs = drop-set-lt (suc i + length ns) xs i n (omega arith) ∙ ap (λ k. drop k xs) (let e : suc i + length ns ≡ i + suc (length ns) = omega arith in e) in
    ap (λ ys. ys ++ ns ++ drop (suc i + length ns) (set xs i n)) front
    ∙ ap (λ ys. take i xs ++ n ∷ [] ++ ns ++ ys) back
    ∙ ap (λ ys. ys ++ drop (i + suc (length ns)) xs) (append_assoc (take i xs) (n ∷ []) ns)

nothing_more : (xs : List ℕ) (i : ℕ) → overwritten xs i [] ≡ xs
nothing_more xs i = ap (λ ys. ys ++ drop (i + 0) xs) (append-nil (take i xs)) ∙ ap (λ k. take i xs ++ drop k xs) (let e : i + 0 ≡ i = omega arith in e) ∙ take-append-drop i xs

pub numbers_after : (ns : List ℕ) (fields : List Value) (i : ℕ) → i + length ns ≤ length fields → map number_of (fields_after fields i ns) ≡ overwritten (map number_of fields) i ns
unfolding fields_after
numbers_after [] fields i within = sym (nothing_more (map number_of fields) i)
numbers_after (n ∷ rest) fields i within =
    let same = length-set fields i (Num n) in
    let count = length-map fields number_of in
    numbers_after rest (slice_set fields i (Num n)) (suc i) (omega arith)
    ∙ ap (λ xs. overwritten xs (suc i) rest) (map-set number_of fields i (Num n))
    ∙ one_more (map number_of fields) rest i n (omega arith)

-- ---- the object that takes them

false_and : (b : Bool) → (b && false) ≡ false
false_and true = refl
false_and false = refl

put_there : (g : Graph) (a i n : ℕ) (o : Object) → lookup g.objects a ≡ Some o → i < length o.fields → (given g (Ref a) i (Num n)).1 ≡ record g { objects = set_field g.objects a i (Num n) }
put_there g a i n o there less =
    let next : Graph = record g { objects = set_field g.objects a i (Num n) } in
    let pick : Bool → Reply × Graph = (λ b. if b then (NoNumber, g) else (Done, next)) in
    ap (λ (x : Option Object). (put_field g (Ref a) x (field_of x i) i (Num n)).1) there
    ∙ ap (λ (x : Option Value). (put_field g (Ref a) (Some o) x i (Num n)).1) (slice_get-get_or o.fields i Nil less)
    ∙ ap (λ (b : Bool). (pick b).1) (false_and o.raw)

-- a state's heap with this graph, but for the roots
abbrev with_graph : State → Graph → Roomy
with_graph s g = record { graph = record g { roots = s.heap.graph.roots }; free = s.heap.free }

one_put : (s : State) (m p i a n : ℕ) (o : Object) → p < length s.heap.graph.roots → root s.heap.graph p ≡ Ref a → lookup s.heap.graph.objects a ≡ Some o → i < length o.fields
    → (put_value_step s m p i (Num n)).1.heap ≡ with_graph s (record s.heap.graph { objects = set_field s.heap.graph.objects a i (Num n) })
one_put s m p i a n o within target there less =
    ap (λ (x : Reply × State). x.1.heap) (value_is s m p i (Num n) within)
    ∙ ap (λ (w : Value). with_graph s (given s.heap.graph w i (Num n)).1) target
    ∙ ap (with_graph s) (put_there s.heap.graph a i n o there less)

-- only the object at `a` has changed
pub record Wrote (old new : Roomy) (a : ℕ) (object : Object) : Type 0 where
  pub there : lookup new.graph.objects a ≡ Some object
  pub others : (b : ℕ) → (b ≡ a → ⊥) → lookup new.graph.objects b ≡ lookup old.graph.objects b
  pub roots : new.graph.roots ≡ old.graph.roots
  pub free : new.free ≡ old.free

pub all_put : (ns : List ℕ) (s : State) (m p i a : ℕ) (o : Object) → p < length s.heap.graph.roots → root s.heap.graph p ≡ Ref a → lookup s.heap.graph.objects a ≡ Some o → i + length ns ≤ length o.fields
    → Wrote s.heap (gives_step s m p i (map Number ns)).heap a (record o { fields = fields_after o.fields i ns })
unfolding fields_after
all_put [] s m p i a o within target there fits = record { there = there; others = λ b apart. refl; roots = refl; free = refl }
all_put (n ∷ rest) s m p i a o within target there fits =
    let next : State = (put_value_step s m p i (Num n)).1 in
    let is = one_put s m p i a n o within target there (omega arith) in
    let objects = ap (λ (h : Roomy). h.graph.objects) is in
    let roots = ap (λ (h : Roomy). h.graph.roots) is in
    let same = length-set o.fields i (Num n) in
    let more = all_put rest next m p (suc i) a (with_field o i (Num n)) (subst (λ (rs : List Value). p < length rs) (sym roots) within)
    (ap (λ (rs : List Value). unwrap_or (slice_get rs p) Nil) roots ∙ target)
    (ap (λ (os : List (ℕ × Object)). lookup os a) objects ∙ written_itself s.heap.graph.objects a i (Num n) o there) (omega arith) in
    record {
      there = more.there;
      others = λ b apart. more.others b apart ∙ ap (λ (os : List (ℕ × Object)). lookup os b) objects ∙ set_keeps s.heap.graph.objects a i (Num n) b apart;
      roots = more.roots ∙ roots;
      free = more.free ∙ ap (λ (h : Roomy). h.free) is;
    }
