-- Numbers that the fields of a raw object take, in order, and what stays as it is meanwhile.
use Rattle.std.proofs.lemmas.Grind.{common_steps}
use Rattle.std.proofs.Common.{◌≡◌, inl, inr, ℕ, suc, ◌+◌, ◌<◌, ◌≤◌, List, [], ◌∷◌, ◌++◌, length, map, get_or, drop, is_some, true, Option, Some, None, refl, ap, sym, ◌∙◌, subst, arith, length-set}
use Rattle.std.specs.Prelude.{◌&&◌, not}
use Rattle.std.specs.Option.{unwrap_or}
use Rattle.std.proofs.lemmas.Bool.{cond_both, eqb-true, ne_eqb}
use Rattle.std.proofs.lemmas.List.{drop_all, drop_more}
use Rattle.gc_graph.specs.Graph.{Graph, Object, Value, Nil, Num, Ref, add_object, field_of, lookup, new_object, object_of, root, set_field, set_root}
use Rattle.gc_graph.specs.Machine.{Roomy, is_number, put_field, roomy_step}
use Rattle.gc_graph.specs.declared.command.Op.TheVariants.{NewRaw}
use Rattle.gc_graph.specs.declared.reply.Reply.{Reply}
use Rattle.gc_graph.specs.declared.reply.Reply.TheVariants.{Full}
use Rattle.gc_heap.specs.Filling.{PutsAll, PutsValue, numbered}
use Rattle.gc_heap.specs.Heap.{HeapWords, graph_in}
use Rattle.gc_heap.specs.Places.{root_at}
use Rattle.gc_model.specs.Belonging.{Laid}
use Rattle.gc_model.specs.Members.{In}
use Rattle.gc_model.specs.State.{State}
use Rattle.gc_model.specs.Steps.{mutate}
use Rattle.gc_model.proofs.Public.{get_set_same, lookup_laid}
use Rattle.gc_collected.specs.Numbers.{new_numbers_step}
use Rattle.gc_collected.specs.declared.giving.FieldValue.TheVariants.{Number}
use Rattle.gc_collected.specs.declared.known.KnownRoots.{KnownRoots}
use Rattle.gc_collected.specs.Internal.Given.{fields_put, given_from, puts_step}
use Rattle.gc_collected.specs.Internal.KnownRoots.{KnowsRoots}
use Rattle.gc_collected.specs.Internal.Numbered.{AreApart, IsNewRaw, numbers_given, sources_at}
use Rattle.gc_collected.specs.Internal.Together.{fields_from}
use Rattle.gc_collected.proofs.GivenFields.{given_known, given_open, gives_are}
use Rattle.gc_collected.proofs.Unwritten.{logged_open}

-- ---- one field after the other

pub one_number : (h next new : HeapWords) (p i k n : ℕ) (ns : List ℕ) → k < length ns → n ≡ get_or ns k 0 → PutsValue h p (i + k) (Num n) next → PutsAll next p (numbered (i + (k + 1)) (drop (k + 1) ns)) new → PutsAll h p (numbered (i + k) (drop k ns)) new
one_number h next new p i k n ns less is one more =
    let at : i + (k + 1) ≡ suc (i + k) = omega arith in
    subst (λ xs. PutsAll h p (numbered (i + k) xs) new) (sym (drop_more ns k 0 less))
    (subst (λ x. PutsAll h p (numbered (i + k) (x ∷ drop (k + 1) ns)) new) is
    (next, one, subst (λ j. PutsAll next p (numbered j (drop (k + 1) ns)) new) at more))

pub no_number : (h : HeapWords) (p i k : ℕ) (ns : List ℕ) → length ns ≤ k → PutsAll h p (numbered (i + k) (drop k ns)) h
no_number h p i k ns past = subst (λ xs. PutsAll h p (numbered (i + k) xs) h) (sym (drop_all k ns past)) refl

pub from_number : (h new : HeapWords) (p i : ℕ) (ns : List ℕ) → PutsAll h p (numbered (i + 0) (drop 0 ns)) new → PutsAll h p (numbered i ns) new
from_number h new p i ns all = let at : i + 0 ≡ i = omega arith in subst (λ j. PutsAll h p (numbered j ns) new) at all

pub number_fields : (ns : List ℕ) (a i : ℕ) → fields_put a (numbered i ns) ≡ fields_from a i (length ns)
number_fields [] a i = refl
number_fields (n ∷ rest) a i = ap (λ fs. (a, i) ∷ fs) (number_fields rest a (suc i))

number_values : (ns : List ℕ) (roots : List Value) (i : ℕ) → given_from roots i (map Number ns) ≡ numbered i ns
number_values [] roots i = refl
number_values (n ∷ rest) roots i = ap (λ es. (i, Num n) ∷ es) (number_values rest roots (suc i))

pub numbers_are : (ns : List ℕ) (s : State) (m d i : ℕ) → d < length s.heap.graph.roots → numbers_given s m d i ns ≡ puts_step s m d (numbered i ns)
numbers_are ns s m d i within = gives_are (map Number ns) s m d i within ∙ ap (puts_step s m d) (number_values ns s.heap.graph.roots i)

-- ---- other objects stay

pub set_keeps : (os : List (ℕ × Object)) (a i : ℕ) (v : Value) (b : ℕ) → (b ≡ a → ⊥) → lookup (set_field os a i v) b ≡ lookup os b
set_keeps [] a i v b apart = refl
set_keeps (e ∷ os) a i v b apart = grind (arith, common_steps, ne_eqb, eqb-true, set_keeps os a i v b apart)

put_keeps : (g : Graph) (a : ℕ) (o : Option Object) (before : Option Value) (i : ℕ) (v : Value) (b : ℕ) → (b ≡ a → ⊥) → lookup (put_field g (Ref a) o before i v).1.objects b ≡ lookup g.objects b
put_keeps g a None before i v b apart = refl
put_keeps g a (Some object) None i v b apart = refl
put_keeps g a (Some object) (Some f) i v b apart = cond_both (object.raw && not (is_number v)) _ _ (λ (next : Reply × Graph). lookup next.1.objects b ≡ lookup g.objects b)
    (λ refused. refl)
    (λ taken. set_keeps g.objects a i v b apart)

value_keeps : (h new : HeapWords) (p i a b : ℕ) (v : Value) → PutsValue h p i v new → root (graph_in h) p ≡ Ref a → (b ≡ a → ⊥) → lookup (graph_in new).objects b ≡ lookup (graph_in h).objects b
value_keeps h new p i a b v puts target apart =
    ap (λ (x : Reply × Graph). lookup x.1.objects b) puts.graph
    ∙ ap (λ w. lookup (put_field (graph_in h) w (object_of (graph_in h).objects (root (graph_in h) p)) (field_of (object_of (graph_in h).objects (root (graph_in h) p)) i) i v).1.objects b) target
    ∙ put_keeps (graph_in h) a (object_of (graph_in h).objects (root (graph_in h) p)) (field_of (object_of (graph_in h).objects (root (graph_in h) p)) i) i v b apart

pub sources_kept : (h new : HeapWords) (p i a : ℕ) (v : Value) (names : ℕ × ℕ) → PutsValue h p i v new → root (graph_in h) p ≡ Ref a → AreApart names a → sources_at (graph_in new) names ≡ sources_at (graph_in h) names
sources_kept h new p i a v names puts target apart = λ k. (value_keeps h new p i a names.0 v puts target apart.0 k, value_keeps h new p i a names.1 v puts target apart.1 k)

-- ---- a new object

raw_graph : (s s' : Roomy) (m d kind len name : ℕ) (reply : Reply) → roomy_step s m (NewRaw (root_at d) kind len) name ≡ (reply, s') → (reply ≡ Full → ⊥) → s'.graph ≡ set_root (add_object s.graph name (new_object true kind len)) d (Ref name)
raw_graph s s' m d kind len name reply step made = grind (arith, common_steps)

in_last : {X : Type 0} (xs : List X) (x : X) → In x (xs ++ x ∷ [])
in_last [] x = inl refl
in_last (y ∷ xs) x = inr (in_last xs x)

push_keeps : (os : List (ℕ × Object)) (name : ℕ) (o : Object) (a : ℕ) → (a ≡ name → ⊥) → lookup (os ++ (name, o) ∷ []) a ≡ lookup os a
push_keeps [] name o a apart = grind (arith, common_steps, ne_eqb)
push_keeps (e ∷ os) name o a apart = grind (arith, common_steps, push_keeps os name o a apart)

pub new_raw_is : (s s' : Roomy) (m d kind len at end : ℕ) (reply : Reply) → roomy_step s m (NewRaw (root_at d) kind len) at ≡ (reply, s') → (reply ≡ Full → ⊥) → d < length s.graph.roots → Laid 1 s'.graph.objects end
    → IsNewRaw s.graph s'.graph d kind len at
new_raw_is s s' m d kind len at end reply step made within laid = record {
  name = name;
  object = ap (object_of s'.graph.objects) name ∙ lookup_laid 1 s'.graph.objects end at (new_object true kind len) laid there;
  others = λ a apart. ap (λ (g : Graph). lookup g.objects a) is ∙ push_keeps s.graph.objects at (new_object true kind len) a apart;
  roots = ap (λ (g : Graph). length g.roots) is ∙ length-set s.graph.roots d (Ref at);
}
  where
    is : s'.graph ≡ set_root (add_object s.graph at (new_object true kind len)) d (Ref at)
    is = raw_graph s s' m d kind len at reply step made

    name : root s'.graph d ≡ Ref at
    name = ap (λ (g : Graph). root g d) is ∙ ap (λ o. unwrap_or o Nil) (get_set_same s.graph.roots d (Ref at) within)

    there : In (at, new_object true kind len) s'.graph.objects
    there = subst (λ (g : Graph). In (at, new_object true kind len) g.objects) (sym is) (in_last s.graph.objects (at, new_object true kind len))

pub sources_made : (old new : Graph) (d kind len at : ℕ) (names : ℕ × ℕ) → IsNewRaw old new d kind len at → AreApart names at → sources_at new names ≡ sources_at old names
sources_made old new d kind len at names made apart = λ k. (made.others names.0 apart.0 k, made.others names.1 apart.1 k)

-- ---- the reply and the state

pub numbers_made : (old made new : State) (m kind count d : ℕ) (ns : List ℕ) (reply : Reply) → count ≡ length ns → mutate old m (NewRaw (root_at d) kind count) ≡ (reply, made) → (reply ≡ Full → ⊥) → numbers_given made m d 0 ns ≡ new
    → new_numbers_step old m d kind ns ≡ (reply, new)
numbers_made old made new m kind count d ns reply same first other fill = grind (arith, common_steps)

-- what is known of the roots stays known
pub numbers_known : (known : KnownRoots) (s new : State) (m kind d : ℕ) (ns : List ℕ) (reply : Reply) → new_numbers_step s m d kind ns ≡ (reply, new) → KnowsRoots known (mutate s m (NewRaw (root_at d) kind (length ns))).1 → KnowsRoots known new
numbers_known known s new m kind d ns reply steps k =
    let made = mutate s m (NewRaw (root_at d) kind (length ns)) in
    subst (KnowsRoots known) (ap (λ (x : Reply × State). x.1) steps) (given_known known made.0 made.1 m d (map Number ns) k)

-- an open collection stays open
pub numbers_open : (s new : State) (m kind d : ℕ) (ns : List ℕ) (reply : Reply) → new_numbers_step s m d kind ns ≡ (reply, new) → is_some new.collection ≡ is_some s.collection
numbers_open s new m kind d ns reply steps =
    let made = mutate s m (NewRaw (root_at d) kind (length ns)) in
    sym (ap (λ (x : Reply × State). is_some x.1.collection) steps) ∙ given_open made.0 made.1 m d (map Number ns) ∙ logged_open s.collection m _
