-- Numbers stay below 2^63.
use Rattle.std.proofs.lemmas.Grind.{common_steps}
use Rattle.std.proofs.Common.{◌≡◌, ⊎_elim, ℕ, Bool, true, ◌&&◌, arith, List, Option, Some, None, refl, sym, subst}
use Rattle.std.specs.Prelude.{not}
use Rattle.std.proofs.lemmas.Bool.{cond_both}
use Rattle.gc_graph.specs.Graph.{Value, Nil, Num, Ref, Object, Graph, lookup, object_of, field_of, root, set_root, add_object, first_value, new_object}
use Rattle.gc_graph.specs.Correspond.{correspond}
use Rattle.gc_graph.specs.Machine.{step, is_number, get_field, put_field}
use Rattle.gc_model.specs.Runs.{HasRange}
use Rattle.gc_graph.specs.declared.reply.Reply.{Reply}
use Rattle.gc_graph.specs.declared.command.Op.{Op}
use Rattle.gc_graph.specs.declared.command.Op.TheVariants as ops
use Rattle.gc_graph.specs.Slots.{place}
use Rattle.gc_model.specs.State.{Collection, moved}
use Rattle.gc_model.specs.Members.{In}
use Rattle.gc_model.specs.Belonging.{IsSmall, HasSmallNumbers}
use Rattle.gc_model.proofs.Lists.{in_push, in_set, in_replicate, get_in}
use Rattle.gc_model.proofs.Heap.{lookup_in, written_in, set_from}

field_small : (g : Graph) (v : Value) (i : ℕ) (w : Value) → HasSmallNumbers g → field_of (object_of g.objects v) i ≡ Some w → IsSmall w
field_small g Nil i w h e = absurd cc
field_small g (Num n) i w h e = absurd cc
field_small g (Ref a) i w h e = go (lookup g.objects a) refl e
  where
    go : (o : Option Object) → lookup g.objects a ≡ o → field_of o i ≡ Some w → IsSmall w
    go None k l = absurd cc
    go (Some o) k l = h.fields a o (lookup_in g.objects a o k) w (get_in w o.fields i l)

small_root : (g : Graph) (d : ℕ) (v : Value) → HasSmallNumbers g → IsSmall v → HasSmallNumbers (set_root g d v)
small_root g d v h s = record { fields = h.fields; roots = λ w k. ⊎_elim (λ e. subst IsSmall e s) (h.roots w) (in_set w g.roots d v k) }

small_got : (g : Graph) (d i : ℕ) (v : Value) → HasSmallNumbers g → HasSmallNumbers (get_field g d (object_of g.objects v) (field_of (object_of g.objects v) i)).1
small_got g d i v h = grind (arith, common_steps, small_root, field_small)

small_put : (g : Graph) (v : Value) (target : Option Object) (found : Option Value) (i : ℕ) (w : Value) → HasSmallNumbers g → IsSmall w → HasSmallNumbers (put_field g v target found i w).1
small_put g Nil target found i w h s = h
small_put g (Num n) target found i w h s = h
small_put g (Ref a) None found i w h s = h
small_put g (Ref a) (Some o) None i w h s = h
small_put g (Ref a) (Some o) (Some before) i w h s = cond_both (o.raw && not (is_number w)) _ _ (λ (next : Reply × Graph). HasSmallNumbers next.1) (λ t. h) (λ t. record {
  fields = λ b q k x l. let e = set_from a i w g.objects (b, q) k in ⊎_elim
      (λ same. h.fields e.0.0 e.0.1 e.1 x (subst (λ (z : ℕ × Object). In x z.1.fields) (sym same) l))
      (λ is. ⊎_elim (λ y. subst IsSmall y s) (h.fields e.0.0 e.0.1 e.1 x) (written_in a i w e.0 x (subst (λ (z : ℕ × Object). In x z.1.fields) (sym is) l)))
      e.2;
  roots = h.roots;
})

small_new : (g : Graph) (raw : Bool) (d kind len name : ℕ) → HasSmallNumbers g → HasSmallNumbers (set_root (add_object g name (new_object raw kind len)) d (Ref name))
small_new g raw d kind len name h = record {
  fields = λ a o k v l. ⊎_elim
      (λ x. h.fields a o x v l)
      (λ x. subst IsSmall (in_replicate v (first_value raw) len (subst (λ (z : ℕ × Object). In v z.1.fields) (sym x) l)) (first_small raw))
      (in_push (a, o) (name, new_object raw kind len) g.objects k);
  roots = λ w k. ⊎_elim (λ e. subst IsSmall e tt) (h.roots w) (in_set w g.roots d (Ref name) k);
}
  where
    first_small : (b : Bool) → IsSmall (first_value b)
    first_small b = grind (arith, common_steps)

pub step_small : (g : Graph) (m : ℕ) (op : Op) (name : ℕ) → HasSmallNumbers g → HasRange op → HasSmallNumbers (step g m op name).1
step_small g m (ops.Get d s i) name h r = small_got g (place d m) i (root g (place s m)) h
step_small g m op name h r = grind (arith, common_steps, small_new, small_root, get_in, small_put)

-- ---- in the new space

pub small_corresponding : (pairs : List (ℕ × ℕ)) (v w : Value) → correspond pairs v w ≡ true → IsSmall v → IsSmall w
small_corresponding pairs v w h s = grind (arith, common_steps)

pub small_moved : (c : Collection) (v : Value) → IsSmall v → IsSmall (moved c v)
small_moved c v s = grind (arith, common_steps)
