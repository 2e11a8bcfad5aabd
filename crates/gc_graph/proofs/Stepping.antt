-- The plain machine's commands get the roomy machine's replies.
use Rattle.std.proofs.lemmas.Grind.{common_steps}
use Rattle.std.proofs.Common.{◌≡◌, ℕ, ◌+◌, ◌-◌, ◌<◌, ◌≤◌, cond, refl, sym, ◌∙◌, ap, subst, arith}
use Rattle.std.specs.Prelude.{true, false, nat_lt, Result, IfOk, Option, length, Bool}
use Rattle.gc_graph.specs.declared.no_memory.NoMemory.{NoMemory}
use Rattle.std.proofs.lemmas.Bool.{le-ltb, lt-ltb}
use Rattle.std.proofs.lemmas.List.{length-set}
use Rattle.gc_graph.specs.Slots.{SlotName, place}
use Rattle.gc_graph.specs.Graph.{Value, Object, Graph, object_of, field_of, root, set_root, add_object, new_object, fresh_name, Ref}
use Rattle.gc_graph.specs.Limits.{most_words}
use Rattle.gc_graph.specs.Machine.{Roomy, get_field, put_field, step, roomy_step, MakesObject, Answers}
use Rattle.gc_graph.specs.Internal.Machine.{Makes}
use Rattle.gc_graph.specs.Records.{graph_of}
use Rattle.gc_graph.specs.PlainMachine.{roomy_of}
use Rattle.gc_graph.specs.Internal.PlainMachine.{IsPlain}
use Rattle.gc_graph.specs.Bounded.{AreBelow, AreShort}
use Rattle.gc_graph.specs.declared.plain.Plain.TheInside.{Inside}
use Rattle.gc_graph.specs.declared.command.Op.{Op}
use Rattle.gc_graph.specs.declared.command.Op.TheVariants as ops
use Rattle.gc_graph.specs.declared.reply.Reply.{Reply}
use Rattle.gc_graph.specs.declared.reply.Reply.TheVariants.{Full, Made}
use Rattle.gc_graph.proofs.Replies.{fresh_unused}
use Rattle.gc_graph.proofs.Bounds.{step_below, step_short, next_unused}

-- a reply and a graph, with these free words
abbrev pub with_free : ℕ → Reply × Graph → Reply × Roomy
with_free free x = (x.0, record { graph = x.1; free = free })

pub in_place : (s : Roomy) (m : ℕ) (op : Op) (name : ℕ) → (MakesObject op → ⊥) → roomy_step s m op name ≡ with_free s.free (step s.graph m op name)
in_place s m op name makes_none = grind (arith, common_steps, le-ltb)

abbrev pub StepLeadsTo : Graph → ℕ → Op → Reply → Graph → Type 0
StepLeadsTo g m op reply h = ◌≡◌ {A = Reply × Graph} (reply, h) (step g m op (fresh_name g))

pub answered : (s t u : Roomy) (m : ℕ) (op op' : Op) (reply : Reply) → s ≡ u → op' ≡ op → (MakesObject op → ⊥) → t.free ≡ s.free → StepLeadsTo s.graph m op reply t.graph → Answers u m op' reply t
answered s t u m op op' reply view is makes_none free done = grind (arith, common_steps, fresh_unused, in_place)

-- commands that change nothing
pub seen : (s u : Roomy) (m : ℕ) (op op' : Op) (reply : Reply) → s ≡ u → op' ≡ op → (MakesObject op → ⊥) → StepLeadsTo s.graph m op reply s.graph → Answers u m op' reply u
seen s u m op op' reply view is makes_none done = subst (λ s. Answers s m op' reply s) view (answered s s s m op op' reply refl is makes_none refl done)

pub kept : (a b : Inside) (m : ℕ) (op : Op) (reply : Reply) → (MakesObject op → ⊥) → b.free ≡ a.free → b.next_name ≡ a.next_name → StepLeadsTo (graph_of a.objects) m op reply (graph_of b.objects) → IsPlain a → IsPlain b
kept a b m op reply makes_none free next done plain =
    let g : Graph = graph_of a.objects in
    let same : (step g m op (fresh_name g)).1 ≡ graph_of b.objects = sym (ap (λ x. x.1) done) in
    let bound : a.next_name + a.free ≤ most_words = plain.bound in
    record {
      below = subst (λ h. AreBelow b.next_name h) same (subst (λ n. AreBelow n (step g m op (fresh_name g)).1) (sym next) (step_below a.next_name g m op (fresh_name g) makes_none plain.below));
      short = subst AreShort same (step_short g m op (fresh_name g) makes_none plain.short);
      bound = omega arith;
    }

-- ---- with places instead of slots

pub got_step : (g : Graph) (m : ℕ) (d s : SlotName) (i p q : ℕ) (target : Value) (reply : Reply) (h : Graph) → p ≡ place d m → q ≡ place s m → target ≡ root g q
    → ◌≡◌ {A = Reply × Graph} (reply, h) (get_field g p (object_of g.objects target) (field_of (object_of g.objects target) i)) → StepLeadsTo g m (ops.Get d s i) reply h
got_step g m d s i p q target reply h at from holds done = grind (arith, common_steps)

pub put_step : (g : Graph) (m : ℕ) (s t : SlotName) (i p q : ℕ) (target value : Value) (reply : Reply) (h : Graph) → p ≡ place s m → q ≡ place t m → target ≡ root g p → value ≡ root g q
    → ◌≡◌ {A = Reply × Graph} (reply, h) (put_field g target (object_of g.objects target) (field_of (object_of g.objects target) i) i value) → StepLeadsTo g m (ops.Put s i t) reply h
put_step g m s t i p q target value reply h at from holds gives done = grind (arith, common_steps)

-- ---- a new object

abbrev pub with_object : Roomy → ℕ → ℕ → Bool → ℕ → ℕ → Reply × Roomy
with_object s name p raw kind len = (Made, record { graph = set_root (add_object s.graph name (new_object raw kind len)) p (Ref name); free = s.free - (len + 2) })

pub refused : (a : Inside) (s : Roomy) (p : ℕ) (raw : Bool) (kind len : ℕ) → roomy_of a ≡ s → IsPlain a → a.free < len + 2 → Makes s p raw kind len Full s
refused a s p raw kind len view plain short = subst (λ s. Makes s p raw kind len Full s) view (record {
  name = a.next_name;
  unused = next_unused a.next_name (graph_of a.objects) plain.below;
  made = sym (ap (λ b. cond b (Full, roomy_of a) (with_object (roomy_of a) a.next_name p raw kind len)) (lt-ltb a.free (len + 2) short));
})

pub made : (a : Inside) (s t : Roomy) (p : ℕ) (raw : Bool) (kind len : ℕ) → roomy_of a ≡ s → IsPlain a → len + 2 ≤ a.free
    → ◌≡◌ {A = Reply × Roomy} (Made, t) (with_object (roomy_of a) a.next_name p raw kind len) → Makes s p raw kind len Made t
made a s t p raw kind len view plain room done = subst (λ s. Makes s p raw kind len Made t) view (record {
  name = a.next_name;
  unused = next_unused a.next_name (graph_of a.objects) plain.below;
  made = done ∙ sym (ap (λ b. cond b (Full, roomy_of a) (with_object (roomy_of a) a.next_name p raw kind len)) (le-ltb a.free (len + 2) room));
})

-- the commands that make one
abbrev pub new_command : Bool → SlotName → ℕ → ℕ → Op
new_command true d kind len = ops.NewRaw d kind len
new_command false d kind len = ops.New d kind len

new_step : (s t : Roomy) (m : ℕ) (d : SlotName) (raw : Bool) (kind len name : ℕ) (reply : Reply) → (reply, t) ≡ cond (nat_lt s.free (len + 2)) (Full, s) (with_object s name (place d m) raw kind len) → roomy_step s m (new_command raw d kind len) name ≡ (reply, t)
new_step s t m d raw kind len name reply is = grind (arith, common_steps)

pub new_answered_if_ok : (r : Result Reply NoMemory) (s t : Roomy) (m : ℕ) (d : SlotName) (p : ℕ) (raw : Bool) (kind len : ℕ) (op : Op) → op ≡ new_command raw d kind len → p ≡ place d m
    → IfOk r (λ reply. Makes s p raw kind len reply t) → IfOk r (λ reply. Answers s m op reply t)
new_answered_if_ok r s t m d p raw kind len op is at makes = grind (arith, common_steps, new_step, made)

-- ---- the number of roots stays the same

put_roots : (g : Graph) (target : Value) (o : Option Object) (f : Option Value) (i : ℕ) (v : Value) → length (put_field g target o f i v).1.roots ≡ length g.roots
put_roots g target o f i v = grind (arith, common_steps, refused)

pub step_roots : (g : Graph) (m : ℕ) (op : Op) (name : ℕ) → length (step g m op name).1.roots ≡ length g.roots
step_roots g m op name = grind (arith, common_steps, length-set, put_roots)

pub answered_roots : (s t : Roomy) (m : ℕ) (op : Op) (reply : Reply) → Answers s m op reply t → length t.graph.roots ≡ length s.graph.roots
answered_roots s t m op reply a = grind (arith, common_steps, step_roots)
