-- References lead only to objects that were reachable when a collection began, or made since.
use Rattle.std.proofs.lemmas.Grind.{common_steps}
use Rattle.std.proofs.lemmas.Bool.{cases_Bool}
use Rattle.std.proofs.Common.{◌≡◌, ◌⊎◌, ℕ, zero, suc, ◌-◌, ◌≤◌, Bool, true, false, List, [], ◌∷◌, ◌++◌, map, set, Option, Some, None, slice_get, refl, ap, sym, ◌∙◌, subst, inl, inr, ⊎_elim, arith, true≢false}
use Rattle.gc_graph.specs.Graph.{Value, Nil, Num, Ref, Object, Graph, lookup, object_of, field_of, root, follow, first_value, new_object, set_field}
use Rattle.std.specs.Prelude.{IsSome}
use Rattle.std.specs.Option.{option_map}
use Rattle.gc_words.specs.Word.{value_of, field_value}
use Rattle.gc_words.specs.Image.{Block, block_at, field_at}
use Rattle.gc_words.specs.Space.{SpaceWords, IsSpace, CanPlace, free_in, end_of, with_field_at, with_object}
use Rattle.gc_words.specs.declared.header.Header.{Header}
use Rattle.gc_words.proofs.Public.{field_found, graph_field, graph_placed}
use Rattle.gc_heap.proofs.Public.{Points}
use Rattle.gc_heap.specs.Heap.{HeapWords, IsHeap, graph_in}
use Rattle.gc_words.specs.Image.{objects_of}
use Rattle.gc_model.specs.State.{Replica, new_end}
use Rattle.gc_model.specs.Steps.{with_written}
use Rattle.gc_model.specs.Members.{In}
use Rattle.gc_model.specs.Belonging.{RefersTo, IsSpaceGraph}
use Rattle.gc_model.specs.Carried.{LeadsOnlyTo}
use Rattle.gc_model.proofs.Public.{get_in, in_get, in_map_from, in_push, in_replicate, laid_range, lookup_in, lookup_laid, set_from, with_written_pair, written_entry}
use Rattle.gc_copy.proofs.Public.{heap_graph}
use Rattle.gc_concurrent.specs.Unreachable.{CopiesNothingUnreachable, IsUnreachable, MayBeCopied}
use Rattle.gc_concurrent.specs.Internal.Carrying.{FieldsLeadTo, KeepsUnreachableOut}
use Rattle.gc_concurrent.specs.Internal.Rule.{wants, placed_one, blank_replica, referring}
use Rattle.gc_concurrent.specs.Ends.{Beginning, Mine, Theirs, begun_with, its, one_heap}

-- ---- where a collection begins

steps_on : (objects : List (ℕ × Object)) (v : Option Value) (fields : List ℕ) (i : ℕ) → follow objects v (fields ++ i ∷ []) ≡ follow objects (follow objects v fields) (i ∷ [])
steps_on objects None fields i = refl
steps_on objects (Some v) [] i = refl
steps_on objects (Some v) (j ∷ fields) i = steps_on objects (field_of (object_of objects v) j) fields i

-- all references of a heap lead to what a collection of it may copy
pub begins_kept : (base : HeapWords) → IsHeap base → LeadsOnlyTo (MayBeCopied (begun_with base)) (graph_in base)
begins_kept base h = record { roots = λ v k. let i = in_get v g.roots k in root_kept i.0 v i.1; fields = λ a o k p v l. let i = in_get v o.fields l in field_kept a o k p i.0 v i.1 }
  where
    g : Graph
    g = graph_in base

    laid : IsSpaceGraph base.space.size (free_in base.space) (graph_in base)
    laid = heap_graph base h

    root_kept : (i : ℕ) (v : Value) → slice_get (graph_in base).roots i ≡ Some v → RefersTo (MayBeCopied (begun_with base)) v
    root_kept i Nil e = tt
    root_kept i (Num n) e = tt
    root_kept i (Ref a) e = λ _ lost. lost.1 (i, [], ap (λ o. follow (graph_in base).objects o []) e)

    field_kept : (a : ℕ) (o : Object) → In (a, o) (graph_in base).objects → MayBeCopied (begun_with base) a → (i : ℕ) (v : Value) → slice_get o.fields i ≡ Some v → RefersTo (MayBeCopied (begun_with base)) v
    field_kept a o k allowed i Nil e = tt
    field_kept a o k allowed i (Num n) e = tt
    field_kept a o k allowed i (Ref b) e = λ fresh lost.
        let end = base.space.size - free_in base.space in
        let range = laid_range 1 (graph_in base).objects end (a, o) laid.laid k in
        let found = lookup_laid 1 (graph_in base).objects end a o laid.laid k in
        let high = (h.space).end_high in
        let low = range.1 in
        allowed fresh (
          (let x = low in omega arith),
          λ r. lost.1 (
            r.0,
            r.1 ++ i ∷ [],
            steps_on (graph_in base).objects (slice_get (graph_in base).roots r.0) r.1 i
                ∙ (ap (λ v. follow (graph_in base).objects v (i ∷ [])) r.2
                ∙ (ap (λ (x : Option Object). follow (graph_in base).objects (field_of x i) []) found
                ∙ ap (λ x. follow (graph_in base).objects x []) e)),
          ),
        )

-- what is made later may be copied
pub behind_kept : (base : Beginning) (name : ℕ) → end_of base.heap.space ≤ name → MayBeCopied base name
behind_kept base name later = λ _ lost. let low = lost.0 in omega arith

-- after a reference from an address any object may be
all_kept : (base : Beginning) → base.referred ≡ true → (name : ℕ) → MayBeCopied base name
all_kept base referred name = λ fresh. absurd (true≢false (sym referred ∙ fresh))

all_refer : (P : ℕ → Type 0) → ((name : ℕ) → P name) → (v : Value) → RefersTo P v
all_refer P all Nil = tt
all_refer P all (Num n) = tt
all_refer P all (Ref a) = all a

-- so references lead anywhere
fields_lead : (base : Beginning) → base.referred ≡ true → (objects : List (ℕ × Object)) → FieldsLeadTo (MayBeCopied base) objects
fields_lead base referred objects = λ a o k p v l. all_refer (MayBeCopied base) (all_kept base referred) v

-- ---- fields and roots that are read

field_leads : (P : ℕ → Type 0) (objects : List (ℕ × Object)) (name i : ℕ) (v : Value) → FieldsLeadTo P objects → P name → field_of (lookup objects name) i ≡ Some v → RefersTo P v
field_leads P objects name i v h p e = go (lookup objects name) refl e
  where
    go : (o : Option Object) → lookup objects name ≡ o → field_of o i ≡ Some v → RefersTo P v
    go None k l = absurd cc
    go (Some o) k l = h name o (lookup_in objects name o k) p v (get_in v o.fields i l)

pub target_leads : (P : ℕ → Type 0) (v : Value) (name : ℕ) → RefersTo P v → v ≡ Ref name → P name
target_leads P v name r e = subst (RefersTo P) e r

-- ---- a field is written

in_list_set : {X : Type 0} (z : X) (xs : List X) (i : ℕ) (y : X) → In z (set xs i y) → (y ≡ z) ⊎ In z xs
in_list_set z [] i y h = absurd h
in_list_set z (x ∷ xs) zero y (inl e) = inl e
in_list_set z (x ∷ xs) zero y (inr h) = inr (inr h)
in_list_set z (x ∷ xs) (suc i) y (inl e) = inr (inl e)
in_list_set z (x ∷ xs) (suc i) y (inr h) = ⊎_elim (λ a. inl a) (λ b. inr (inr b)) (in_list_set z xs i y h)

in_written : (name i : ℕ) (v : Value) (e : ℕ × Object) (w : Value) → In w (written_entry name i v e).1.fields → (v ≡ w) ⊎ In w e.1.fields
in_written name i v e w h = grind (arith, common_steps, in_list_set, cases_Bool)

pub set_leads : (P : ℕ → Type 0) (objects : List (ℕ × Object)) (a i : ℕ) (w : Value) → FieldsLeadTo P objects → RefersTo P w → FieldsLeadTo P (set_field objects a i w)
set_leads P objects a i w h r b q k p x l =
    let e = set_from a i w objects (b, q) k in
    ⊎_elim
    (λ same. h b q (subst (λ (z : ℕ × Object). In z objects) same e.1) p x l)
    (λ is.
    let name : e.0.0 ≡ b = ap (λ (z : ℕ × Object). z.0) is in
    let there : In x (written_entry a i w e.0).1.fields = subst (λ (z : ℕ × Object). In x z.1.fields) (sym is) l in
    ⊎_elim (λ y. subst (RefersTo P) y r) (h e.0.0 e.0.1 e.1 (subst P (sym name) p) x) (in_written a i w e.0 x there))
    e.2

-- ---- an object is made

pub push_leads : (P : ℕ → Type 0) (objects : List (ℕ × Object)) (name : ℕ) (raw : Bool) (kind len : ℕ) → FieldsLeadTo P objects → FieldsLeadTo P (objects ++ (name, new_object raw kind len) ∷ [])
push_leads P objects name raw kind len h a o k p v l = ⊎_elim
    (λ x. h a o x p v l)
    (λ x. subst (RefersTo P) (in_replicate v (first_value raw) len (subst (λ (z : ℕ × Object). In v z.1.fields) (sym x) l)) (first_refers raw))
    (in_push (a, o) (name, new_object raw kind len) objects k)
  where
    first_refers : (b : Bool) → RefersTo P (first_value b)
    first_refers true = tt
    first_refers false = tt

-- ---- a root is written

root_leads : (P : ℕ → Type 0) (roots : List ℕ) (place word : ℕ) → ((v : Value) → In v (map value_of roots) → RefersTo P v) → RefersTo P (value_of word) → (v : Value) → In v (map value_of (set roots place word)) → RefersTo P v
root_leads P [] place word h r v k = absurd k
root_leads P (x ∷ xs) zero word h r v (inl e) = subst (RefersTo P) e r
root_leads P (x ∷ xs) zero word h r v (inr k) = h v (inr k)
root_leads P (x ∷ xs) (suc place) word h r v (inl e) = h v (inl e)
root_leads P (x ∷ xs) (suc place) word h r v (inr k) = root_leads P xs place word (λ w l. h w (inr l)) r v k

-- ---- the mutator's heap

-- a root leads where all do
pub root_refers_to : (P : ℕ → Type 0) (g : Graph) (p : ℕ) → LeadsOnlyTo P g → RefersTo P (root g p)
root_refers_to P g p h = grind (arith, common_steps, get_in)

-- the heap with a root written
pub rooted_leads : (P : ℕ → Type 0) (space : SpaceWords) (roots : List ℕ) (place word : ℕ) → LeadsOnlyTo P (graph_in (one_heap space roots)) → RefersTo P (value_of word) → LeadsOnlyTo P (graph_in (one_heap space (set roots place word)))
rooted_leads P space roots place word h r = record { roots = root_leads P roots place word h.roots r; fields = h.fields }

-- the heap with a field written
pub wrote_leads : (P : ℕ → Type 0) (space : SpaceWords) (roots : List ℕ) (a i w : ℕ) (b : Block) → IsSpace space → IsSome (field_at space.words a i) → block_at space.words a ≡ Some b
    → LeadsOnlyTo P (graph_in (one_heap space roots)) → RefersTo P (field_value b.header w) → LeadsOnlyTo P (graph_in (one_heap (with_field_at space a i w) roots))
wrote_leads P space roots a i w b is has found h r = record {
  roots = h.roots;
  fields = subst (FieldsLeadTo P) (sym (ap (λ (g : Graph). g.objects) (graph_field space a i w b [] is has found))) (set_leads P (objects_of space.words) a i (field_value b.header w) h.fields r);
}

-- the heap with an object made, to which a root refers
pub made_leads : (P : ℕ → Type 0) (space : SpaceWords) (roots : List ℕ) (place word : ℕ) (header : Header) → CanPlace space header
    → LeadsOnlyTo P (graph_in (one_heap space roots)) → RefersTo P (value_of word) → LeadsOnlyTo P (graph_in (one_heap (with_object space header) (set roots place word)))
made_leads P space roots place word header can h r = record {
  roots = root_leads P roots place word h.roots r;
  fields = subst (FieldsLeadTo P) (sym (ap (λ (g : Graph). g.objects) (graph_placed space header [] can))) (push_leads P (objects_of space.words) (end_of space) header.raw header.kind header.len h.fields);
}

-- the word that was read of a field of such an object
pub read_leads : (P : ℕ → Type 0) (h : HeapWords) (s a i w : ℕ) (p : Points h s a) → field_at h.space.words a i ≡ Some w → LeadsOnlyTo P (graph_in h) → RefersTo P (field_value p.block.header w)
read_leads P h s a i w p read leads = field_leads P (objects_of h.space.words) a i (field_value p.block.header w) leads.fields
    (target_leads P (root (graph_in h) s) a (root_refers_to P (graph_in h) s leads) p.target)
    (field_found h.space.words a i p.block p.found ∙ ap (option_map (field_value p.block.header)) read)

-- ---- what both ends keep

original_stays : (name i : ℕ) (v : Value) (r : Replica) → (with_written name i v r).original ≡ r.original
original_stays name i v r = ap (λ (p : ℕ × ℕ). p.0) (with_written_pair name i v r)

module _ (m : Mine) (t : Theirs) (k : KeepsUnreachableOut m t) where
  -- the collector's view changes, but not what it copies and wants
  pub kept_still : (t' : Theirs) → t'.base ≡ t.base → t'.replicas ≡ t.replicas → t'.wanted ≡ t.wanted → KeepsUnreachableOut m t'
  kept_still t' base same wanted = record {
    begun = base ∙ k.begun;
    behind = k.behind;
    fields = k.fields;
    copied = λ r l. k.copied r (subst (In r) same l);
    wanted = λ a l. k.wanted a (subst (In a) wanted l);
  }

  -- a field of a replica follows
  pub kept_brought : (name i : ℕ) (v : Value) (t' : Theirs) → t'.base ≡ t.base → t'.replicas ≡ map (with_written name i v) t.replicas → t'.wanted ≡ t.wanted → KeepsUnreachableOut m t'
  kept_brought name i v t' base same wanted = record {
    begun = base ∙ k.begun;
    behind = k.behind;
    fields = k.fields;
    copied = λ r l.
        let q = in_map_from (with_written name i v) r t.replicas (subst (In r) same l) in
        subst (MayBeCopied m.base) (sym (original_stays name i v q.0) ∙ ap (λ (x : Replica). x.original) q.2) (k.copied q.0 q.1);
    wanted = λ a l. k.wanted a (subst (In a) wanted l);
  }

  -- an object that may be copied is wanted
  pub kept_wants : (name : ℕ) → MayBeCopied m.base name → KeepsUnreachableOut m (wants name t)
  kept_wants name allowed = record { begun = k.begun; behind = k.behind; fields = k.fields; copied = k.copied; wanted = λ a l. ⊎_elim (λ (e : name ≡ a). subst (MayBeCopied m.base) e allowed) (λ (e : ⊥). absurd e) l }

  -- an object that is wanted is copied
  pub kept_placed : (name : ℕ) (o : Object) → In name t.wanted → KeepsUnreachableOut m (placed_one name o t)
  kept_placed name o there = record {
    begun = k.begun;
    behind = k.behind;
    fields = k.fields;
    copied = λ r l. ⊎_elim (k.copied r) (λ e. subst (λ (q : Replica). MayBeCopied m.base q.original) e (k.wanted name there)) (in_push r (blank_replica name (new_end (its t)) o) t.replicas l);
    wanted = λ a l. absurd l;
  }

  -- the target of a field of a replica may be copied
  pub kept_target : (q : Replica) (i : ℕ) (v : Value) (name : ℕ) → In q t.replicas → field_of (lookup (objects_of m.space.words) q.original) i ≡ Some v → v ≡ Ref name → MayBeCopied m.base name
  kept_target q i v name l is e =
      target_leads (MayBeCopied m.base) v name (field_leads (MayBeCopied m.base) (objects_of m.space.words) q.original i v k.fields (k.copied q l) is) e

  -- the mutator's objects change, and lie no less far
  pub kept_mine : (m' : Mine) → m'.base ≡ m.base → end_of m.space ≤ end_of m'.space → FieldsLeadTo (MayBeCopied m.base) (objects_of m'.space.words) → KeepsUnreachableOut m' t
  kept_mine m' base longer fields = record {
    begun = k.begun ∙ ap (λ (b : Beginning). b.heap) (sym base);
    behind = (let b = k.behind in let e = ap (λ (b : Beginning). end_of b.heap.space) base in omega arith);
    fields = subst (λ (b : Beginning). FieldsLeadTo (MayBeCopied b) (objects_of m'.space.words)) (sym base) fields;
    copied = λ r l. subst (λ (b : Beginning). MayBeCopied b r.original) (sym base) (k.copied r l);
    wanted = λ a l. subst (λ (b : Beginning). MayBeCopied b a) (sym base) (k.wanted a l);
  }

  -- a reference was made from an address alone
  pub kept_referring : KeepsUnreachableOut (referring m) t
  kept_referring = record {
    begun = k.begun;
    behind = k.behind;
    fields = fields_lead (referring m).base refl (objects_of m.space.words);
    copied = λ r l. all_kept (referring m).base refl r.original;
    wanted = λ a l. all_kept (referring m).base refl a;
  }

  -- without one, nothing is copied that was unreachable when the collection began
  pub kept_out : m.base.referred ≡ false → CopiesNothingUnreachable t
  kept_out fresh r l lost = k.copied r l fresh (subst (λ (b : HeapWords). IsUnreachable b r.original) k.begun lost)
