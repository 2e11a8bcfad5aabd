-- A put of a value that no root has to hold: its reply, and what is known of the roots after it.
use Rattle.std.proofs.lemmas.Grind.{common_steps}
use Rattle.std.proofs.lemmas.Option.{slice_get-get_or, slice_get_past}
use Rattle.std.proofs.lemmas.Bool.{cases_Bool, cases_lt}
use Rattle.std.proofs.Common.{◌≡◌, inl, inr, ℕ, zero, suc, ◌<◌, ◌≤◌, Bool, true, false, List, [], ◌∷◌, ◌++◌, length, get_or, map, Option, Some, None, refl, sym, ap, ◌∙◌, arith}
use Rattle.std.specs.Prelude.{IfSome, ◌&&◌, not, if◌then◌else◌, slice_get}
use Rattle.std.specs.Option.{unwrap_or}
use Rattle.gc_graph.specs.Graph.{Value, Nil, Num, Ref, Object, Graph, field_of, names_of, object_of, root, set_field}
use Rattle.gc_graph.specs.Machine.{is_number, put_field}
use Rattle.gc_graph.specs.Slots.{SlotName}
use Rattle.gc_graph.specs.declared.command.Op.TheVariants.{Put}
use Rattle.gc_graph.specs.declared.reply.Reply.{Reply}
use Rattle.gc_graph.specs.declared.reply.Reply.TheVariants as replies
use Rattle.gc_graph.proofs.Public.{in_place}
use Rattle.gc_heap.specs.Places.{root_at}
use Rattle.gc_model.specs.State.{Collection, State, heap_end}
use Rattle.gc_model.specs.Staying.{HasReplicaOf}
use Rattle.gc_model.specs.Belonging.{IsSpaceGraph}
use Rattle.gc_model.specs.Steps.{logged, mutate, written}
use Rattle.gc_copy.specs.Twins.{IsTwin}
use Rattle.gc_roots.specs.Twins.{twin_at}
use Rattle.gc_collected.specs.Copying.{object_in}
use Rattle.gc_collected.specs.Values.{put_value_step, with_roots}
use Rattle.gc_collected.specs.declared.known.KnownRoots.{KnownRoots}
use Rattle.gc_collected.specs.Internal.KnownRoots.{KnowsRoots}
use Rattle.gc_collected.proofs.ByPlace.{absent, same_put}
use Rattle.gc_collected.proofs.Together.{logged_none}

-- ---- a put reads two roots and writes none

-- what a put of a value leaves of a graph, given the value of the root with the object
abbrev pub given : Graph → Value → ℕ → Value → Reply × Graph
given g w i v = let o = object_of g.objects w in put_field g w o (field_of o i) i v

-- the field that it writes
abbrev pub entries : Value → ℕ → Reply → List (ℕ × ℕ)
entries w i replies.Done = map (λ name. (name, i)) (names_of w)
entries w i reply = []

-- the roots stay beside
abbrev beside : List Value → Reply × Graph → Reply × Graph
beside rs x = (x.0, record x.1 { roots = rs })

put_beside : (g : Graph) (rs : List Value) (w : Value) (o : Option Object) (before : Option Value) (i : ℕ) (v : Value) → put_field (record g { roots = rs }) w o before i v ≡ beside rs (put_field g w o before i v)
put_beside g rs Nil o before i v = refl
put_beside g rs (Num n) o before i v = refl
put_beside g rs (Ref a) None before i v = refl
put_beside g rs (Ref a) (Some object) None i v = refl
put_beside g rs (Ref a) (Some object) (Some b) i v = grind (arith, common_steps, cases_Bool)

wrote : (g : Graph) (m p i : ℕ) (q : SlotName) (w : Value) (reply : Reply) → root g p ≡ w → written g m (Put (root_at p) i q) reply ≡ entries w i reply
wrote g m p i q w replies.Full is = refl
wrote g m p i q w replies.Made is = refl
wrote g m p i q w replies.Done is = ap (λ v. map (λ (name : ℕ). (name, i)) (names_of v)) is
wrote g m p i q w replies.NoObject is = refl
wrote g m p i q w replies.NoField is = refl
wrote g m p i q w replies.NoNumber is = refl
wrote g m p i q w (replies.Saw view) is = refl
wrote g m p i q w replies.Yes is = refl
wrote g m p i q w replies.No is = refl

-- the state after a put into the object of a root with the value w
abbrev pub after : State → List Value → ℕ → Value → ℕ → Value → Reply × State
after s rs m w i v =
    let next = given s.heap.graph w i v in
    (next.0, record s { heap = record { graph = record next.1 { roots = rs }; free = s.heap.free }; collection = logged s.collection m (entries w i next.0) })

-- what a state becomes by a reply and a graph
abbrev taking : State → ℕ → List (ℕ × ℕ) → Reply × Graph → Reply × State
taking s m fields x = (x.0, record s { heap = record { graph = x.1; free = s.heap.free }; collection = logged s.collection m fields })

pub put_at : (s : State) (rs : List Value) (m p q i : ℕ) (w v : Value) → root (record s.heap.graph { roots = rs }) p ≡ w → root (record s.heap.graph { roots = rs }) q ≡ v
    → mutate (with_roots s rs) m (Put (root_at p) i (root_at q)) ≡ after s rs m w i v
put_at s rs m p q i w v one other =
    let g : Graph = record s.heap.graph { roots = rs } in
    let op = Put (root_at p) i (root_at q) in
    ap (λ x. (x.0, record s { heap = x.1; collection = logged s.collection m (written g m op x.0) })) (in_place (with_roots s rs).heap m op (heap_end (with_roots s rs)) (λ none. none))
    ∙ ((λ k. taking s m (written g m op (given g (one k) i (other k)).0) (given g (one k) i (other k)))
    ∙ (ap (λ x. taking s m (written g m op x.0) x) (put_beside s.heap.graph rs w (object_of g.objects w) (field_of (object_of g.objects w) i) i v)
    ∙ ap (λ es. taking s m es (beside rs (given s.heap.graph w i v))) (wrote g m p i (root_at q) w (given s.heap.graph w i v).0 one)))

-- ---- roots of a list

pub root_before : (vs : List Value) (p : ℕ) (v : Value) → p < length vs → unwrap_or (slice_get (vs ++ v ∷ []) p) Nil ≡ unwrap_or (slice_get vs p) Nil
root_before [] p v less = absurd (omega (arith, less))
root_before (x ∷ vs) zero v less = refl
root_before (x ∷ vs) (suc p) v less = root_before vs p v (omega (arith, less))

pub root_last : (vs : List Value) (v : Value) → unwrap_or (slice_get (vs ++ v ∷ []) (length vs)) Nil ≡ v
root_last [] v = refl
root_last (x ∷ vs) v = root_last vs v

-- ---- what the put replies

value_after : (s : State) (m p i : ℕ) (v : Value) → p < length s.heap.graph.roots → put_value_step s m p i v ≡ after s s.heap.graph.roots m (root s.heap.graph p) i v
value_after s m p i v within =
    let rs = s.heap.graph.roots in
    ap (λ (x : Reply × State). (x.0, with_roots x.1 rs)) (put_at s (rs ++ v ∷ []) m p (length rs) i (root s.heap.graph p) v (root_before rs p v within) (root_last rs v))

-- a reply by which nothing is written
still : (s : State) (m p i : ℕ) (v : Value) (reply : Reply) → p < length s.heap.graph.roots → given s.heap.graph (root s.heap.graph p) i v ≡ (reply, s.heap.graph) → entries (root s.heap.graph p) i reply ≡ []
    → put_value_step s m p i v ≡ (reply, s)
still s m p i v reply within is none =
    let g = s.heap.graph in
    let w = root g p in
    value_after s m p i v within
    ∙ ((λ k. ((is k).0, record s { heap = record { graph = record (is k).1 { roots = g.roots }; free = s.heap.free }; collection = logged s.collection m (entries w i (is k).0) }))
    ∙ ap (λ (o : Option Collection). (reply, record s { collection = o })) (ap (logged s.collection m) none ∙ logged_none s.collection m))

given_none : (g : Graph) (w : Value) (i : ℕ) (v : Value) → None ≡ object_of g.objects w → given g w i v ≡ (replies.NoObject, g)
given_none g Nil i v is = refl
given_none g (Num n) i v is = refl
given_none g (Ref a) i v is = λ k. let o = sym is k in put_field g (Ref a) o (field_of o i) i v

-- of an object that is there
given_some : (g : Graph) (w : Value) (o : Object) (found : Option Value) (i : ℕ) (v : Value) → Some o ≡ object_of g.objects w → slice_get o.fields i ≡ found → (a : ℕ) × (given g w i v ≡ put_field g (Ref a) (Some o) found i v)
given_some g Nil o found i v is at = absurd (let no : Some o ≡ None = is in cc)
given_some g (Num n) o found i v is at = absurd (let no : Some o ≡ None = is in cc)
given_some g (Ref a) o found i v is at = (a, (λ k. let x = sym is k in put_field g (Ref a) x (field_of x i) i v) ∙ ap (λ f. put_field g (Ref a) (Some o) f i v) at)

pub no_object : (s : State) (m p i : ℕ) (v : Value) → p < length s.heap.graph.roots → None ≡ object_in s.heap.graph (root_at p) 0 → put_value_step s m p i v ≡ (replies.NoObject, s)
no_object s m p i v within is = still s m p i v replies.NoObject within (given_none s.heap.graph (root s.heap.graph p) i v is) refl

pub no_field : (s : State) (m p i : ℕ) (v : Value) (o : Object) → p < length s.heap.graph.roots → Some o ≡ object_in s.heap.graph (root_at p) 0 → length o.fields ≤ i → put_value_step s m p i v ≡ (replies.NoField, s)
no_field s m p i v o within is short = still s m p i v replies.NoField within (given_some s.heap.graph (root s.heap.graph p) o None i v is (slice_get_past o.fields i short)).1 refl

pub no_number : (s : State) (m p i : ℕ) (v : Value) (o : Object) → p < length s.heap.graph.roots → Some o ≡ object_in s.heap.graph (root_at p) 0 → i < length o.fields → o.raw && not (is_number v) ≡ true
    → put_value_step s m p i v ≡ (replies.NoNumber, s)
no_number s m p i v o within is less refused =
    let g = s.heap.graph in
    let found = given_some g (root g p) o (Some (get_or o.fields i Nil)) i v is (slice_get-get_or o.fields i Nil less) in
    still s m p i v replies.NoNumber within (found.1 ∙ ap (λ (b : Bool). if b then (replies.NoNumber, g) else (replies.Done, record g { objects = set_field g.objects found.0 i v })) refused) refl

pub put_done : (s : State) (m p i : ℕ) (v : Value) (o : Object) → p < length s.heap.graph.roots → Some o ≡ object_in s.heap.graph (root_at p) 0 → i < length o.fields → o.raw && not (is_number v) ≡ false
    → (put_value_step s m p i v).0 ≡ replies.Done
put_done s m p i v o within is less taken =
    let g = s.heap.graph in
    let found = given_some g (root g p) o (Some (get_or o.fields i Nil)) i v is (slice_get-get_or o.fields i Nil less) in
    ap (λ (x : Reply × State). x.0) (value_after s m p i v within)
    ∙ (ap (λ (x : Reply × Graph). x.0) found.1 ∙ ap (λ (b : Bool). let r : Reply × Graph = if b then (replies.NoNumber, g) else (replies.Done, record g { objects = set_field g.objects found.0 i v }) in r.0) taken)

-- ---- what is known of the roots

still_has : (o : Option Collection) (m : ℕ) (fields : List (ℕ × ℕ)) (v : Value) → IfSome o (λ c. HasReplicaOf c v) → IfSome (logged o m fields) (λ c. HasReplicaOf c v)
still_has None m fields v h = tt
still_has (Some c) m fields Nil h = tt
still_has (Some c) m fields (Num n) h = tt
still_has (Some c) m fields (Ref a) h = h

still_twin : (o : Option Collection) (m : ℕ) (fields : List (ℕ × ℕ)) (v : Value) (word : ℕ) → IfSome o (λ c. IsTwin c v word) → IfSome (logged o m fields) (λ c. IsTwin c v word)
still_twin None m fields v word h = tt
still_twin (Some c) m fields Nil word h = record { known = tt; word_is = h.word_is }
still_twin (Some c) m fields (Num n) word h = record { known = tt; word_is = h.word_is }
still_twin (Some c) m fields (Ref a) word h = record { known = h.known; word_is = h.word_is }

pub value_known : (known : KnownRoots) (s : State) (m p i : ℕ) (v : Value) → KnowsRoots known s → KnowsRoots known (put_value_step s m p i v).1
value_known known s m p i v k =
    let next = put_value_step s m p i v in
    let rs = s.heap.graph.roots in
    let fields = written (with_roots s (rs ++ v ∷ [])).heap.graph m (Put (root_at p) i (root_at (length rs))) next.0 in
    record {
      slots_high = k.slots_high;
      slots = λ q less. still_has s.collection m fields (root s.heap.graph q) (k.slots q less);
      keeps = record {
        counted = k.keeps.counted;
        front_high = k.keeps.front_high;
        used_high = k.keeps.used_high;
        stale_high = k.keeps.stale_high;
        unused = k.keeps.unused;
        clean = k.keeps.clean;
        right = λ q less none. still_twin s.collection m fields (root s.heap.graph _) (twin_at s known.twins q) (k.keeps.right q less none);
      };
    }

-- ---- a field that no object has

pub value_numbered : (s : State) (m p i n : ℕ) (v : Value) → IsSpaceGraph s.size s.heap.free s.heap.graph → (i ≤ 65535 → n ≡ i) → (65535 < i → n ≡ 65535) → put_value_step s m p n v ≡ put_value_step s m p i v
value_numbered s m p i n v graph small large =
    let rs = s.heap.graph.roots in
    let more = with_roots s (rs ++ v ∷ []) in
    let one = root_at p in
    let other = root_at (length rs) in
    ap (λ (x : Reply × State). (x.0, with_roots x.1 rs)) (elim (cases_lt 65535 i) [
      | inl high ↦ (let is = large high in same_put more m n i one other (absent s.size s.heap.free s.heap.graph (root more.heap.graph p) n graph (omega (arith, is))) (absent s.size s.heap.free s.heap.graph (root more.heap.graph p) i graph (omega (arith, high))))
      | inr low ↦ ap (λ k. mutate more m (Put one k other)) (small low)
    ])
