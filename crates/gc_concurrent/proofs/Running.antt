-- A run of commands on a machine, and on heaps whose graphs match the machine's.
use Rattle.std.proofs.lemmas.Grind.{common_steps}
use Rattle.std.proofs.Common.{◌≡◌, ℕ, suc, zero, ◌+◌, ◌-◌, ◌<◌, ◌≤◌, Bool, true, false, cond, not, ◌&&◌, ◌⊎◌, inl, inr, List, [], ◌∷◌, ◌++◌, length, take, drop, Option, Some, None, get_or, refl, sym, ◌∙◌, ap, subst, arith, append_assoc, append-nil, length-append}
use Rattle.std.proofs.lemmas.List.{length-map}
use Rattle.std.specs.Prelude.{nat_lt}
use Rattle.std.specs.List.{list_all, AllZip}
use Rattle.std.proofs.lemmas.Bool.{and_parts, eq-eqb}
use Rattle.std.proofs.Math.Seq.{take-append_seam, take-length, drop-cons, drop-length}
use Rattle.gc_graph.specs.Graph.{Graph, Object, Value, Nil, Num, Ref, lookup, root, set_field, IsUnused, fresh_name}
use Rattle.gc_graph.specs.Machine.{Roomy, step, words_taken, roomy_step, get_field, put_field, is_number, same}
use Rattle.gc_graph.specs.Slots.{place}
use Rattle.gc_graph.specs.Runs.{replies, is_full, HasRoom}
use Rattle.gc_graph.specs.Correspond.{Corresponding, correspond, EqualFieldByField}
use Rattle.gc_graph.proofs.Public.{Alike, nils, numbers, partners, without_objects, ObjectsAlike, Matched, AlikeAfter, step_alike, matched_of, matched_itself, own_pairs, fresh_unused, composed, joined}
use Rattle.gc_graph.specs.declared.command.Op.{Op}
use Rattle.gc_graph.specs.declared.command.Op.TheVariants as ops
use Rattle.gc_graph.specs.declared.reply.Reply.{Reply}
use Rattle.gc_graph.specs.declared.reply.Reply.TheVariants.{Full, NoNumber, Done, Yes, No}
use Rattle.gc_words.specs.Space.{end_of, free_in}
use Rattle.gc_heap.specs.Heap.{HeapWords, IsHeap, graph_in, roomy_in}
use Rattle.gc_model.proofs.Public.{end_unused, lookup_in, lookup_laid}
use Rattle.gc_model.specs.Members.{In}
use Rattle.gc_model.specs.Belonging.{IsNamed, RefersTo, IsSpaceGraph}
use Rattle.gc_copy.proofs.Public.{heap_graph}
use Rattle.gc_concurrent.specs.Machines.{Does, DoesAll}
use Rattle.gc_concurrent.specs.Heaps.{GoesOnIn}
use Rattle.gc_concurrent.specs.Law.{by_one, machine_after, Shows, AreReplies, AreAllReplies, HasNoFull, FindsNoRoom, EndsAt, ShowsAfter, Serves, Ran}

-- ---- one step

abbrev plain_step : Roomy → ℕ → Op → ℕ → Reply × Roomy
plain_step s m op name = let next = step s.graph m op name in (next.0, record { graph = next.1; free = s.free - words_taken op })

roomy_is_plain : (s : Roomy) (m : ℕ) (op : Op) (name : ℕ) → not (is_full (roomy_step s m op name).0) ≡ true → roomy_step s m op name ≡ plain_step s m op name
roomy_is_plain s m op name e = grind (arith, common_steps)

-- the end of a heap is the name of nothing in it
end_free : (heap : HeapWords) → IsHeap heap → IsUnused (graph_in heap) (end_of heap.space)
end_free heap is =
    let low : 1 ≤ heap.space.size = (is.space).size_low in
    let high : end_of heap.space ≤ heap.space.size = (is.space).end_high in
    let e : heap.space.size - free_in heap.space ≡ end_of heap.space = omega arith in
    subst (IsUnused (graph_in heap)) e (end_unused heap.space.size (free_in heap.space) (graph_in heap) (heap_graph heap is))

-- ---- room

abbrev is_fine : Reply → Bool
is_fine reply = not (is_full reply)

room_less : (xs : List Reply) (n : ℕ) → list_all is_fine (take (suc n) xs) ≡ true → list_all is_fine (take n xs) ≡ true
room_less xs zero e = refl
room_less [] (suc n) e = refl
room_less (x ∷ xs) (suc n) e = grind (arith, common_steps, room_less xs n)

room_here : (told : List Reply) (r : Reply) (more : List Reply) → list_all is_fine (take (suc (length told)) (told ++ r ∷ more)) ≡ true → is_fine r ≡ true
room_here [] r more e = grind (arith, common_steps)
room_here (x ∷ told) r more e = room_here told r more ((and_parts _ _ e).1)

-- ---- a run

-- The machine that got these replies stands at t, whose graph matches the heap's, and the rest of its replies are those of t.
pub record Stands (s : Roomy) (commands : List (ℕ × Op)) (h : Graph) (rest : List (ℕ × Op)) (told : List Reply) : Type 0 where
  pub t : Roomy
  pub pairs : List (ℕ × ℕ)
  pub matched : Matched pairs t.graph h
  pub same : replies s commands ≡ told ++ replies t rest
  pub there : (m : ℕ) → machine_after s (length told + m) commands ≡ machine_after t m rest

abbrev pub Going : Graph → List (ℕ × Op) → Graph → List (ℕ × Op) → List Reply → Type 0
Going first commands h rest told = (s : Roomy) (pairs : List (ℕ × ℕ)) → Matched pairs s.graph first → HasRoom s commands (length told) → Stands s commands h rest told

pub going_first : (g : Graph) (commands : List (ℕ × Op)) → Going g commands g commands []
going_first g commands s pairs matched room = record {
  t = s;
  pairs = pairs;
  matched = matched;
  same = refl;
  there = λ m. let e : 0 + m ≡ m = omega arith in ap (λ k. machine_after s k commands) e;
}

longer : (told : List Reply) (reply : Reply) → length (told ++ reply ∷ []) ≡ suc (length told)
longer told reply = grind (arith, common_steps, length-append)

module _ (first : Graph) (commands : List (ℕ × Op)) (old mid : HeapWords) (h : Graph) (op : Op) (rest : List (ℕ × Op)) (told : List Reply) (reply : Reply)
    (is : IsHeap old) (going : Going first commands (graph_in old) ((0, op) ∷ rest) told) (does : Does old op reply mid) (fine : is_fine reply ≡ true)
    (links : List (ℕ × ℕ)) (follows : Matched links (graph_in mid) h) where
  heap_step : roomy_step (roomy_in old) 0 op (end_of old.space) ≡ plain_step (roomy_in old) 0 op (end_of old.space)
  heap_step = roomy_is_plain (roomy_in old) 0 op (end_of old.space) (subst (λ x. is_fine x.0 ≡ true) (sym does) fine)

  heap_did : plain_step (roomy_in old) 0 op (end_of old.space) ≡ (reply, roomy_in mid)
  heap_did = sym heap_step ∙ does

  -- where the machine stands at t before the command
  module _ (s : Roomy) (room : HasRoom s commands (suc (length told))) (at : Stands s commands (graph_in old) ((0, op) ∷ rest) told) where
    abbrev next : Reply × Roomy
    next = roomy_step at.t 0 op (fresh_name (at.t).graph)

    has : is_fine next.0 ≡ true
    has = room_here told next.0 (replies next.1 rest) (subst (λ xs. list_all is_fine (take (suc (length told)) xs) ≡ true) at.same room)

    machine_step : next ≡ plain_step at.t 0 op (fresh_name (at.t).graph)
    machine_step = roomy_is_plain at.t 0 op (fresh_name (at.t).graph) has

    stepped : AlikeAfter (step (at.t).graph 0 op (fresh_name (at.t).graph)) (step (graph_in old) 0 op (end_of old.space))
    stepped = step_alike at.pairs (at.t).graph (graph_in old) at.matched 0 op (fresh_name (at.t).graph) (end_of old.space) (fresh_unused (at.t).graph) (end_free old is)

    replied : next.0 ≡ reply
    replied = ap (λ x. x.0) machine_step ∙ stepped.0 ∙ ap (λ x. x.0) heap_did

    matched_mid : Matched stepped.1 next.1.graph (graph_in mid)
    matched_mid = subst (λ x. Matched stepped.1 x.1.graph (graph_in mid)) (sym machine_step)
        (subst (λ x. Matched stepped.1 (step (at.t).graph 0 op (fresh_name (at.t).graph)).1 x.1.graph) heap_did stepped.2)

    told_more : replies s commands ≡ (told ++ reply ∷ []) ++ replies next.1 rest
    told_more = at.same ∙ ap (λ r. told ++ r ∷ replies next.1 rest) replied ∙ sym (append_assoc told (reply ∷ []) (replies next.1 rest))

    there_more : (m : ℕ) → machine_after s (length (told ++ reply ∷ []) + m) commands ≡ machine_after next.1 m rest
    there_more m =
        let l : length (told ++ reply ∷ []) ≡ suc (length told) = longer told reply in
        let e : length (told ++ reply ∷ []) + m ≡ length told + suc m = omega arith in
        ap (λ k. machine_after s k commands) e ∙ at.there (suc m)

    stands_more : Stands s commands h rest (told ++ reply ∷ [])
    stands_more = record {
      t = next.1;
      pairs = joined stepped.1 links;
      matched = composed stepped.1 links next.1.graph (graph_in mid) h matched_mid follows;
      same = told_more;
      there = there_more;
    }

  going_on : Going first commands h rest (told ++ reply ∷ [])
  going_on s pairs matched room =
      let room' : HasRoom s commands (suc (length told)) = subst (HasRoom s commands) (longer told reply) room in
      stands_more s room' (going s pairs matched (room_less (replies s commands) (length told) room'))

-- ---- heaps that follow, and graphs that are shown

follows_matched : (mid new : HeapWords) → GoesOnIn mid new → (links : List (ℕ × ℕ)) × Matched links (graph_in mid) (graph_in new)
follows_matched mid new (inl e) = (own_pairs (graph_in mid).objects, subst (λ heap. Matched (own_pairs (graph_in mid).objects) (graph_in mid) (graph_in heap)) (sym e) (matched_itself (graph_in mid)))
follows_matched mid new (inr c) = (c.0, matched_of c.0 (graph_in mid) (graph_in new) c.1)

shown : (g : Graph) (heap : HeapWords) → Shows g heap → (pairs : List (ℕ × ℕ)) × Matched pairs g (graph_in heap)
shown g heap (inl e) = (own_pairs (graph_in heap).objects, subst (λ x. Matched (own_pairs (graph_in heap).objects) x (graph_in heap)) (sym e) (matched_itself (graph_in heap)))
shown g heap (inr c) = (c.0, matched_of c.0 g (graph_in heap) c.1)

next_op : (commands : List Op) (i : ℕ) (op : Op) → i < length commands → op ≡ get_or commands i op → drop i commands ≡ op ∷ drop (i + 1) commands
next_op commands i op lt e =
    let k : suc i ≡ i + 1 = omega arith in
    drop-cons commands i op lt ∙ ap (λ o. o ∷ drop (suc i) commands) (sym e) ∙ ap (λ n. op ∷ drop n commands) k

fine_is : (reply : Reply) → is_full reply ≡ false → is_fine reply ≡ true
fine_is reply e = ap not e

-- one turn of the loop: a command, and a safepoint
pub going_next : (first : Graph) (all : List (ℕ × Op)) (old mid new : HeapWords) (commands : List Op) (i : ℕ) (told : List Reply) (op : Op) (reply : Reply) → IsHeap old
    → i < length commands → op ≡ get_or commands i op → Going first all (graph_in old) (by_one (drop i commands)) told → Does old op reply mid → is_full reply ≡ false → GoesOnIn mid new
    → Going first all (graph_in new) (by_one (drop (i + 1) commands)) (told ++ reply ∷ [])
going_next first all old mid new commands i told op reply is lt e going does fine follows =
    let links = follows_matched mid new follows in
    going_on first all old mid (graph_in new) op (by_one (drop (i + 1) commands)) told reply is
    (subst (λ rest. Going first all (graph_in old) (by_one rest) told) (next_op commands i op lt e) going) does (fine_is reply fine) links.0 links.1

pub fine_push : (told : List Reply) (reply : Reply) → HasNoFull told → is_full reply ≡ false → HasNoFull (told ++ reply ∷ [])
fine_push [] reply h e = grind (arith, common_steps)
fine_push (x ∷ told) reply h e = grind (arith, common_steps, fine_push told reply)

pub counted : (told : List Reply) (reply : Reply) (i : ℕ) → length told ≡ i → length (told ++ reply ∷ []) ≡ i + 1
counted told reply i e = let l : length (told ++ reply ∷ []) ≡ suc (length told) = longer told reply in omega arith

-- ---- where a run ends

got_fine : (g : Graph) (d : ℕ) (o : Option Object) (v : Option Value) → is_full (get_field g d o v).0 ≡ false
got_fine g d None v = refl
got_fine g d (Some o) None = refl
got_fine g d (Some o) (Some v) = refl

chosen : (b : Bool) (x y : Reply × Graph) → is_full x.0 ≡ false → is_full y.0 ≡ false → is_full (cond b x y).0 ≡ false
chosen true x y e f = e
chosen false x y e f = f

put_fine : (g : Graph) (t : Value) (o : Option Object) (v : Option Value) (i : ℕ) (w : Value) → is_full (put_field g t o v i w).0 ≡ false
put_fine g Nil o v i w = refl
put_fine g (Num n) o v i w = refl
put_fine g (Ref a) None v i w = refl
put_fine g (Ref a) (Some o) None i w = refl
put_fine g (Ref a) (Some o) (Some v) i w = chosen (o.raw && not (is_number w)) (NoNumber, g) (Done, record g { objects = set_field g.objects a i w }) refl refl

yes_or_no : (b : Bool) (x y : Reply) → is_full x ≡ false → is_full y ≡ false → is_full (cond b x y) ≡ false
yes_or_no true x y e f = e
yes_or_no false x y e f = f

step_fine : (g : Graph) (m : ℕ) (op : Op) (name : ℕ) → is_full (step g m op name).0 ≡ false
step_fine g m (ops.New d kind len) name = refl
step_fine g m (ops.NewRaw d kind len) name = refl
step_fine g m (ops.Num d n) name = refl
step_fine g m (ops.Nil d) name = refl
step_fine g m (ops.Move d s) name = refl
step_fine g m (ops.Get d s i) name = got_fine g _ _ _
step_fine g m (ops.Put s i t) name = put_fine g _ _ _ i _
step_fine g m (ops.Same s t) name = yes_or_no (same g.objects (root g (place s m)) (root g (place t m))) Yes No refl refl
step_fine g m (ops.Look s) name = refl

full_is : (b : Bool) (s t : Roomy) (x : Reply × Roomy) (reply : Reply) → is_full x.0 ≡ false → cond b (Full, s) x ≡ (reply, t) → is_full reply ≡ true → (b ≡ true) × (s ≡ t)
full_is true s t x reply f e y = (refl, ap (λ p. p.1) e)
full_is false s t x reply f e y = absurd (let no : false ≡ true = sym f ∙ ap (λ p. is_full p.0) e ∙ y in cc)

-- `Full` changes nothing, and there is no room
pub no_room : (old new : HeapWords) (op : Op) (reply : Reply) → Does old op reply new → is_full reply ≡ true → (roomy_in old ≡ roomy_in new) × ((roomy_in new).free < words_taken op)
no_room old new op reply does y =
    let p : (nat_lt (roomy_in old).free (words_taken op) ≡ true) × (roomy_in old ≡ roomy_in new)
    = full_is (nat_lt (roomy_in old).free (words_taken op)) (roomy_in old) (roomy_in new) (plain_step (roomy_in old) 0 op (end_of old.space)) reply (step_fine (graph_in old) 0 op (end_of old.space)) does y in
    let q : (roomy_in old).free ≡ (roomy_in new).free = ap (λ r. r.free) p.1 in
    let lt : nat_lt (roomy_in old).free (words_taken op) ≡ true = p.0 in
    (p.1, grind (arith, common_steps))

pub ends_all : (heap : HeapWords) (commands : List Op) (n : ℕ) → n ≤ length commands → length commands ≤ n → EndsAt heap commands n
ends_all heap commands n low high =
    let e : length commands ≡ n = omega arith in
    (low, subst (λ k. FindsNoRoom heap (drop k commands)) e (subst (FindsNoRoom heap) (sym (drop-length commands)) tt))

pub ends_full : (old new : HeapWords) (commands : List Op) (i : ℕ) (op : Op) (reply : Reply) → i < length commands → op ≡ get_or commands i op → Does old op reply new → is_full reply ≡ true → EndsAt new commands i
ends_full old new commands i op reply lt e does y =
    ((omega arith), subst (FindsNoRoom new) (sym (next_op commands i op lt e)) ((no_room old new op reply does y).1))

-- `Full` changes nothing
pub going_full : (first : Graph) (all : List (ℕ × Op)) (old new : HeapWords) (op : Op) (rest : List (ℕ × Op)) (told : List Reply) (reply : Reply)
    → Does old op reply new → is_full reply ≡ true → Going first all (graph_in old) rest told → Going first all (graph_in new) rest told
going_full first all old new op rest told reply does y going =
    subst (λ h. Going first all h rest told) (ap (λ r. r.graph) ((no_room old new op reply does y).0)) going

-- ---- what is known at the end

pub replies_told : (heap : HeapWords) (commands : List Op) (h : Graph) (rest : List (ℕ × Op)) (told : List Reply) → Going (graph_in heap) (by_one commands) h rest told → AreReplies heap commands told
replies_told heap commands h rest told going s shows room =
    let m = shown s.graph heap shows in
    let at = going s m.0 m.1 room in
    sym (ap (take (length told)) at.same ∙ take-append_seam told (replies (at.t) rest))

module _ (pairs : List (ℕ × ℕ)) (g : Graph) (size free : ℕ) (h : Graph) (is : IsSpaceGraph size free h) (matched : Matched pairs g h) where
  there_is : (b : ℕ) (o : Object) → In (b, o) h.objects → lookup h.objects b ≡ None → ⊥
  there_is b o k e = let f = lookup_laid 1 h.objects (size - free) b o is.laid k in absurd (let no : Some o ≡ None = sym f ∙ e in cc)

  alike_corresponds : (v w : Value) → Alike pairs g.objects h.objects v w → RefersTo (IsNamed h.objects) w → correspond pairs v w ≡ true
  alike_corresponds v w nils r = refl
  alike_corresponds v w (numbers n) r = eq-eqb n n refl
  alike_corresponds v w (partners a b p) r = p
  alike_corresponds v w (without_objects a b e f) r = absurd (there_is b r.0 r.1 f)

  zip_corresponds : (vs ws : List Value) → AllZip (Alike pairs g.objects h.objects) vs ws → ((w : Value) → In w ws → RefersTo (IsNamed h.objects) w) → AllZip (λ v w. correspond pairs v w ≡ true) vs ws
  zip_corresponds [] [] z r = tt
  zip_corresponds [] (w ∷ ws) z r = absurd z
  zip_corresponds (v ∷ vs) [] z r = absurd z
  zip_corresponds (v ∷ vs) (w ∷ ws) z r = (alike_corresponds v w z.0 (r w (inl refl)), zip_corresponds vs ws z.1 (λ x k. r x (inr k)))

  zip_length : (vs ws : List Value) → AllZip (Alike pairs g.objects h.objects) vs ws → length vs ≡ length ws
  zip_length [] [] z = refl
  zip_length [] (w ∷ ws) z = absurd z
  zip_length (v ∷ vs) [] z = absurd z
  zip_length (v ∷ vs) (w ∷ ws) z = let e : length vs ≡ length ws = zip_length vs ws z.1 in omega arith

  objects_correspond : (o q : Option Object) → ObjectsAlike pairs g.objects h.objects o q → ((x : Object) → q ≡ Some x → (w : Value) → In w x.fields → RefersTo (IsNamed h.objects) w) → EqualFieldByField pairs o q
  objects_correspond None q a r = absurd a
  objects_correspond (Some o) None a r = absurd a
  objects_correspond (Some o) (Some q) a r = (a.0, a.1, zip_length o.fields q.fields a.2, zip_corresponds o.fields q.fields a.2 (r q refl))

  corresponding_of : Corresponding pairs g h
  corresponding_of = record {
    roots = zip_corresponds g.roots h.roots matched.roots is.roots;
    objects = λ a b p. objects_correspond (lookup g.objects a) (lookup h.objects b) (matched.objects a b p) (λ x e. (is.objects b x (lookup_in h.objects b x e)).fields);
    one_right = matched.one_right;
    one_left = matched.one_left;
  }

pub leads : (heap new : HeapWords) (commands : List Op) (rest : List (ℕ × Op)) (told : List Reply) → IsHeap new → Going (graph_in heap) (by_one commands) (graph_in new) rest told → ShowsAfter heap commands (length told) new
leads heap new commands rest told is going s shows room =
    let m = shown s.graph heap shows in
    let at = going s m.0 m.1 room in
    let e : length told + 0 ≡ length told = omega arith in
    let same : at.t ≡ machine_after s (length told) (by_one commands) = sym (at.there 0) ∙ ap (λ k. machine_after s k (by_one commands)) e in (
      at.pairs,
      subst (λ x. Corresponding at.pairs x.graph (graph_in new)) same
          (corresponding_of at.pairs (at.t).graph new.space.size (free_in new.space) (graph_in new) (heap_graph new is) at.matched),
    )

-- ---- what is shown stays shown

pub shows_follow : (g : Graph) (old new : HeapWords) → IsHeap new → Shows g old → GoesOnIn old new → Shows g new
shows_follow g old new is shows follows =
    let a = shown g old shows in
    let b = follows_matched old new follows in
    inr (
      joined a.0 b.0,
      corresponding_of (joined a.0 b.0) g new.space.size (free_in new.space) (graph_in new) (heap_graph new is)
          (composed a.0 b.0 g (graph_in old) (graph_in new) a.1 b.1),
    )

pub shows_full : (g : Graph) (old new : HeapWords) (op : Op) (reply : Reply) → Does old op reply new → is_full reply ≡ true → Shows g old → Shows g new
shows_full g old new op reply does y shows =
    subst (λ h. (g ≡ h) ⊎ ((pairs : List (ℕ × ℕ)) × Corresponding pairs g h)) (ap (λ r. r.graph) ((no_room old new op reply does y).0)) shows

pub going_at : (first : Graph) (all : List (ℕ × Op)) (old at : HeapWords) (rest : List (ℕ × Op)) (told : List Reply) → IsHeap old → ((g : Graph) → Shows g old → Shows g at)
    → Going first all (graph_in old) rest told → Going first all (graph_in at) rest told
going_at first all old at rest told is keeps going s pairs matched room =
    let st = going s pairs matched room in
    let c = corresponding_of st.pairs (st.t).graph old.space.size (free_in old.space) (graph_in old) (heap_graph old is) st.matched in
    let m = shown (st.t).graph at (keeps (st.t).graph (inr (st.pairs, c))) in
    record { t = st.t; pairs = m.0; matched = m.1; same = st.same; there = st.there }

-- one turn of the loop that waits for room
pub going_served : (first : Graph) (all : List (ℕ × Op)) (old mid new : HeapWords) (commands : List Op) (i : ℕ) (told : List Reply) (op : Op) (reply : Reply) → IsHeap old
    → i < length commands → op ≡ get_or commands i op → Going first all (graph_in old) (by_one (drop i commands)) told → Serves old op reply mid → is_full reply ≡ false → GoesOnIn mid new
    → Going first all (graph_in new) (by_one (drop (i + 1) commands)) (told ++ reply ∷ [])
going_served first all old mid new commands i told op reply is lt e going serves fine follows =
    going_next first all serves.at mid new commands i told op reply serves.sound lt e
    (going_at first all old serves.at (by_one (drop i commands)) told is serves.shown going) serves.does fine follows

as_many : (s : Roomy) (commands : List (ℕ × Op)) → length (replies s commands) ≡ length commands
as_many s [] = refl
as_many s (command ∷ rest) = let e : length (replies (roomy_step s command.0 command.1 (fresh_name s.graph)).1 rest) ≡ length rest = as_many (roomy_step s command.0 command.1 (fresh_name s.graph)).1 rest in omega arith

pub all_told : (heap : HeapWords) (commands : List Op) (h : Graph) (rest : List (ℕ × Op)) (told : List Reply) → length told ≡ length commands → Going (graph_in heap) (by_one commands) h rest told → AreAllReplies heap commands told
all_told heap commands h rest told e going s shows room =
    let told_is : told ≡ take (length told) (replies s (by_one commands)) = replies_told heap commands h rest told going s shows (subst (HasRoom s (by_one commands)) (sym e) room) in
    let l : length told ≡ length (replies s (by_one commands)) = e ∙ sym (length-map commands (λ (op : Op). (0, op))) ∙ sym (as_many s (by_one commands)) in
    told_is ∙ ap (λ n. take n (replies s (by_one commands))) l ∙ take-length (replies s (by_one commands))

-- ---- runs of any caller

as_told : (heap : HeapWords) (commands : List Op) (told : List Reply) (new : HeapWords) → Ran heap commands told new → length told ≡ length commands
as_told heap [] [] new ran = refl
as_told heap [] (reply ∷ told) new ran = absurd ran
as_told heap (op ∷ commands) [] new ran = absurd ran
as_told heap (op ∷ commands) (reply ∷ told) new ran = let e : length told ≡ length commands = as_told ran.0 commands told new ran.4 in omega arith

-- the last heap may be any that shows as much
going_ran : (first : Graph) (all : List (ℕ × Op)) (heap : HeapWords) (commands : List Op) (before told : List Reply) (new : HeapWords) → IsHeap heap
    → Going first all (graph_in heap) (by_one commands) before → Ran heap commands told new → Going first all (graph_in new) [] (before ++ told)
going_ran first all heap [] before [] new is going ran =
    subst (Going first all (graph_in new) []) (sym (append-nil before)) (going_at first all heap new [] before is ran going)
going_ran first all heap [] before (reply ∷ told) new is going ran = absurd ran
going_ran first all heap (op ∷ commands) before [] new is going ran = absurd ran
going_ran first all heap (op ∷ commands) before (reply ∷ told) new is going ran =
    let s : Serves heap op reply ran.0 = ran.2 in
    let here = going_at first all heap s.at (by_one (op ∷ commands)) before is s.shown going in
    let there = going_on first all s.at ran.0 (graph_in ran.0) op (by_one commands) before reply s.sound here s.does (fine_is reply ran.3)
    (own_pairs (graph_in ran.0).objects) (matched_itself (graph_in ran.0)) in
    subst (Going first all (graph_in new) []) (append_assoc before (reply ∷ []) told) (going_ran first all ran.0 commands (before ++ reply ∷ []) told new ran.1 there ran.4)

pub ran_replies : (heap new : HeapWords) (commands : List Op) (told : List Reply) → IsHeap heap → Ran heap commands told new → AreAllReplies heap commands told
ran_replies heap new commands told is ran =
    all_told heap commands (graph_in new) [] told (as_told heap commands told new ran)
    (going_ran (graph_in heap) (by_one commands) heap commands [] told new is (going_first (graph_in heap) (by_one commands)) ran)

pub ran_leads : (heap new : HeapWords) (commands : List Op) (told : List Reply) → IsHeap heap → IsHeap new → Ran heap commands told new → ShowsAfter heap commands (length commands) new
ran_leads heap new commands told is is' ran =
    subst (λ n. ShowsAfter heap commands n new) (as_told heap commands told new ran)
    (leads heap new commands [] told is' (going_ran (graph_in heap) (by_one commands) heap commands [] told new is (going_first (graph_in heap) (by_one commands)) ran))

-- a call that performs several commands

not_full : (reply : Reply) → is_fine reply ≡ true → is_full reply ≡ false
not_full reply e = grind (arith, common_steps)

pub all_ran : (heap new : HeapWords) (commands : List Op) (told : List Reply) → IsHeap heap → HasNoFull told → DoesAll heap commands told new → Ran heap commands told new
all_ran heap new [] [] is fine did = λ g shows. subst (Shows g) (sym did) shows
all_ran heap new [] (reply ∷ told) is fine did = absurd did
all_ran heap new (op ∷ commands) [] is fine did = absurd did
all_ran heap new (op ∷ commands) (reply ∷ told) is fine did = (
  did.0,
  did.1,
  record { at = heap; sound = is; shown = λ g shows. shows; does = did.2 },
  not_full reply ((and_parts _ _ fine).0),
  all_ran did.0 new commands told did.1 ((and_parts _ _ fine).1) did.3,
)
