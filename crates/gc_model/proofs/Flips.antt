-- A collection that is ready has a certificate.
use Rattle.std.proofs.lemmas.Grind.{common_steps}
use Rattle.std.proofs.Common.{◌≡◌, ◌≢◌, inl, inr, ⊎_elim, ℕ, zero, suc, ◌+◌, ◌-◌, ◌<◌, ◌≤◌, Bool, true, List, [], ◌∷◌, map, length, get_or, Some, is_none, slice_get, AllPairs, IsTrue, refl, ap, sym, ◌∙◌, subst, arith}
use Rattle.std.specs.List.{AllZip}
use Rattle.std.proofs.lemmas.Option.{slice_get-get_or}
use Rattle.std.proofs.lemmas.Bool.{cond-true, cond_both}
use Rattle.gc_graph.specs.Graph.{Value, Graph}
use Rattle.gc_graph.specs.Machine.{is_number}
use Rattle.gc_words.specs.declared.header.Header.{Header}
use Rattle.gc_graph.specs.Correspond.{correspond}
use Rattle.gc_words.specs.Word.{word_of, words_correspond, field_words_correspond}
use Rattle.gc_words.specs.Image.{block_at}
use Rattle.gc_words.specs.Certificate.{BlocksCorrespond, Certified}
use Rattle.gc_model.specs.Linked.{object_block, object_header, field_word, image_of_graph, linked_image}
use Rattle.gc_model.specs.State.{Replica, Collection, State, new_free, pairs_of, moved, new_graph}
use Rattle.gc_model.specs.Steps.{is_ready, flipped, passes_check, flip, collect}
use Rattle.gc_model.specs.Members.{In, Distinct}
use Rattle.gc_model.specs.Belonging.{Laid, IsNamed, RefersTo, IsSpaceGraph, Belongs, IsOpened, IsState}
use Rattle.gc_model.specs.declared.step.Step.{Step}
use Rattle.gc_model.specs.declared.step.StepReply.TheVariants.{Refused, Flipped}
use Rattle.gc_model.proofs.Lists.{in_map, in_map_from, get_in, all_from_in}
use Rattle.gc_model.proofs.Heap.{refers_map, laid_range, lookup_in, lookup_laid}
use Rattle.gc_model.proofs.Replicas.{pair, placed, replicas_end, IsPlace, refers_corresponding, moved_corresponds}
use Rattle.gc_model.proofs.Steps.{IsReady, roots_replicated, place_named, ready_parts, none_due, replica_refers, new_heap}
use Rattle.gc_model.proofs.Images.{graph_back, IsAddress, read_back, image_shaped, block_is, named_address}
use Rattle.gc_words.specs.Image.{graph_of}
use Rattle.gc_graph.specs.Correspond.{Corresponding}
use Rattle.gc_words.proofs.Public.{corresponding, no_fault_of_certified}
use Rattle.gc_words.specs.Spelling.{no_links}

-- ---- words of values that correspond

words_of_corresponding : (pairs : List (ℕ × ℕ)) (v w : Value) → RefersTo IsAddress v → RefersTo IsAddress w → correspond pairs v w ≡ true → words_correspond pairs (word_of v) (word_of w) ≡ true
words_of_corresponding pairs v w f g h = grind (arith, common_steps, read_back)

fields_zip : (alike : ℕ → ℕ → Bool) (f : Value → ℕ) (g : Value → ℕ) (vs ws : List Value) → length vs ≡ length ws
    → ((i : ℕ) (v w : Value) → slice_get vs i ≡ Some v → slice_get ws i ≡ Some w → alike (f v) (g w) ≡ true)
    → AllZip (λ v w. IsTrue (alike v w)) (map f vs) (map g ws)
fields_zip alike f g [] [] len h = tt
fields_zip alike f g [] (w ∷ ws) len h = absurd (omega arith)
fields_zip alike f g (v ∷ vs) [] len h = absurd (omega arith)
fields_zip alike f g (v ∷ vs) (w ∷ ws) len h = (h 0 v w refl refl, fields_zip alike f g vs ws (omega arith) (λ i x y k l. h (suc i) x y k l))

-- the words of two corresponding fields
pub field_words_of_corresponding : (h k : Header) (pairs : List (ℕ × ℕ)) (v w : Value) → k.raw ≡ h.raw → (h.raw ≡ true → is_number v ≡ true) → RefersTo IsAddress v → RefersTo IsAddress w → correspond pairs v w ≡ true
    → field_words_correspond h pairs (field_word h v) (field_word k w) ≡ true
field_words_of_corresponding h k pairs v w same number f g agree = grind (arith, common_steps, words_of_corresponding)

roots_zip : (pairs : List (ℕ × ℕ)) (f : Value → Value) (vs : List Value) → ((v : Value) → In v vs → words_correspond pairs (word_of v) (word_of (f v)) ≡ true)
    → AllZip (λ v w. IsTrue (words_correspond pairs v w)) (map word_of vs) (map word_of (map f vs))
roots_zip pairs f [] h = tt
roots_zip pairs f (v ∷ vs) h = (h v (inl refl), roots_zip pairs f vs (λ w k. h w (inr k)))

-- ---- the order of the pairs

replica_at : (replicas : List Replica) (j : ℕ) (d : ℕ × ℕ) → j < length (map pair replicas) → (r : Replica) × In r replicas × (pair r ≡ get_or (map pair replicas) j d)
replica_at replicas j d within = in_map_from pair _ replicas (get_in _ (map pair replicas) j (slice_get-get_or (map pair replicas) j d within))

pub pairs_rise : (at : ℕ) (replicas : List Replica) (end : ℕ) → Laid at (map placed replicas) end → AllPairs (λ p q. p.1 < q.1) (map pair replicas)
pairs_rise at [] end h i j d l within = absurd (omega arith)
pairs_rise at (r ∷ rest) end h i zero d l within = absurd (omega arith)
pairs_rise at (r ∷ rest) end h zero (suc j) d l within =
    let s = replica_at rest j d (omega arith) in
    let range = laid_range (at + (length r.object.fields + 2)) (map placed rest) end (placed s.0) h.1 (in_map placed s.0 rest s.1) in
    omega (arith, h.0, ap (λ (p : ℕ × ℕ). p.1) s.2)
pairs_rise at (r ∷ rest) end h (suc i) (suc j) d l within = pairs_rise (at + (length r.object.fields + 2)) rest end h.1 i j d (omega arith) (omega arith)

pub pairs_once : (replicas : List Replica) → Distinct (map (λ r. r.original) replicas) → AllPairs (λ p q. p.0 ≢ q.0) (map pair replicas)
pairs_once [] h i j d l within = absurd (omega arith)
pairs_once (r ∷ rest) h i zero d l within = absurd (omega arith)
pairs_once (r ∷ rest) h zero (suc j) d l within = λ e.
    let s = replica_at rest j d (omega arith) in
    let same : s.0.original ≡ r.original = ap (λ (p : ℕ × ℕ). p.0) s.2 ∙ sym e in
    h.0 (subst (λ n. In n (map (λ (x : Replica). x.original) rest)) same (in_map (λ (x : Replica). x.original) s.0 rest s.1))
pairs_once (r ∷ rest) h (suc i) (suc j) d l within = pairs_once rest h.1 i j d (omega arith) (omega arith)

-- ---- the certificate

-- for all links
pub certified : (links links' : ℕ → ℕ) (size free : ℕ) (g : Graph) (c : Collection) → IsSpaceGraph size free g → Belongs g.objects c → c.size ≤ 4294967295 → IsReady g c
    → Certified (linked_image links size g) (linked_image links' c.size (new_graph c g.roots)) (pairs_of c)
certified links links' size free g c h k same ready = record {
  old_shaped = image_shaped links size free g h;
  new_shaped = image_shaped links' c.size (new_free c) new new_ok;
  objects = all_from_in (λ (p : ℕ × ℕ). BlocksCorrespond pairs (block_at (linked_image links size g).words p.0) (block_at (linked_image links' c.size new).words p.1)) pairs
      (λ p l. let r = in_map_from pair p c.replicas l in subst (λ (q : ℕ × ℕ). BlocksCorrespond pairs (block_at (linked_image links size g).words q.0) (block_at (linked_image links' c.size new).words q.1)) r.2 (blocks_correspond r.0 r.1));
  rising = pairs_rise 1 c.replicas (replicas_end c.replicas) k.laid;
  once = pairs_once c.replicas k.once;
  roots = roots_zip pairs (moved c) g.roots (λ v l.
      let f = h.roots v l in
      let e = moved_corresponds c v (roots_replicated c g ready.roots v l) in
      words_of_corresponding pairs v (moved c v) (refers_map (IsNamed g.objects) IsAddress old_address v f) (refers_map (IsPlace pairs) IsAddress new_address (moved c v) (refers_corresponding (IsNamed g.objects) pairs v (moved c v) f e)) e);
}
  where
    new : Graph
    new = new_graph c g.roots

    pairs : List (ℕ × ℕ)
    pairs = pairs_of c

    new_ok : IsSpaceGraph c.size (new_free c) new
    new_ok = new_heap size free g c h k same ready

    old_address : (a : ℕ) → IsNamed g.objects a → IsAddress a
    old_address a n = named_address size free g a h n

    new_address : (b : ℕ) → IsPlace pairs b → IsAddress b
    new_address b n = named_address c.size (new_free c) new b new_ok (place_named c b n)

    blocks_correspond : (r : Replica) → In r c.replicas → BlocksCorrespond pairs (block_at (linked_image links size g).words r.original) (block_at (linked_image links' c.size new).words r.place)
    blocks_correspond r l =
        let ok = k.replicas r l in
        let was = h.objects r.original ok.original (lookup_in g.objects r.original ok.original ok.found) in
        let old_block = block_is links size free g r.original ok.original h ok.found in
        let there = lookup_laid 1 (map placed c.replicas) (c.size - new_free c) r.place r.object new_ok.laid (in_map placed r c.replicas l) in
        let new_block = block_is links' c.size (new_free c) new r.place r.object new_ok there in
        let zip = fields_zip (field_words_correspond (object_header ok.original) pairs) (field_word (object_header ok.original)) (field_word (object_header r.object)) ok.original.fields r.object.fields (sym ok.len) (λ i v w x y.
        field_words_of_corresponding (object_header ok.original) (object_header r.object) pairs v w ok.raw (λ raw. h.numbers r.original ok.original ok.found raw v (get_in v ok.original.fields i x))
        (refers_map (IsNamed g.objects) IsAddress old_address v (was.fields v (get_in v ok.original.fields i x)))
        (refers_map (IsPlace pairs) IsAddress new_address w (replica_refers size free g c h k ready r l w (get_in w r.object.fields i y)))
        (⊎_elim (λ d. absurd (none_due g.objects g c r i k ready l d)) (λ e. e) (ok.current i v w x y))) in
        subst (λ b. BlocksCorrespond pairs b (block_at (linked_image links' c.size new).words r.place)) (sym old_block)
        (subst (BlocksCorrespond pairs (Some (object_block ok.original))) (sym new_block)
        ((λ i. record { raw = sym ok.raw i; kind = sym ok.kind i; len = sym ok.len i }), zip))

-- so the graphs of both spaces correspond
pub corresponding_graphs : (size free : ℕ) (g : Graph) (c : Collection) → IsSpaceGraph size free g → Belongs g.objects c → c.size ≤ 4294967295 → IsReady g c → Corresponding (pairs_of c) g (new_graph c g.roots)
corresponding_graphs size free g c h k same ready =
    let both = corresponding (linked_image no_links size g) (linked_image no_links c.size (new_graph c g.roots)) (pairs_of c) (certified no_links no_links size free g c h k same ready) in
    subst (λ x. Corresponding (pairs_of c) x (new_graph c g.roots)) (graph_back no_links size free g h)
    (subst (Corresponding (pairs_of c) (graph_of (linked_image no_links size g))) (graph_back no_links c.size (new_free c) (new_graph c g.roots) (new_heap size free g c h k same ready)) both)

passes : (s : State) (c : Collection) → IsSpaceGraph s.size s.heap.free s.heap.graph → IsOpened s c → is_ready c s.heap.graph ≡ true → passes_check s c ≡ true
passes s c h k ready = ap is_none (no_fault_of_certified (image_of_graph s.size s.heap.graph) (image_of_graph c.size (new_graph c s.heap.graph.roots)) (pairs_of c) (certified no_links no_links s.size s.heap.free s.heap.graph c h k.belongs k.size (ready_parts c s.heap.graph ready)))

pub flips : (s : State) (c : Collection) → IsSpaceGraph s.size s.heap.free s.heap.graph → IsOpened s c → is_ready c s.heap.graph ≡ true → flip s c ≡ (Flipped (length c.replicas), flipped s c)
flips s c h k ready = cond-true (is_ready c s.heap.graph) _ _ ready ∙ cond-true (passes_check s c) _ _ (passes s c h k ready)

-- ---- no step is refused

pub not_refused : (s : State) (step : Step) → IsState s → (collect s step).0 ≢ Refused
not_refused s step h = grind (arith, common_steps, cond_both, passes)
