-- The words of a field that is up to date agree, as a standing checker compares them.
-- For the theorem that what the monitor accepts is certified.
use Rattle.std.proofs.Common.{◌≡◌, ℕ, ◌<◌, true, List, map, length, get_or, drop, Some, ap, sym, ◌∙◌, arith, ◌+◌, ◌≤◌}
use Rattle.std.specs.Prelude.{slice_get, slice_index}
use Rattle.std.proofs.lemmas.List.{get_or-take, get_or-drop}
use Rattle.std.proofs.lemmas.Option.{slice_get-get_or}
use Rattle.std.proofs.lemmas.List.{get_or-map}
use Rattle.gc_graph.specs.Graph.{Value, Object}
use Rattle.gc_graph.specs.Correspond.{correspond}
use Rattle.gc_words.specs.Word.{field_words_correspond}
use Rattle.gc_words.specs.Layout.{field_place, fields_place}
use Rattle.gc_model.specs.State.{Replica, Collection, State, heap_end, new_end, pairs_of}
use Rattle.gc_model.specs.Linked.{object_header, field_word}
use Rattle.gc_model.specs.Members.{In}
use Rattle.gc_model.specs.Belonging.{IsSpaceGraph, IsOpened, IsNamed, RefersTo}
use Rattle.gc_model.proofs.Public.{field_words_of_corresponding, refers_map, laid_range, lookup_in, IsAddress, named_address, get_in, get_past, in_map, in_map_from, IsPlace, pair, placed, refers_corresponding}
use Rattle.gc_collected.specs.Internal.Beside.{heap_words, replica_words}
use Rattle.gc_collected.proofs.Monitor.Shown.{AreSized, Shows, shown_at}
use Rattle.gc_collected.proofs.Monitor.Told.{ShowsReplicas, shows_replicas}

-- the word of a field
field_shown : (words : List ℕ) (link a : ℕ) (o : Object) (i : ℕ) (v : Value) → Shows words link a o → slice_get o.fields i ≡ Some v → slice_index words (field_place a i) ≡ field_word (object_header o) v
field_shown words link a o i v s at =
    let less : i < length o.fields = get_past o.fields i v at in
    let value : get_or o.fields i v ≡ v = (let e : Some (get_or o.fields i v) ≡ Some v = sym (slice_get-get_or o.fields i v less) ∙ at in cc) in
    sym (get_or-take (length o.fields) (drop (fields_place a) words) i 0 less ∙ get_or-drop (fields_place a) words i 0)
    ∙ (ap (λ xs. get_or xs i 0) s.fields
    ∙ (get_or-map (field_word (object_header o)) o.fields i v 0 less
    ∙ ap (field_word (object_header o)) value))

module _ (s : State) (c : Collection) (links : ℕ → ℕ) (heap : IsSpaceGraph s.size s.heap.free s.heap.graph) (opened : IsOpened s c) where
  sized : AreSized s.heap.graph.objects
  sized d l = let o = heap.objects d.0 d.1 l in (o.kind, o.len)

  -- an object of the heap, among its words
  object_shown : (a : ℕ) (o : Object) → In (a, o) s.heap.graph.objects → Shows (heap_words links s) (links a) a o
  object_shown a o l = shown_at links s.heap.graph.objects (heap_end s) a o heap.laid sized l

  pub original_shown : (r : Replica) (l : In r c.replicas) → Shows (heap_words links s) (links r.original) r.original (opened.belongs.replicas r l).original
  original_shown r l = let ok = opened.belongs.replicas r l in object_shown r.original ok.original (lookup_in s.heap.graph.objects r.original ok.original ok.found)

  pub replicas_shown : ShowsReplicas c (replica_words c)
  replicas_shown = shows_replicas s c heap opened

  pub same_header : (r : Replica) (l : In r c.replicas) → object_header r.object ≡ object_header (opened.belongs.replicas r l).original
  same_header r l = let ok = opened.belongs.replicas r l in (λ i. record { raw = ok.raw i; kind = ok.kind i; len = ok.len i })

  new_address : (b : ℕ) → IsPlace (pairs_of c) b → IsAddress b
  new_address b n =
      let r = in_map_from pair (n.0, b) c.replicas n.1 in
      let range = laid_range 1 (map placed c.replicas) (new_end c) (placed r.0) opened.belongs.laid (in_map placed r.0 c.replicas r.1) in
      let low : 1 ≤ r.0.place = range.0 in
      let high : r.0.place + (length r.0.object.fields + 2) ≤ new_end c = range.1 in
      let room : new_end c ≤ c.size = opened.belongs.room in
      let small : c.size ≤ 4294967295 = opened.size in
      let is : r.0.place ≡ b = ap (λ (p : ℕ × ℕ). p.1) r.2 in
      (omega arith, omega arith)

  -- fields that correspond have words that do
  pub words_agree : (r : Replica) (l : In r c.replicas) (i : ℕ) (v w : Value) → slice_get (opened.belongs.replicas r l).original.fields i ≡ Some v → slice_get r.object.fields i ≡ Some w → correspond (pairs_of c) v w ≡ true
      → field_words_correspond (object_header r.object) (pairs_of c) (slice_index (heap_words links s) (field_place r.original i)) (slice_index (replica_words c) (field_place r.place i)) ≡ true
  words_agree r l i v w at to agree =
      let ok = opened.belongs.replicas r l in
      let it = heap.objects r.original ok.original (lookup_in s.heap.graph.objects r.original ok.original ok.found) in
      let refers : RefersTo (IsNamed s.heap.graph.objects) v = it.fields v (get_in v ok.original.fields i at) in
      let words = field_words_of_corresponding (object_header ok.original) (object_header r.object) (pairs_of c) v w ok.raw
      (λ raw. heap.numbers r.original ok.original ok.found raw v (get_in v ok.original.fields i at))
      (refers_map (IsNamed s.heap.graph.objects) IsAddress (λ a n. named_address s.size s.heap.free s.heap.graph a heap n) v refers)
      (refers_map (IsPlace (pairs_of c)) IsAddress new_address w (refers_corresponding (IsNamed s.heap.graph.objects) (pairs_of c) v w refers agree)) agree in
      (λ j. field_words_correspond (same_header r l j) (pairs_of c) (field_shown (heap_words links s) (links r.original) r.original ok.original i v (original_shown r l) at j) (field_shown (replica_words c) r.original r.place r.object i w (replicas_shown.each r l) to j))
      ∙ words
