-- Values that fields of one object take one after the other, through no root: the state, what is known of the roots, the collection and the monitor.
use Rattle.std.proofs.Common.{◌≡◌, inl, inr, ℕ, ◌-◌, ◌<◌, List, [], ◌∷◌, ◌++◌, length, map, Option, Some, None, refl, ap, sym, ◌∙◌, subst, arith, length-set}
use Rattle.std.specs.Prelude.{slice_get}
use Rattle.std.specs.Option.{option_map, unwrap_or}
use Rattle.std.proofs.lemmas.List.{length-map}
use Rattle.gc_graph.specs.Graph.{Graph, Value, Nil, Object, Ref, names_of, root}
use Rattle.gc_graph.specs.Machine.{Roomy, roomy_step}
use Rattle.gc_graph.specs.declared.command.Op.{Op}
use Rattle.gc_graph.specs.declared.command.Op.TheVariants.{Put}
use Rattle.gc_graph.specs.declared.reply.Reply.{Reply}
use Rattle.gc_graph.specs.declared.reply.Reply.TheVariants.{Done}
use Rattle.gc_words.specs.Space.{free_in}
use Rattle.gc_words.specs.Word.{value_of}
use Rattle.gc_heap.specs.Filling.{PutsAll, PutsValue}
use Rattle.gc_heap.specs.Heap.{HeapWords, graph_in}
use Rattle.gc_heap.specs.Places.{root_at}
use Rattle.gc_model.specs.Belonging.{Belongs, BelongsBut, HasField}
use Rattle.gc_model.specs.Members.{In}
use Rattle.gc_model.specs.State.{Collection, State, heap_end}
use Rattle.gc_model.specs.Steps.{log_at, logged, mutate, written}
use Rattle.gc_model.proofs.Public.{WrittenBy, belongs_noted, command_kept, field_there}
use Rattle.gc_copy.specs.Words.{CollectionWords, BelongsTo, LinksNothing, collection_in, entries_of, state_of}
use Rattle.gc_copy.proofs.Public.{links_kept, nothing_linked}
use Rattle.gc_collected.specs.Values.{put_value_step, with_roots}
use Rattle.gc_collected.specs.Internal.CollectedHeap.{Fits, state_in}
use Rattle.gc_collected.specs.Internal.Given.{fields_put, puts_step}
use Rattle.gc_collected.specs.Internal.Together.{LogsIfOpen}
use Rattle.gc_collected.proofs.Monitor.Ran.{Ran, ran_none, ran_on, ran_one}
use Rattle.gc_collected.proofs.Together.{belongs_alike, logged_is, logged_none, logged_twice, noted, noted_in}
use Rattle.gc_collected.proofs.ValuesPut.{after, entries, given, put_at, root_before, root_last}

-- ---- one value

-- the value goes through no root
pub value_is : (s : State) (m p i : ℕ) (v : Value) → p < length s.heap.graph.roots → put_value_step s m p i v ≡ after s s.heap.graph.roots m (root s.heap.graph p) i v
value_is s m p i v within =
    let rs = s.heap.graph.roots in
    ap (λ (x : Reply × State). (x.0, with_roots x.1 rs)) (put_at s (rs ++ v ∷ []) m p (length rs) i (root s.heap.graph p) v (root_before rs p v within) (root_last rs v))

-- a `Put` of a root writes its value
pub root_value_is : (s : State) (m p i q : ℕ) → p < length s.heap.graph.roots → mutate s m (Put (root_at p) i (root_at q)) ≡ put_value_step s m p i (root s.heap.graph q)
root_value_is s m p i q within = put_at s s.heap.graph.roots m p q i (root s.heap.graph p) (root s.heap.graph q) refl refl ∙ sym (value_is s m p i (root s.heap.graph q) within)

-- the field that is written
one_entry : (w : Value) (i a : ℕ) → w ≡ Ref a → entries w i Done ≡ (a, i) ∷ []
one_entry w i a is = ap (λ v. map (λ (name : ℕ). (name, i)) (names_of v)) is

pub one_state : (h new : HeapWords) (o : Option Collection) (m p i a : ℕ) (v : Value) → PutsValue h p i v new → root (graph_in h) p ≡ Ref a → p < length (graph_in h).roots → put_value_step (state_of h o) m p i v ≡ (Done, state_of new (logged o m ((a, i) ∷ [])))
one_state h new o m p i a v puts target within =
    value_is (state_of h o) m p i v within
    ∙ (ap (λ (x : Reply × Graph). (x.0, record (state_of h o) { heap = record { graph = record x.1 { roots = (graph_in h).roots }; free = free_in h.space }; collection = logged o m (entries (root (graph_in h) p) i x.0) })) (sym puts.graph)
    ∙ (λ k. (
      Done,
      record {
        mutators = mutators k;
        size = size k;
        heap = record { graph = record (graph_in new) { roots = map value_of (roots k) }; free = size k - end k };
        collection = logged o m (one_entry (root (graph_in h) p) i a target k);
      },
    )))
  where
    mutators : h.mutators ≡ new.mutators
    mutators = sym puts.mutators

    size : h.space.size ≡ new.space.size
    size = sym puts.size

    roots : h.roots ≡ new.roots
    roots = sym puts.roots

    end : length h.space.words ≡ length new.space.words
    end = sym puts.end

-- ---- the machine's command with one more root

-- all roots, and one more with the value
abbrev more : Graph → Value → Graph
more g v = record g { roots = g.roots ++ v ∷ [] }

abbrev command : Graph → ℕ → ℕ → Op
command g p i = Put (root_at p) i (root_at (length g.roots))

-- its reply and the objects that it leaves
did : (s : State) (m p i : ℕ) (v : Value) → p < length s.heap.graph.roots
    → ◌≡◌ {A = Reply × List (ℕ × Object)} (let x = mutate (with_roots s (s.heap.graph.roots ++ v ∷ [])) m (command s.heap.graph p i) in (x.0, x.1.heap.graph.objects)) (let y = given s.heap.graph (root s.heap.graph p) i v in (y.0, y.1.objects))
did s m p i v within =
    let rs = s.heap.graph.roots in
    ap (λ (x : Reply × State). (x.0, x.1.heap.graph.objects)) (put_at s (rs ++ v ∷ []) m p (length rs) i (root s.heap.graph p) v (root_before rs p v within) (root_last rs v))

-- it writes the one field
wrote : (g : Graph) (m p i a : ℕ) (v : Value) → p < length g.roots → root g p ≡ Ref a → written (more g v) m (command g p i) Done ≡ (a, i) ∷ []
wrote g m p i a v within target = ap (λ v. map (λ (name : ℕ). (name, i)) (names_of v)) (root_before g.roots p v within ∙ target)

one_belongs : (h new : HeapWords) (c : CollectionWords) (m p i a : ℕ) (v : Value) → BelongsTo h c → m < h.mutators → PutsValue h p i v new → root (graph_in h) p ≡ Ref a → p < length (graph_in h).roots → BelongsTo new (noted c m ((a, i) ∷ []))
one_belongs h new c m p i a v k less puts target within = record {
  belongs = subst (Belongs (graph_in new).objects) (sym (noted_in c m ((a, i) ∷ []))) (belongs_noted (graph_in new).objects (collection_in c) m ((a, i) ∷ []) log but there);
  links = links_kept h new c k puts.links;
  logs = length-set c.logs m (record { entries = log_at (collection_in c) m ++ (a, i) ∷ []; spare = 0 }) ∙ (k.logs ∙ sym puts.mutators);
}
  where
    s : State
    s = state_of h None

    g : Graph
    g = graph_in h

    big : Roomy
    big = (with_roots s (g.roots ++ v ∷ [])).heap

    next : Reply × Roomy
    next = roomy_step big m (command g p i) (heap_end s)

    is : ◌≡◌ {A = Reply × List (ℕ × Object)} (next.0, next.1.graph.objects) (Done, (graph_in new).objects)
    is = did s m p i v within ∙ ap (λ (x : Reply × Graph). (x.0, x.1.objects)) (sym puts.graph)

    log : m < length (map entries_of c.logs)
    log = let e : length c.logs ≡ h.mutators = k.logs in let n = length-map c.logs entries_of in omega arith

    but : BelongsBut (λ b j. In {X = ℕ × ℕ} (b, j) ((a, i) ∷ [])) (graph_in new).objects (collection_in c)
    but = subst (λ es. BelongsBut (λ b j. In {X = ℕ × ℕ} (b, j) es) (graph_in new).objects (collection_in c)) (wrote g m p i a v within target)
        (subst (λ (x : Reply × List (ℕ × Object)). BelongsBut (λ b j. In {X = ℕ × ℕ} (b, j) (written (more g v) m (command g p i) x.0)) x.1 (collection_in c)) is (command_kept big (collection_in c) m (command g p i) (heap_end s) k.belongs))

    there : (b j : ℕ) → In {X = ℕ × ℕ} (b, j) ((a, i) ∷ []) → HasField (graph_in new).objects b j
    there b j here =
        subst (λ (x : Reply × List (ℕ × Object)). In {X = ℕ × ℕ} (b, j) (written (more g v) m (command g p i) x.0) → HasField x.1 b j) is (field_there big m (command g p i) (heap_end s) b j)
        (subst (λ es. In {X = ℕ × ℕ} (b, j) es) (sym (wrote g m p i a v within target)) here)

one_ran : (s s' : State) (m p i a : ℕ) (v : Value) → put_value_step s m p i v ≡ (Done, s') → root s.heap.graph p ≡ Ref a → p < length s.heap.graph.roots → Ran s s' (λ b j. In {X = ℕ × ℕ} (b, j) ((a, i) ∷ []))
one_ran s s' m p i a v said target within = subst (λ (x : State). Ran s x Its) (ap (λ (x : Reply × State). x.1) said) (ran_on s last last Wrote Its Its only (λ b j w. w) ran (ran_none last Its))
  where
    Its : ℕ → ℕ → Type 0
    Its b j = In {X = ℕ × ℕ} (b, j) ((a, i) ∷ [])

    big : State
    big = with_roots s (s.heap.graph.roots ++ v ∷ [])

    next : Reply × State
    next = mutate big m (command s.heap.graph p i)

    last : State
    last = with_roots next.1 s.heap.graph.roots

    Wrote : ℕ → ℕ → Type 0
    Wrote = WrittenBy big.heap.graph m (command s.heap.graph p i) next.0

    ran : Ran s last Wrote
    ran = let y = ran_one big next.1 m (command s.heap.graph p i) next.0 refl refl in record {
      leads = record { collection = y.leads.collection; evolves = y.leads.evolves };
      end = y.end;
      on = record { mutators = y.on.mutators; size = y.on.size; collection = y.on.collection; names = y.on.names; stays = y.on.stays };
    }

    only : (b j : ℕ) → Wrote b j → Its b j
    only b j w = subst (λ es. In {X = ℕ × ℕ} (b, j) es) (ap (written big.heap.graph m (command s.heap.graph p i)) (ap (λ (x : Reply × State). x.0) said) ∙ wrote s.heap.graph m p i a v within target) w

-- ---- one after the other

pub target_kept : (h new : HeapWords) (p a : ℕ) → new.roots ≡ h.roots → root (graph_in h) p ≡ Ref a → root (graph_in new) p ≡ Ref a
target_kept h new p a same target = ap (λ (rs : List ℕ). unwrap_or (slice_get (map value_of rs) p) Nil) same ∙ target

pub within_kept : (h new : HeapWords) (p : ℕ) → new.roots ≡ h.roots → p < length (graph_in h).roots → p < length (graph_in new).roots
within_kept h new p same within = subst (λ (rs : List ℕ). p < length (map value_of rs)) (sym same) within

puts_state : (es : List (ℕ × Value)) (h new : HeapWords) (o : Option Collection) (m p a : ℕ) → PutsAll h p es new → root (graph_in h) p ≡ Ref a → p < length (graph_in h).roots → puts_step (state_of h o) m p es ≡ state_of new (logged o m (fields_put a es))
puts_state [] h new o m p a same target within = ap (λ (x : HeapWords). state_of x o) same ∙ ap (state_of new) (sym (logged_none o m))
puts_state (e ∷ rest) h new o m p a (next, one, more) target within =
    ap (λ (x : Reply × State). puts_step x.1 m p rest) (one_state h next o m p e.0 a e.1 one target within)
    ∙ (puts_state rest next new (logged o m ((a, e.0) ∷ [])) m p a more (target_kept h next p a one.roots target) (within_kept h next p one.roots within)
    ∙ ap (state_of new) (logged_twice o m ((a, e.0) ∷ []) (fields_put a rest)))

puts_belong : (es : List (ℕ × Value)) (h new : HeapWords) (c : CollectionWords) (m p a : ℕ) → BelongsTo h c → m < h.mutators → PutsAll h p es new → root (graph_in h) p ≡ Ref a → p < length (graph_in h).roots
    → (d : CollectionWords) × BelongsTo new d × (d.epoch ≡ c.epoch) × (option_map collection_in (Some d) ≡ logged (option_map collection_in (Some c)) m (fields_put a es))
puts_belong [] h new c m p a k less same target within = (c, subst (λ (x : HeapWords). BelongsTo x c) same k, refl, sym (logged_none (Some (collection_in c)) m))
puts_belong (e ∷ rest) h new c m p a k less (next, one, more) target within =
    let es : List (ℕ × ℕ) = (a, e.0) ∷ [] in
    let all = puts_belong rest next new (noted c m es) m p a (one_belongs h next c m p e.0 a e.1 k less one target within) (let same : next.mutators ≡ h.mutators = one.mutators in omega arith) more (target_kept h next p a one.roots target) (within_kept h next p one.roots within) in
    (all.0, all.1, all.2, all.3 ∙ (ap (λ (d : Collection). logged (Some d) m (fields_put a rest)) (noted_in c m es) ∙ logged_twice (Some (collection_in c)) m es (fields_put a rest)))

puts_unlinked : (es : List (ℕ × Value)) (epoch p : ℕ) (h new : HeapWords) → PutsAll h p es new → LinksNothing epoch h → LinksNothing epoch new
puts_unlinked [] epoch p h new same l = subst (LinksNothing epoch) same l
puts_unlinked (e ∷ rest) epoch p h new (next, one, more) l = puts_unlinked rest epoch p next new more (nothing_linked h next epoch l one.links)

puts_ran : (es : List (ℕ × Value)) (h new : HeapWords) (o : Option Collection) (m p a : ℕ) → PutsAll h p es new → root (graph_in h) p ≡ Ref a → p < length (graph_in h).roots
    → Ran (state_of h o) (state_of new (logged o m (fields_put a es))) (λ b j. In {X = ℕ × ℕ} (b, j) (fields_put a es))
puts_ran [] h new o m p a same target within = subst (λ (s : State). Ran (state_of h o) s (λ b j. In {X = ℕ × ℕ} (b, j) [])) (puts_state [] h new o m p a same target within) (ran_none (state_of h o) (λ b j. In {X = ℕ × ℕ} (b, j) []))
puts_ran (e ∷ rest) h new o m p a (next, one, more) target within =
    let es : List (ℕ × ℕ) = (a, e.0) ∷ [] in
    let mid = state_of next (logged o m es) in
    let all : List (ℕ × ℕ) = (a, e.0) ∷ fields_put a rest in
    subst (λ (s : State). Ran (state_of h o) s (λ b j. In {X = ℕ × ℕ} (b, j) all)) (ap (state_of new) (logged_twice o m es (fields_put a rest)))
    (ran_on (state_of h o) mid (state_of new (logged (logged o m es) m (fields_put a rest))) (λ b j. In {X = ℕ × ℕ} (b, j) es) (λ b j. In {X = ℕ × ℕ} (b, j) (fields_put a rest)) (λ b j. In {X = ℕ × ℕ} (b, j) all)
    (λ b j w. first b j w) (λ b j w. inr w)
    (one_ran (state_of h o) mid m p e.0 a e.1 (one_state h next o m p e.0 a e.1 one target within) target within)
    (puts_ran rest next new (logged o m es) m p a more (target_kept h next p a one.roots target) (within_kept h next p one.roots within)))
  where
    first : (b j : ℕ) → In {X = ℕ × ℕ} (b, j) ((a, e.0) ∷ []) → In {X = ℕ × ℕ} (b, j) ((a, e.0) ∷ fields_put a rest)
    first b j (inl here) = inl here
    first b j (inr none) = absurd none

-- ---- with the log

pub given_state : (es : List (ℕ × Value)) (h new : HeapWords) (o o' : Option CollectionWords) (m p a : ℕ) → PutsAll h p es new → LogsIfOpen o m (fields_put a es) o' → root (graph_in h) p ≡ Ref a → p < length (graph_in h).roots → puts_step (state_in h o) m p es ≡ state_in new o'
given_state es h new o o' m p a all l target within = puts_state es h new (option_map collection_in o) m p a all target within ∙ ap (state_of new) (logged_is o o' m (fields_put a es) l)

pub given_fits : (es : List (ℕ × Value)) (epoch : ℕ) (h new : HeapWords) (o o' : Option CollectionWords) (m p a : ℕ) → m < h.mutators → PutsAll h p es new → LogsIfOpen o m (fields_put a es) o' → root (graph_in h) p ≡ Ref a → p < length (graph_in h).roots → Fits epoch h o → Fits epoch new o'
given_fits es epoch h new None None m p a less all l target within fits = puts_unlinked es epoch p h new all fits
given_fits es epoch h new None (Some d) m p a less all l target within fits = absurd l
given_fits es epoch h new (Some c) None m p a less all l target within fits = absurd l
given_fits es epoch h new (Some c) (Some d) m p a less all l target within fits =
    let found = puts_belong es h new c m p a fits less all target within in
    belongs_alike new found.0 d (let same : Some (collection_in found.0) ≡ Some (collection_in d) = found.3 ∙ logged_is (Some c) (Some d) m (fields_put a es) l in sym (cc same)) (l.epoch ∙ sym found.2) found.1

pub given_ran : (es : List (ℕ × Value)) (h new : HeapWords) (o o' : Option CollectionWords) (m p a : ℕ) → PutsAll h p es new → LogsIfOpen o m (fields_put a es) o' → root (graph_in h) p ≡ Ref a → p < length (graph_in h).roots
    → Ran (state_in h o) (state_in new o') (λ b j. In {X = ℕ × ℕ} (b, j) (fields_put a es))
given_ran es h new o o' m p a all l target within =
    subst (λ (s : State). Ran (state_in h o) s (λ b j. In {X = ℕ × ℕ} (b, j) (fields_put a es))) (ap (state_of new) (logged_is o o' m (fields_put a es) l)) (puts_ran es h new (option_map collection_in o) m p a all target within)
