-- A walk in breadth visits each reachable object at its least depth.
use Rattle.std.proofs.lemmas.Option.{slice_get_past}
use Rattle.std.proofs.lemmas.List.{length-map, length-append, length-replicate, length-reverse, reverse-append, append-nil, drop_all, take_all, get_or_append_left, get_or_at}
use Rattle.std.proofs.lemmas.Grind.{common_steps}
use Rattle.std.proofs.Common.{◌≡◌, ◌≢◌, ℕ, zero, suc, ◌+◌, ◌<◌, ◌≤◌, ◌^◌, Bool, true, false, cond, not, ◌==◌, List, [], ◌∷◌, ◌++◌, length, map, reverse, replicate, take, drop, get_or, set, Option, Some, None, refl, sym, ◌∙◌, ap, subst, inl, inr, arith, length-set, get_or-set_same, get_or-set_other}
use Rattle.std.specs.Prelude.{slice_get, slice_index, vec_capacity, is_some, IsTrue}
use Rattle.std.proofs.lemmas.Bool.{cases_order, cases_eq}
use Rattle.gc_graph.specs.Graph.{Value, Nil, Num, Ref, Graph, lookup, fields_of, field_of, follow, at_path, name_of, Reachable}
use Rattle.gc_words.specs.Word.{value_of, field_value}
use Rattle.gc_words.specs.Image.{Image, Block, blocks, block_at, header_of, header_at, is_start, graph_of}
use Rattle.gc_words.specs.declared.header.Header.{Header}
use Rattle.gc_words.proofs.Public.{object_option, lookup_of_blocks}
use Rattle.gc_check.specs.Internal.Starts.{starts_from}
use Rattle.gc_check.specs.Internal.Meetings.{taken_in}
use Rattle.gc_check.specs.Internal.Tables.{HasEntries}
use Rattle.gc_check.specs.Internal.Visits.{values_of, RefersAt, references, IsNode, along, roots_visit, visit_at, IsFoundBy, IsFound, AreVisits, Visited, LeadsToVisits, AreAllVisited, AreWithin, Continues, HasReferences, NoneRefers, IsFirstReference, HoldsVisits, visit_numbers, HoldsWalk}
use Rattle.gc_check.specs.declared.visits.Node.{Node}
use Rattle.gc_check.specs.declared.visits.Node.TheVariants as node
use Rattle.gc_check.specs.declared.visits.Visit.{Visit}
use Rattle.gc_check.specs.declared.visits.Visits.{Visits}
use Rattle.gc_check.specs.declared.visits.Reference.{Reference}
use Rattle.gc_check.proofs.StartMarks.{nothing_at, start_within}
use Rattle.gc_check.proofs.Meetings.{few_taken, starts_one, taken_one, taken_none}
use Rattle.gc_check.proofs.Forced.{follow_nil}

-- ---- references

-- the name of a value, if there is a value
abbrev reference_of : Option Value → Option (Option ℕ)
reference_of None = None
reference_of (Some v) = Some (name_of v)

named : (ws : List ℕ) (i : ℕ) → slice_get (references ws) i ≡ reference_of (slice_get (map value_of ws) i)
named [] i = refl
named (w ∷ ws) zero = refl
named (w ∷ ws) (suc i) = named ws i

is_reference : (o : Option Value) (a : ℕ) → reference_of o ≡ Some (Some a) → o ≡ Some (Ref a)
is_reference o a e = grind (arith, common_steps)

-- the words whose values a node has are its references
pub refers_by_words : (g : Graph) (n : Node) (ws : List ℕ) → values_of g n ≡ map value_of ws → HasReferences g n ws
refers_by_words g n ws e = grind (arith, common_steps, named, is_reference)

-- the reference of word i
pub reference_word : (ws : List ℕ) (i d : ℕ) → i < length ws → slice_get (references ws) i ≡ Some (name_of (value_of (get_or ws i d)))
reference_word [] i d h = absurd (omega arith)
reference_word (w ∷ ws) zero d h = refl
reference_word (w ∷ ws) (suc i) d h = reference_word ws i d (omega arith)

pub no_word : (ws : List ℕ) (i a : ℕ) → length ws ≤ i → slice_get (references ws) i ≡ Some (Some a) → ⊥
no_word ws i a h e = absurd (let no : None ≡ Some (Some a) = sym (slice_get_past (references ws) i (omega (arith, h, length-map ws (λ w. name_of (value_of w))))) ∙ e in cc)

values_at : (image : Image) (a : ℕ) (b : Block) → block_at image.words a ≡ Some b → values_of (graph_of image) (node.Object a) ≡ map (field_value b.header) b.fields
values_at image a b e = ap fields_of (lookup_of_blocks (blocks image.words) a ∙ ap object_option e)

pub object_refers : (image : Image) (a : ℕ) (b : Block) → block_at image.words a ≡ Some b → b.header.raw ≡ false → HasReferences (graph_of image) (node.Object a) b.fields
object_refers image a b e plain = refers_by_words (graph_of image) (node.Object a) b.fields (values_at image a b e ∙ ap (λ r. map (λ w. cond r (Num w) (value_of w)) b.fields) plain)

no_number : (ws : List ℕ) (i a : ℕ) → slice_get (map (λ w. Num w) ws) i ≡ Some (Ref a) → ⊥
no_number [] i a e = let no : None ≡ Some (Ref a) = e in cc
no_number (w ∷ ws) zero a e = let no : Some (Num w) ≡ Some (Ref a) = e in cc
no_number (w ∷ ws) (suc i) a e = no_number ws i a e

raw_block_refers : (image : Image) (a : ℕ) (b : Block) → block_at image.words a ≡ Some b → b.header.raw ≡ true → HasReferences (graph_of image) (node.Object a) []
raw_block_refers image a b e raw = λ i x. (
  (λ refers. absurd (no_number b.fields i x (ap (λ vs. slice_get vs i) (sym (values_at image a b e ∙ ap (λ r. map (λ w. cond r (Num w) (value_of w)) b.fields) raw)) ∙ refers))),
  (λ named_there. absurd (let no : None ≡ Some (Some x) = named_there in cc)),
)

pub raw_refers : (image : Image) (a : ℕ) (h : Header) → header_at image.words a ≡ Some h → h.raw ≡ true → HasReferences (graph_of image) (node.Object a) []
raw_refers image a h e raw = go (block_at image.words a) refl e
  where
    go : (o : Option Block) → block_at image.words a ≡ o → header_of o ≡ Some h → HasReferences (graph_of image) (node.Object a) []
    go None is e = absurd (let no : None ≡ Some h = e in cc)
    go (Some b) is e =
        let same : b.header ≡ h = (let inside : Some b.header ≡ Some h = e in cc) in
        raw_block_refers image a b is (ap (λ (h : Header). h.raw) same ∙ raw)

-- ---- one more visit

module _ (image : Image) (before after : List Visit) (found : Visit) (pushed : after ≡ before ++ found ∷ []) where
  old_visit : (k : ℕ) → k < length before → visit_at after k ≡ visit_at before k
  old_visit k inside = ap (λ visits. visit_at visits k) pushed ∙ get_or_append_left before (found ∷ []) roots_visit k inside

  new_visit : visit_at after (length before) ≡ found
  new_visit = ap (λ visits. visit_at visits (length before)) pushed ∙ get_or_at before found [] roots_visit (length before) refl

  longer : length after ≡ suc (length before)
  longer = grind (arith, common_steps, length-append)

  -- a visit is old, or the new one
  by_number : (P : ℕ → Type 0) → ((k : ℕ) → k < length before → P k) → P (length before) → (k : ℕ) → k < length after → P k
  by_number P old new k inside = grind (arith, common_steps, cases_order, longer)

  pub still_within : (deep : ℕ) → AreWithin before deep → found.depth ≤ deep → AreWithin after deep
  still_within deep near low = grind (arith, common_steps, by_number, old_visit, new_visit)

  module _ (visits : AreVisits image before) (a : ℕ) (start : is_start image.words a ≡ true) (from_within : found.from < length before) (is_object : found.node ≡ node.Object a)
      (deeper : found.depth ≡ suc (visit_at before found.from).depth) (near : AreWithin before found.depth) (refers : RefersAt (graph_of image) (visit_at before found.from).node found.place a) where
    old_found : (j : ℕ) → j < length before → IsFound image before j → IsFound image after j
    old_found j inside f = grind (arith, common_steps, old_visit)

    new_found : IsFound image after (length before)
    new_found =
        subst (λ (v : Visit). IsFoundBy image (visit_at after v.from) v (length before)) (sym new_visit)
        (subst (λ parent. IsFoundBy image parent found (length before)) (sym (old_visit found.from from_within))
        (record { earlier = from_within; deeper = deeper; address = a; object = is_object; refers = refers }))

    pub visits_pushed : AreVisits image after
    visits_pushed = record {
      some = omega (arith, longer);
      roots = old_visit 0 (omega (arith, visits.some)) ∙ visits.roots;
      found = λ j one inside. by_number (λ j. 1 ≤ j → IsFound image after j) (λ k less one. old_found k less (visits.found k one less)) (λ one. new_found) j inside one;
      low = by_number (λ j. (visit_at after j).depth ≤ j)
          (λ k less. subst (λ (v : Visit). v.depth ≤ k) (sym (old_visit k less)) (visits.low k less))
          (subst (λ (v : Visit). v.depth ≤ length before) (sym new_visit) (omega (arith, deeper, visits.low found.from from_within, from_within)));
      nodes = by_number (λ j. IsNode image (visit_at after j).node)
          (λ k less. subst (λ (v : Visit). IsNode image v.node) (sym (old_visit k less)) (visits.nodes k less))
          (subst (λ (v : Visit). IsNode image v.node) (sym new_visit) (subst (IsNode image) (sym is_object) start));
      sorted = λ i j order inside. by_number (λ j. i ≤ j → (visit_at after i).depth ≤ (visit_at after j).depth)
          (λ k less order.
          subst (λ (v : Visit). v.depth ≤ (visit_at after k).depth) (sym (old_visit i (omega (arith, order, less))))
          (subst (λ (v : Visit). (visit_at before i).depth ≤ v.depth) (sym (old_visit k less)) (visits.sorted i k order less)))
          (λ order. subst (λ (v : Visit). (visit_at after i).depth ≤ v.depth) (sym new_visit)
          (still_within found.depth near (omega arith) i (omega (arith, order, longer)))) j inside order;
    }

    -- the table with an entry for the new visit
    pub table_pushed : (row : List ℕ) → a < length image.words → slice_index row a ≡ 0 → HoldsVisits image before row → HoldsVisits image after (set row a (length before))
    table_pushed row inside free t = record {
      len = length-set row a (length before) ∙ t.len;
      count = longer ∙ ap suc (t.count ∙ sym (taken_one row a (length before) (omega (arith, t.len, inside)) free visits.some));
      starts = starts_one image.words row a (length before) start t.starts;
      numbers = λ b some. elim (cases_eq b a) [
        | inl same ↦ subst (λ b. (slice_index (set row a (length before)) b < length after) × ((visit_at after (slice_index (set row a (length before)) b)).node ≡ node.Object b)) (sym same) at_new
        | inr other ↦ at_old b other some
      ];
    }
      where
        entry : slice_index (set row a (length before)) a ≡ length before
        entry = get_or-set_same row a (length before) 0 (omega (arith, t.len, inside))

        at_new : (slice_index (set row a (length before)) a < length after) × ((visit_at after (slice_index (set row a (length before)) a)).node ≡ node.Object a)
        at_new = (omega (arith, entry, longer), ap (λ n. (visit_at after n).node) entry ∙ ap (λ (v : Visit). v.node) new_visit ∙ is_object)

        at_old : (b : ℕ) → b ≢ a → not (slice_index (set row a (length before)) b == 0) ≡ true → (slice_index (set row a (length before)) b < length after) × ((visit_at after (slice_index (set row a (length before)) b)).node ≡ node.Object b)
        at_old b other some = grind (arith, common_steps, get_or-set_other, longer, old_visit)

-- ---- room for a visit

pub few_starts : (words : List ℕ) (at n : ℕ) → starts_from words at n ≤ n
few_starts words at zero = omega arith
few_starts words at (suc n) = one (is_start words at) (few_starts words (suc at) n)
  where
    one : (b : Bool) → starts_from words (suc at) n ≤ n → cond b (suc (starts_from words (suc at) n)) (starts_from words (suc at) n) ≤ suc n
    one b few = grind (arith, common_steps)

-- while some object is not visited, there are fewer visits than objects and the roots
pub few_visits : (image : Image) (visits : Visits) (a : ℕ) → HoldsWalk image visits → is_start image.words a ≡ true → slice_index (visit_numbers image visits) a ≡ 0 → (length visits.list.items < vec_capacity visits.list) × (length visits.list.items < 2 ^ 32)
few_visits image visits a held start free =
    let row : List ℕ = set (visit_numbers image visits) a 1 in
    let more : taken_in row ≡ suc (taken_in (visit_numbers image visits)) = taken_one (visit_numbers image visits) a 1 (omega (arith, held.table.len, start_within image.words a held.entries.walked start)) free (omega arith) in
    let few : taken_in row ≤ starts_from image.words 0 (length row) = few_taken image.words 0 row (λ k some. subst (λ place. is_start image.words place ≡ true) (from_0 k) (starts_one image.words (visit_numbers image visits) a 1 start held.table.starts k some)) in
    let few' : taken_in row ≤ starts_from image.words 0 (length image.words) = subst (λ n. taken_in row ≤ starts_from image.words 0 n) (length-set (visit_numbers image visits) a 1 ∙ held.table.len) few in
    (omega (arith, held.table.count, held.room, more, few'), omega (arith, held.table.count, more, few', few_starts image.words 0 (length image.words), held.few))
  where
    from_0 : (k : ℕ) → k ≡ 0 + k
    from_0 k = omega arith

-- ---- what is visited stays visited

visited_stays : (before after : List Visit) (a deep : ℕ) → Continues before after → Visited before a deep → Visited after a deep
visited_stays before after a deep c v = grind (arith, common_steps)

leads_stays : (image : Image) (before after : List Visit) (k some : ℕ) → k < length before → Continues before after → LeadsToVisits image before k some → LeadsToVisits image after k some
leads_stays image before after k some inside c leads = grind (arith, common_steps, visited_stays)

-- the visit that was read
pub read_visit : (visits : List Visit) (k : ℕ) (v : Visit) → k < length visits → v ≡ get_or visits k v → visit_at visits k ≡ v
read_visit visits k v inside e = grind (arith, common_steps)

pub continue_on : (before between after : List Visit) → Continues before between → Continues between after → Continues before after
continue_on before between after c d = grind (arith, common_steps)

-- one more word of the node has been looked at
pub one_more_word : (image : Image) (first before after : List Visit) (k i : ℕ) → k < length first → Continues first before → Continues before after → LeadsToVisits image before k i
    → ((a : ℕ) → RefersAt (graph_of image) (visit_at before k).node i a → IsTrue (is_start image.words a) → Visited after a (suc (visit_at before k).depth)) → LeadsToVisits image after k (i + 1)
one_more_word image first before after k i inside c d leads new = λ j a less refers start. elim (cases_order j i) [
  | inl same ↦ (let now : visit_at after k ≡ visit_at before k = d.same k (omega (arith, c.more, inside)) in
      subst (λ (v : Visit). Visited after a (suc v.depth)) (sym now)
      (new a (subst (λ (v : Visit). RefersAt (graph_of image) v.node i a) now (subst (λ n. RefersAt (graph_of image) (visit_at after k).node n a) same refers)) start))
  | inr (inl below) ↦ leads_stays image before after k i (omega (arith, c.more, inside)) d leads j a below refers start
  | inr (inr above) ↦ absurd (omega (arith, less, above))
]

-- all words of the node have been looked at
pub all_words : (image : Image) (visits : List Visit) (k i : ℕ) (n : Node) (words : List ℕ) → (visit_at visits k).node ≡ n → HasReferences (graph_of image) n words → length words ≤ i → LeadsToVisits image visits k i → (some : ℕ) → LeadsToVisits image visits k some
all_words image visits k i n words is references most leads some j a less refers start = elim (cases_order j i) [
  | inl same ↦ absurd (no_word words j a (omega (arith, most, same)) ((references j a).0 (subst (λ n. RefersAt (graph_of image) n j a) is refers)))
  | inr (inl below) ↦ leads j a below refers start
  | inr (inr above) ↦ absurd (no_word words j a (omega (arith, most, above)) ((references j a).0 (subst (λ n. RefersAt (graph_of image) n j a) is refers)))
]

-- a visit more has been gone through
pub one_more_visit : (image : Image) (before after : List Visit) (done : ℕ) → done < length before → Continues before after → ((k some : ℕ) → k < done → k < length before → LeadsToVisits image before k some) → ((some : ℕ) → LeadsToVisits image after done some)
    → (k some : ℕ) → k < done + 1 → k < length after → LeadsToVisits image after k some
one_more_visit image before after done inside c leads new k some less within = elim (cases_order k done) [
  | inl same ↦ subst (λ k. LeadsToVisits image after k some) (sym same) (new some)
  | inr (inl below) ↦ leads_stays image before after k some (omega (arith, below, inside)) c (leads k some below (omega (arith, below, inside)))
  | inr (inr above) ↦ absurd (omega (arith, less, above))
]

-- no visit is deeper than the next one can lead to
pub near_next : (image : Image) (before after : List Visit) (done : ℕ) → done < length before → AreVisits image after → Continues before after → AreWithin after (suc (visit_at before done).depth) → done + 1 < length after
    → AreWithin after (suc (visit_at after (done + 1)).depth)
near_next image before after done inside are c near next j h = grind (arith, common_steps)

-- the walk begins with the visit of the roots
pub begun : (image : Image) (visits : Visits) → HasEntries image.words visits.numbers → length image.words < 2 ^ 32 → visits.list.items ≡ roots_visit ∷ [] → (visit_numbers image visits) ≡ replicate (length image.words) 0 → suc (starts_from image.words 0 (length image.words)) ≤ vec_capacity visits.list
    → HoldsWalk image visits
begun image visits entries few one none room = grind (arith, common_steps, length-replicate, taken_none, nothing_at)

-- ---- the way back

field_follows : (g : Graph) (a j : ℕ) → field_of (lookup g.objects a) j ≡ slice_get (values_of g (node.Object a)) j
field_follows g a j = grind (arith, common_steps)

module _ (image : Image) (visits : List Visit) (at : ℕ) (low : 1 ≤ at) (inside : at < length visits) (are : AreVisits image visits) where
  abbrev v : Visit
  v = visit_at visits at

  by : IsFoundBy image (visit_at visits v.from) v at
  by = are.found at low inside

  module _ (place address : ℕ) (fields : List ℕ) where
    back : along (graph_of image) v.node place (reverse fields) ≡ Some (Ref address) → along (graph_of image) (visit_at visits v.from).node v.place (reverse (fields ++ place ∷ [])) ≡ Some (Ref address)
    back e = grind (arith, common_steps, reverse-append, by, field_follows)

    less_deep : (deep : ℕ) → length fields + v.depth ≡ deep → length (fields ++ place ∷ []) + (visit_at visits v.from).depth ≡ deep
    less_deep deep e = omega (arith, length-append fields (place ∷ []), by.deeper, e)

pub one_back : (image : Image) (visits : List Visit) (at place address : ℕ) (fields : List ℕ) → 1 ≤ at → at < length visits → AreVisits image visits → along (graph_of image) (visit_at visits at).node place (reverse fields) ≡ Some (Ref address)
    → along (graph_of image) (visit_at visits (visit_at visits at).from).node (visit_at visits at).place (reverse (fields ++ place ∷ [])) ≡ Some (Ref address)
one_back image visits at place address fields low inside are e = back image visits at low inside are place address fields e

pub depth_back : (image : Image) (visits : List Visit) (at place deep : ℕ) (fields : List ℕ) → 1 ≤ at → at < length visits → AreVisits image visits → length fields + (visit_at visits at).depth ≡ deep
    → length (fields ++ place ∷ []) + (visit_at visits (visit_at visits at).from).depth ≡ deep
depth_back image visits at place deep fields low inside are e = less_deep image visits at low inside are place 0 fields deep e

pub found_within : (image : Image) (visits : List Visit) (at : ℕ) → 1 ≤ at → at < length visits → AreVisits image visits → (visit_at visits at).from < length visits
found_within image visits at low inside are = grind (arith, common_steps, by)

-- what a reversal in place leaves
pub reversed : (items new : List ℕ) (len : ℕ) → len ≡ length items → new ≡ reverse items → take len (new ++ drop (length new) items) ≡ reverse items
reversed items new len count is = grind (arith, common_steps, length-reverse, drop_all, append-nil, take_all)

-- ---- least depths

module _ (image : Image) (visits : List Visit) (are : AreVisits image visits) (all : AreAllVisited image visits) where
  -- some visit at most this deep has a reference to the address
  pub record Found (address deep : ℕ) : Type 0 where
    pub number : ℕ
    pub within : number < length visits
    pub place : ℕ
    pub refers : RefersAt (graph_of image) (visit_at visits number).node place address
    pub depth : (visit_at visits number).depth ≤ deep

  deeper : (address m n : ℕ) → m ≤ n → Found address m → Found address n
  deeper address m n order f = record { number = f.number; within = f.within; place = f.place; refers = f.refers; depth = omega (arith, f.depth, order) }

  abbrev g : Graph
  g = graph_of image

  -- what going on from any visit along these fields finds
  abbrev FindsAlong : List ℕ → Type 0
  FindsAlong fields = (k i address : ℕ) → k < length visits → along g (visit_at visits k).node i fields ≡ Some (Ref address) → Found address ((visit_at visits k).depth + length fields)

  -- the object that value i refers to is visited
  from_object : (j : ℕ) (fields : List ℕ) → FindsAlong fields → (k i a address : ℕ) → k < length visits → RefersAt g (visit_at visits k).node i a → follow g.objects (field_of (lookup g.objects a) j) fields ≡ Some (Ref address)
      → (o : Option Block) → block_at image.words a ≡ o → Found address (suc ((visit_at visits k).depth + length fields))
  from_object j fields ih k i a address inside refers on None none =
      absurd (let not : None ≡ Some (Ref address) = (sym (ap (λ o. follow g.objects (field_of o j) fields) (lookup_of_blocks (blocks image.words) a ∙ ap object_option none)) ∙ on) in cc)
  from_object j fields ih k i a address inside refers on (Some b) some =
      let v : Visited visits a (suc (visit_at visits k).depth) = all k (suc i) inside i a (omega arith) refers (ap is_some some) in
      deeper address _ _ (omega (arith, v.depth)) (ih v.number j address v.within (ap (λ n. along g n j fields) v.object ∙ ap (λ o. follow g.objects o fields) (sym (field_follows g a j)) ∙ on))

  from_value : (j : ℕ) (fields : List ℕ) → FindsAlong fields → (k i address : ℕ) → k < length visits → (o : Option Value) → slice_get (values_of g (visit_at visits k).node) i ≡ o → follow g.objects o (j ∷ fields) ≡ Some (Ref address)
      → Found address ((visit_at visits k).depth + suc (length fields))
  from_value j fields ih k i address inside None is e = absurd (let no : None ≡ Some (Ref address) = e in cc)
  from_value j fields ih k i address inside (Some Nil) is e = absurd (let no : None ≡ Some (Ref address) = e in cc)
  from_value j fields ih k i address inside (Some (Num n)) is e = absurd (let no : None ≡ Some (Ref address) = e in cc)
  from_value j fields ih k i address inside (Some (Ref a)) is e = deeper address _ _ (omega arith) (from_object j fields ih k i a address inside is e (block_at image.words a) refl)

  found_along : (fields : List ℕ) → FindsAlong fields
  found_along [] k i address inside e = record {
    number = k;
    within = inside;
    place = i;
    refers = sym (follow_nil g.objects (slice_get (values_of g (visit_at visits k).node) i)) ∙ e;
    depth = omega arith;
  }
  found_along (j ∷ fields) k i address inside e = from_value j fields (found_along fields) k i address inside (slice_get (values_of g (visit_at visits k).node) i) refl e

  found_at_path : (place address : ℕ) (fields : List ℕ) → at_path (graph_of image) place fields ≡ Some (Ref address) → Found address (length fields)
  found_at_path place address fields e =
      deeper address _ _ (omega (arith, ap (λ (v : Visit). v.depth) are.roots))
      (found_along fields 0 place address (omega (arith, are.some)) (ap (λ n. along (graph_of image) n place fields) (ap (λ (v : Visit). v.node) are.roots) ∙ e))

  pub unreachable : (address : ℕ) → NoneRefers image visits (length visits) address → Reachable (graph_of image) address → ⊥
  unreachable address none r = let f : Found address (length r.1) = found_at_path r.0 address r.1 r.2 in none f.number f.place f.within f.refers

  pub least : (reference : Reference) (address place : ℕ) (fields : List ℕ) → IsFirstReference image visits reference address → at_path (graph_of image) place fields ≡ Some (Ref address) → (visit_at visits reference.visit).depth ≤ length fields
  least reference address place fields first e =
      let f : Found address (length fields) = found_at_path place address fields e in
      elim (cases_order f.number reference.visit) [
        | inl same ↦ subst (λ n. (visit_at visits n).depth ≤ length fields) same f.depth
        | inr (inl less) ↦ absurd (first.first f.number f.place less f.refers)
        | inr (inr more) ↦ (let below : (visit_at visits reference.visit).depth ≤ (visit_at visits f.number).depth = are.sorted reference.visit f.number (omega arith) f.within in omega (arith, below, f.depth))
      ]
