-- The collector's memory holds the replicas of its view.
use Rattle.std.proofs.lemmas.Grind.{common_steps}
use Rattle.std.proofs.Common.{◌≡◌, ◌≢◌, ℕ, zero, suc, ◌+◌, ◌-◌, ◌<◌, ◌≤◌, ◌==◌, Bool, true, false, true≢false, List, [], ◌∷◌, ◌++◌, length, replicate, get_or, set, map, Some, None, is_some, refl, ap, sym, ◌∙◌, subst, inl, ⊎_elim, arith, length-set, get_or-set_same, get_or-set_other, lt_of_not-le}
use Rattle.std.specs.Prelude.{slice_index, slice_set, nat_lt, IsSome, IsTrue, if◌then◌else◌}
use Rattle.std.specs.Option.{option_map, option_map_or, option_or}
use Rattle.std.specs.List.{find}
use Rattle.std.specs.declared.option.Option.{Option as Opt}
use Rattle.std.proofs.Math.Logic.{∥∥₁_elim}
use Rattle.std.proofs.Props.{props}
use Rattle.std.proofs.lemmas.Bool.{cond-true, cond-false, eq-eqb, eqb-true, ne_eqb, cases_Bool, cases_lt, le-ltb, lt-ltb}
use Rattle.std.proofs.lemmas.List.Folds.{find-append}
use mathlib.Core.Logic.{dite}
use native.Mathlib.Decide.{ℕ_discrete}
use base.Stored.{Coded-set}
use Rattle.std.proofs.lemmas.List.{ext_get_or, get_or-replicate, get_or_past, length-replicate}
use Rattle.std.specs.Coded.{coded_list}
use Rattle.gc_graph.specs.Graph.{Value, Nil, Num, Ref, Object, new_object}
use Rattle.gc_graph.specs.Machine.{object_words}
use Rattle.gc_words.specs.Image.{Block, blocks, block_in, block_at, is_start, field_at, object_of_block, fresh_block}
use Rattle.gc_words.specs.Spelling.{link_at}
use Rattle.gc_words.specs.Word.{is_value, value_of}
use Rattle.gc_words.specs.Closed.{IsWordOfField, RefersToStart}
use Rattle.gc_words.specs.Space.{SpaceWords, CanPlace, end_of, free_in, with_field_at, with_object, with_link}
use Rattle.gc_words.specs.declared.header.Header.{Header}
use Rattle.gc_words.proofs.Public.{fields_counted, some_of, fresh_object, can_place_fresh}
use Rattle.gc_model.specs.State.{Replica, new_end, new_free, replica_of, moved, objects_end}
use Rattle.gc_model.specs.Steps.{with_written, scan_done}
use Rattle.gc_model.specs.Members.{In}
use Rattle.gc_model.proofs.Public.{find_some, laid_range, in_map, in_map_from, in_push, in_right, pair, same_place, placed, replica_exists, replicas_end, replica_in, place_written, with_written_pair}
use Rattle.gc_copy.specs.Words.{replica_entry, replicas_in}
use Rattle.gc_copy.proofs.Public.{new_end_is, in_start, replica_start, space_placed}
use Rattle.gc_concurrent.specs.Ends.{Mine, Theirs}
use Rattle.gc_concurrent.specs.Internal.Codes.{replica_coded}
use Rattle.gc_concurrent.specs.Ends.{its}
use Rattle.gc_concurrent.specs.Internal.Rule.{Loose, StartsThere, IsWordAs, lacks, brought, read_as, placed_one, blank_replica}
use Rattle.gc_concurrent.specs.Internal.Flip.{Holds}
use Rattle.gc_concurrent.specs.Moves.{half}
use Rattle.gc_concurrent.specs.Internal.Copiers.{Claims, HasOwnHalf, KeepsReplicas, claim_by_half, moved_by}
use Rattle.gc_concurrent.proofs.CatchUp.{catches_up}
use Rattle.gc_concurrent.proofs.Halves.{same_found, told_own}

le_prop : (a b : ℕ) → IsProp (a ≤ b)
le_prop a b = hlevel props

bool_prop : (a b : Bool) → IsProp (a ≡ b)
bool_prop a b = hlevel props

-- an original lies in the mutator's space
pub near : (t : Theirs) → ∥ Loose t ∥₁ → (q : Replica) → In q t.replicas → q.original + (length q.object.fields + 2) ≤ t.old
near t l q k = ∥∥₁_elim l (le_prop _ _) (λ (x : Loose t). let rep = (x.belongs).replicas q k in let w = x.within q.original rep.original rep.found in let n = rep.len in omega arith)

-- replicas lie behind word 0
pub some_place : (t : Theirs) → ∥ Loose t ∥₁ → (q : Replica) → In q t.replicas → 1 ≤ q.place
some_place t l q k = ∥∥₁_elim l (le_prop _ _) (λ (x : Loose t). (laid_range 1 (map placed t.replicas) (replicas_end t.replicas) (placed q) (x.belongs).laid (in_map placed q t.replicas k)).0)

pub old_high : (t : Theirs) → ∥ Loose t ∥₁ → t.old ≤ 4294967295
old_high t l = ∥∥₁_elim l (le_prop _ _) (λ (x : Loose t). x.old_high)

pub old_low : (t : Theirs) → ∥ Loose t ∥₁ → 1 ≤ t.old
old_low t l = ∥∥₁_elim l (le_prop _ _) (λ (x : Loose t). x.old_low)

pub end_is : (t : Theirs) (space : SpaceWords) → Holds space t → new_end (its t) ≡ end_of space
end_is t space h = ap (λ (rs : List Replica). objects_end 1 (map placed rs)) h.same ∙ new_end_is (record { space = space; logs = []; scan_place = 1; scan_field = 0; epoch = 0 }) h.shaped

-- ---- at the scan pointer

pub scan_start : (t : Theirs) (space : SpaceWords) → Holds space t → ∥ Loose t ∥₁ → t.scan_place < end_of space → is_start space.words t.scan_place ≡ true
scan_start t space h l less = ∥∥₁_elim l (bool_prop _ _) (λ (x : Loose t). ⊎_elim
    (λ z. let e = replica_start space.words z.0 (subst (In z.0) h.same z.1) in
    subst (λ p. is_start space.words p ≡ true) (ap (λ (r : Replica). r.place) e.2 ∙ z.2) (in_start space.words e.0 e.1))
    (λ z. absurd (let y = end_is t space h in let w = z.0 in omega arith))
    (x.belongs).scan)

-- the replica that stands at a start
pub record Stands (t : Theirs) (space : SpaceWords) (place : ℕ) : Type 0 where
  pub block : Block
  pub found : block_at space.words place ≡ Some block
  pub replica : Replica
  pub there : In replica t.replicas
  pub place_is : replica.place ≡ place
  pub link : replica.original ≡ link_at space.words place
  pub raw : replica.object.raw ≡ block.header.raw
  pub many : length replica.object.fields ≡ block.header.len

block_there_in : (bs : List (ℕ × Block)) (a : ℕ) (b : Block) → block_in bs a ≡ Some b → In (a, b) bs
block_there_in [] a b e = absurd cc
block_there_in (d ∷ bs) a b e = grind (arith, common_steps, cond-true, cond-false, cases_Bool, eqb-true, block_there_in bs a b)

pub stands_at : (t : Theirs) (space : SpaceWords) (place : ℕ) → Holds space t → is_start space.words place ≡ true → Stands t space place
stands_at t space place h start =
    let b = some_of (block_at space.words place) start in
    let q : Replica = replica_entry space.words (place, b.0) in
    record {
      block = b.0;
      found = b.1;
      replica = q;
      there = subst (In q) (sym h.same) (in_map (replica_entry space.words) (place, b.0) (blocks space.words) (block_there_in (blocks space.words) place b.0 b.1));
      place_is = refl;
      link = refl;
      raw = refl;
      many = fields_counted space.words place b.0 (h.shaped).walked b.1;
    }

-- a replica of the view is in memory
pub stands_for : (t : Theirs) (space : SpaceWords) (q : Replica) → Holds space t → In q t.replicas → is_start space.words q.place ≡ true
stands_for t space q h k =
    let e = replica_start space.words q (subst (In q) h.same k) in
    subst (λ p. is_start space.words p ≡ true) (ap (λ (r : Replica). r.place) e.2) (in_start space.words e.0 e.1)

pub one_there : (t : Theirs) → ∥ Loose t ∥₁ → (p q : Replica) → In p t.replicas → In q t.replicas → p.place ≡ q.place → ∥ p ≡ q ∥₁
one_there t l p q a b e = ∥∥₁_elim l (hlevel props) (λ (x : Loose t). ∣ same_place 1 t.replicas (replicas_end t.replicas) p q (x.belongs).laid a b e ∣₁)

pub scan_low : (t : Theirs) (space : SpaceWords) → Holds space t → ∥ Loose t ∥₁ → t.scan_place < end_of space → (q : Replica) → In q t.replicas → q.place ≡ t.scan_place → t.scan_field ≤ length q.object.fields
scan_low t space h l less q k e = ∥∥₁_elim l (le_prop _ _) (λ (x : Loose t). ⊎_elim
    (λ z. let one : z.0 ≡ q = same_place 1 t.replicas (replicas_end t.replicas) z.0 q (x.belongs).laid z.1 k (z.2 ∙ sym e) in
    subst (λ (r : Replica). t.scan_field ≤ length r.object.fields) one z.3)
    (λ z. absurd (let y = end_is t space h in let w = z.0 in omega arith))
    (x.belongs).scan)

-- ---- claims

place_first : (b : Bool) (r : Replica) (o : Opt Replica) → option_map_or (λ (r : Replica). r.place) (if b then Some r else o) 0 ≡ (if b then r.place else option_map_or (λ (r : Replica). r.place) o 0)
place_first true r o = refl
place_first false r o = refl

places_kept : (rs : List Replica) (name i k : ℕ) (w : Value) → claim_by_half (map (with_written name i w) rs) k ≡ claim_by_half rs k
places_kept [] name i k w = refl
places_kept (r ∷ rs) name i k w =
    let same : pair (with_written name i w r) ≡ pair r = with_written_pair name i w r in
    place_first (half (with_written name i w r).original == k) (with_written name i w r) (find (λ r. half r.original == k) (map (with_written name i w) rs))
    ∙ (λ j. if half (same j).0 == k then (same j).1 else places_kept rs name i k w j)
    ∙ sym (place_first (half r.original == k) r (find (λ r. half r.original == k) rs))

pub claims_kept : (row : List ℕ) (t : Theirs) (name i : ℕ) (v : Value) → Claims row t → Claims row (brought name i v t)
claims_kept row t name i v c = record { long = c.long; told = λ k l. c.told k l ∙ sym (places_kept t.replicas name i k (moved (its t) v)) }

-- the object of a claim has a replica
pub claimed : (row : List ℕ) (t : Theirs) (a : ℕ) → Claims row t → HasOwnHalf t a → slice_index row (half a) ≢ 0 → (q : Replica) × (replica_of (its t) a ≡ Some q) × (In q t.replicas) × (q.original ≡ a) × (q.place ≡ slice_index row (half a))
claimed row t a c own ne = go (replica_of (its t) a) refl
  where
    go : (o : Opt Replica) → replica_of (its t) a ≡ o → (q : Replica) × (replica_of (its t) a ≡ Some q) × (In q t.replicas) × (q.original ≡ a) × (q.place ≡ slice_index row (half a))
    go None e = absurd (ne (told_own row t a c own ∙ ap (λ o. option_map_or (λ (r : Replica). r.place) o 0) e))
    go (Some q) e = let r = replica_in (its t) a q e in (q, e, r.0, r.1, sym (told_own row t a c own ∙ ap (λ o. option_map_or (λ (r : Replica). r.place) o 0) e))

pub unclaimed : (row : List ℕ) (t : Theirs) (a : ℕ) → ∥ Loose t ∥₁ → Claims row t → HasOwnHalf t a → slice_index row (half a) ≡ 0 → replica_of (its t) a ≡ None
unclaimed row t a loose c own e = go (replica_of (its t) a) refl
  where
    go : (o : Opt Replica) → replica_of (its t) a ≡ o → replica_of (its t) a ≡ None
    go None x = x
    go (Some q) x = absurd (let r = replica_in (its t) a q x in let low = some_place t loose q r.0 in
        let p : q.place ≡ 0 = sym (told_own row t a c own ∙ ap (λ o. option_map_or (λ (r : Replica). r.place) o 0) x) ∙ e in omega arith)

pub lacks_not : (row : List ℕ) (t : Theirs) (v : Value) → Claims row t → ((a : ℕ) → v ≡ Ref a → HasOwnHalf t a) → ((a : ℕ) → v ≡ Ref a → slice_index row (half a) ≢ 0) → lacks (its t) v ≡ None
lacks_not row t Nil c own ne = refl
lacks_not row t (Num n) c own ne = refl
lacks_not row t (Ref a) c own ne = let q = claimed row t a c (own a refl) (ne a refl) in ap (λ (o : Opt Replica). if is_some o then None else Some a) q.1

pub moves_so : (row : List ℕ) (t : Theirs) (v : Value) → Claims row t → ((a : ℕ) → v ≡ Ref a → HasOwnHalf t a) → ((a : ℕ) → v ≡ Ref a → slice_index row (half a) ≢ 0) → moved (its t) v ≡ moved_by row v
moves_so row t Nil c own ne = refl
moves_so row t (Num n) c own ne = refl
moves_so row t (Ref a) c own ne = let q = claimed row t a c (own a refl) (ne a refl) in
    ap (λ (o : Opt Replica). Ref (option_map_or (λ (r : Replica). r.place) o a)) q.1 ∙ ap Ref q.4

pub lacks_so : (row : List ℕ) (t : Theirs) (v : Value) (a : ℕ) → ∥ Loose t ∥₁ → Claims row t → HasOwnHalf t a → v ≡ Ref a → slice_index row (half a) ≡ 0 → lacks (its t) v ≡ Some a
lacks_so row t v a loose c own is e = ap (lacks (its t)) is ∙ ap (λ (o : Opt Replica). if is_some o then None else Some a) (unclaimed row t a loose c own e)

-- ---- a field is written

-- a value that refers to replicas refers to objects of the space
moved_refers : (row : List ℕ) (t : Theirs) (space : SpaceWords) (v : Value) → Holds space t → Claims row t → ((a : ℕ) → v ≡ Ref a → HasOwnHalf t a) → ((a : ℕ) → v ≡ Ref a → slice_index row (half a) ≢ 0) → RefersToStart space.words (moved_by row v)
moved_refers row t space Nil h c own ne = tt
moved_refers row t space (Num n) h c own ne = tt
moved_refers row t space (Ref a) h c own ne =
    let q = claimed row t a c (own a refl) (ne a refl) in
    subst (λ p. is_start space.words p ≡ true) q.4 (stands_for t space q.0 h q.2)

-- a field word that follows may be in a field of the replica
pub field_word_moved : (raw : Bool) (row : List ℕ) (t : Theirs) (space : SpaceWords) (word w : ℕ) → Holds space t → Claims row t → IsWordAs raw word → read_as raw w ≡ moved_by row (read_as raw word) → (raw ≡ false → IsTrue (is_value w))
    → ((a : ℕ) → read_as raw word ≡ Ref a → HasOwnHalf t a) → ((a : ℕ) → read_as raw word ≡ Ref a → slice_index row (half a) ≢ 0) → IsWordOfField raw space.words w
field_word_moved true row t space word w h c is moved value own ne = let e : Num w ≡ Num word = moved in let same : w ≡ word = cc e in omega arith
field_word_moved false row t space word w h c is moved value own ne = record { value = value refl; start = subst (RefersToStart space.words) (sym moved) (moved_refers row t space (value_of word) h c own ne) }

pub written_same : (t : Theirs) (space : SpaceWords) (q : Replica) (i w : ℕ) (v : Value) → Holds space t → ∥ Loose t ∥₁ → In q t.replicas → IsSome (field_at space.words q.place i) → read_as q.object.raw w ≡ moved (its t) v
    → (brought q.original i v t).replicas ≡ replicas_in (with_field_at space q.place i w).words
written_same t space q i w v h l here there means = ∥∥₁_elim l (Coded-set (coded_list replica_coded) _ _)
    (λ (x : Loose t). sym (catches_up (λ _ _ _ _. Unit {0}) x.objects space t q i w v h.shaped h.sized x.belongs h.same here there means).1)

-- places fit an address
pub claim_low : (row : List ℕ) (t : Theirs) → ∥ Loose t ∥₁ → Claims row t → (k : ℕ) → slice_index row k < 4294967295
claim_low row t loose c k = ∥∥₁_elim loose (hlevel props) (λ (x : Loose t). ⊎_elim
    (λ (l : k < half t.old). at x l (find (λ r. half r.original == k) t.replicas) refl)
    (λ (past : half t.old ≤ k). let n : get_or row k 0 ≡ 0 = get_or_past row k 0 (let m = c.long in omega arith) in omega arith)
    (cases_lt k (half t.old)))
  where
    at : (x : Loose t) → k < half t.old → (o : Opt Replica) → find (λ r. half r.original == k) t.replicas ≡ o → slice_index row k < 4294967295
    at x l None e = let n : slice_index row k ≡ 0 = c.told k l ∙ ap (λ o. option_map_or (λ (r : Replica). r.place) o 0) e in omega arith
    at x l (Some q) e =
        let n : slice_index row k ≡ q.place = c.told k l ∙ ap (λ o. option_map_or (λ (r : Replica). r.place) o 0) e in
        let there = find_some (λ (r : Replica). half r.original == k) t.replicas q e in
        let range = laid_range 1 (map placed t.replicas) (replicas_end t.replicas) (placed q) (x.belongs).laid (in_map placed q t.replicas there.0) in
        let room = (x.belongs).room in let high = x.high in omega arith

-- claims depend on the replicas alone
pub claims_as : (row : List ℕ) (t u : Theirs) → u.old ≡ t.old → u.replicas ≡ t.replicas → Claims row t → Claims row u
claims_as row t u old same c = record {
  long = c.long ∙ ap half (sym old);
  told = λ k l. c.told k (subst (λ n. k < half n) old l) ∙ ap (λ (rs : List Replica). claim_by_half rs k) (sym same);
}

no_replicas : (words : List ℕ) → length words ≡ 1 → replicas_in words ≡ []
no_replicas [] one = absurd (omega arith)
no_replicas (w ∷ []) one = refl
no_replicas (w ∷ x ∷ rest) one = absurd (omega arith)

-- a new space of one word has no replica, so each claim is 0
pub claims_none : (row : List ℕ) (t : Theirs) (space : SpaceWords) → t.replicas ≡ replicas_in space.words → Claims row t → end_of space ≡ 1 → row ≡ replicate (length row) 0
claims_none row t space same c end =
    let none : t.replicas ≡ [] = same ∙ no_replicas space.words end in
    ext_get_or 0 row (replicate (length row) 0) (sym (length-replicate (length row) 0))
    (λ k l. c.told k (subst (λ n. k < n) c.long l) ∙ ap (λ (rs : List Replica). claim_by_half rs k) none ∙ sym (get_or-replicate (length row) k 0 0 l))

-- ---- replicas stay

some_placed : (o p : Opt Replica) → option_map (λ (r : Replica). r.place) p ≡ option_map (λ (r : Replica). r.place) o → IsSome o → IsSome p
some_placed None p e there = absurd (true≢false (sym there))
some_placed (Some q) None e there = absurd cc
some_placed (Some q) (Some r) e there = refl

pub brought_keeps : (t : Theirs) (name i : ℕ) (v : Value) → KeepsReplicas t (brought name i v t)
brought_keeps t name i v a there = some_placed (replica_of (its t) a) (replica_of (its (brought name i v t)) a) (place_written t.replicas name i a (moved (its t) v)) there

some_first : (o p : Opt Replica) → IsSome o → IsSome (option_or o p)
some_first None p there = absurd (true≢false (sym there))
some_first (Some q) p there = refl

pub placed_keeps : (t : Theirs) (name : ℕ) (o : Object) → KeepsReplicas t (placed_one name o t)
placed_keeps t name o a there =
    let blank : Replica = blank_replica name (new_end (its t)) o in
    ap is_some (find-append (λ (r : Replica). r.original == a) t.replicas (blank ∷ [])) ∙ some_first (replica_of (its t) a) (find (λ (r : Replica). r.original == a) (blank ∷ [])) there

-- originals stay those of objects of the mutator's space
pub brought_starts : (m : Mine) (t : Theirs) (name i : ℕ) (v : Value) → StartsThere m t → StartsThere m (brought name i v t)
brought_starts m t name i v starts r there =
    let o = in_map_from (with_written name i (moved (its t) v)) r t.replicas there in
    let same : o.0.original ≡ r.original = sym (ap (λ (z : ℕ × ℕ). z.0) (with_written_pair name i (moved (its t) v) o.0)) ∙ ap (λ (x : Replica). x.original) o.2 in
    subst (λ n. is_start m.space.words n ≡ true) same (starts o.0 o.1)

pub placed_starts : (m : Mine) (t : Theirs) (name : ℕ) (o : Object) → is_start m.space.words name ≡ true → StartsThere m t → StartsThere m (placed_one name o t)
placed_starts m t name o start starts r there = ⊎_elim
    (λ old. starts r old)
    (λ blank. subst (λ n. is_start m.space.words n ≡ true) (ap (λ (x : Replica). x.original) blank) start)
    (in_push r (blank_replica name (new_end (its t)) o) t.replicas there)

-- the replica that was placed
pub placed_there : (t : Theirs) (name : ℕ) (o : Object) → IsSome (replica_of (its (placed_one name o t)) name)
placed_there t name o =
    let blank : Replica = blank_replica name (new_end (its t)) o in
    ap is_some ((replica_exists (its (placed_one name o t)) blank (in_right blank t.replicas (blank ∷ []) (inl refl))).1)

-- ---- entries

-- the field of the oldest entry is there
pub entry_field : (t : Theirs) → ∥ Loose t ∥₁ → (q : Replica) (i : ℕ) (rest : List (ℕ × ℕ)) → In q t.replicas → t.due ≡ (q.original, i) ∷ rest → i < length q.object.fields
entry_field t l q i rest k due = ∥∥₁_elim l (le_prop _ _) (λ (x : Loose t).
    let h = (x.belongs).entries q.original i (0, subst (In {X = ℕ × ℕ} (q.original, i)) (sym due) (inl refl)) in
    let rep = (x.belongs).replicas q k in
    let same : Some h.0 ≡ Some rep.original = sym h.1 ∙ rep.found in
    let same' : h.0 ≡ rep.original = cc same in
    let e : length h.0.fields ≡ length rep.original.fields = ap (λ (o : Object). length o.fields) same' in
    let n = rep.len in let m = h.2 in omega arith)

-- the word at a place, whatever stands behind the end
pub at_place : (l : List ℕ) (k x : ℕ) → k < length l → x ≡ get_or l k x → slice_index l k ≡ x
at_place [] k x h e = absurd (omega arith)
at_place (y ∷ ys) zero x h e = sym e
at_place (y ∷ ys) (suc k) x h e = at_place ys k x (omega arith) e

-- ---- a replica is placed

free_is : (t : Theirs) (space : SpaceWords) → Holds space t → new_free (its t) ≡ free_in space
free_is t space h = λ i. sym h.sized i - end_is t space h i

pub room_told : (t : Theirs) (space : SpaceWords) (n : ℕ) → Holds space t → object_words n ≤ free_in space → object_words n ≤ new_free (its t)
room_told t space n h fits = let e = free_is t space h in omega arith

pub has_room : (t : Theirs) (space : SpaceWords) (n : ℕ) → Holds space t → object_words n ≤ free_in space → nat_lt (new_free (its t)) (object_words n) ≡ false
has_room t space n h fits = le-ltb (new_free (its t)) (object_words n) (let e = free_is t space h in omega arith)

pub no_room : (t : Theirs) (space : SpaceWords) (n : ℕ) → Holds space t → (object_words n ≤ free_in space → ⊥) → nat_lt (new_free (its t)) (object_words n) ≡ true
no_room t space n h none = lt-ltb (new_free (its t)) (object_words n) (let l : free_in space < object_words n = lt_of_not-le none in let e = free_is t space h in omega arith)

pub placed_same : (t : Theirs) (space : SpaceWords) (name : ℕ) (header : Header) (o : Object) → Holds space t → header ≡ record { raw = o.raw; kind = o.kind; len = length o.fields } → CanPlace space header
    → (placed_one name o t).replicas ≡ replicas_in (with_link (with_object space header) (end_of space) name).words
placed_same t space name header o h is can =
    let object : new_object o.raw o.kind (length o.fields) ≡ object_of_block (fresh_block header) = (λ i. new_object (sym is i).raw (sym is i).kind (sym is i).len) ∙ sym (fresh_object header) in
    (λ i. h.same i ++ record { original = name; place = end_is t space h i; object = object i } ∷ [])
    ∙ sym (space_placed space (fresh_block header) name (can_place_fresh space header can)).1

or_none : (o : Opt Replica) → option_or o None ≡ o
or_none None = refl
or_none (Some q) = refl

pub claims_placed : (row : List ℕ) (t : Theirs) (name : ℕ) (o : Object) → Claims row t → replica_of (its t) name ≡ None → HasOwnHalf t name → Claims (slice_set row (half name) (new_end (its t))) (placed_one name o t)
claims_placed row t name o c missing own = record { long = length-set row (half name) (new_end (its t)) ∙ c.long; told = told }
  where
    here : (k : ℕ) → half name ≡ k → claim_by_half (t.replicas ++ blank_replica name (new_end (its t)) o ∷ []) k ≡ new_end (its t)
    here k e = ap (λ (x : Opt Replica). option_map_or (λ (r : Replica). r.place) x 0)
        (find-append (λ (r : Replica). half r.original == k) t.replicas (blank_replica name (new_end (its t)) o ∷ [])
        ∙ (ap (λ (x : Opt Replica). option_or x (find (λ r. half r.original == k) (blank_replica name (new_end (its t)) o ∷ []))) (subst (λ n. find (λ r. half r.original == n) t.replicas ≡ None) e (same_found t.replicas name own.apart ∙ missing))
        ∙ cond-true (half name == k) (Some (blank_replica name (new_end (its t)) o)) None (eq-eqb (half name) k e)))

    other : (k : ℕ) → (half name ≡ k → ⊥) → claim_by_half (t.replicas ++ blank_replica name (new_end (its t)) o ∷ []) k ≡ claim_by_half t.replicas k
    other k ne = ap (λ (x : Opt Replica). option_map_or (λ (r : Replica). r.place) x 0)
        (find-append (λ (r : Replica). half r.original == k) t.replicas (blank_replica name (new_end (its t)) o ∷ [])
        ∙ (ap (option_or (find (λ (r : Replica). half r.original == k) t.replicas)) (cond-false (half name == k) (Some (blank_replica name (new_end (its t)) o)) None (ne_eqb (half name) k ne))
        ∙ or_none (find (λ (r : Replica). half r.original == k) t.replicas)))

    told : (k : ℕ) → k < half t.old → slice_index (slice_set row (half name) (new_end (its t))) k ≡ claim_by_half (t.replicas ++ blank_replica name (new_end (its t)) o ∷ []) k
    told k l = dite (ℕ_discrete (half name) k)
        (λ e. subst (λ n. get_or (set row (half name) (new_end (its t))) n 0 ≡ new_end (its t)) e (get_or-set_same row (half name) (new_end (its t)) 0 (let n = c.long in let w = own.near in omega arith)) ∙ sym (here k e))
        (λ ne. get_or-set_other row (half name) k (new_end (its t)) 0 (λ e. ne (sym e)) ∙ (c.told k l ∙ sym (other k ne)))

-- ---- the end

pub scan_end : (t : Theirs) (space : SpaceWords) → Holds space t → ∥ Loose t ∥₁ → end_of space ≤ t.scan_place → scan_done (its t) ≡ true
scan_end t space h l past = ∥∥₁_elim l (bool_prop _ _) (λ (x : Loose t). ⊎_elim
    (λ z. absurd (let range = laid_range 1 (map placed t.replicas) (replicas_end t.replicas) (placed z.0) (x.belongs).laid (in_map placed z.0 t.replicas z.1) in
    let e = end_is t space h in let p = z.2 in omega arith))
    (λ z. eq-eqb t.scan_place (new_end (its t)) z.0)
    (x.belongs).scan)
