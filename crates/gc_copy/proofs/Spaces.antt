-- The replicas in the words of a space, and what writes do to them.
use Rattle.std.proofs.lemmas.Grind.{common_steps}
use Rattle.std.proofs.Common.{◌≡◌, inl, inr, ℕ, ◌+◌, ◌-◌, ◌<◌, ◌≤◌, ◌==◌, Bool, true, cond, length, List, [], ◌∷◌, ◌++◌, map, Some, is_some, refl, ap, sym, ◌∙◌, subst, arith}
use Rattle.std.specs.Prelude.{IsSome}
use Rattle.std.proofs.lemmas.Bool.{cases_Bool, cond-true, cond-false, eq-eqb}
use Rattle.std.proofs.lemmas.List.{length-map, map-append}
use Rattle.gc_graph.specs.Graph.{Value, Num, Object, lookup, set_field}
use Rattle.gc_words.specs.Word.{value_of}
use Rattle.gc_words.specs.Image.{Block, blocks, block_in, block_at, is_start, field_at, set_block, object_of_block, object_entry, objects_of}
use Rattle.gc_words.specs.Spelling.{spelled_from, link_at}
use Rattle.gc_words.proofs.Public.{IsBlock, spelled_words, objects_set, CanPlaceBlock, block_placed, field_written, link_written, none_at_end, block_there, link_placed_beside, link_beside_field, link_written_there, link_written_beside, object_found, fresh_object as new_block_object}
use Rattle.gc_words.specs.Layout.{link_place, field_place}
use Rattle.gc_words.specs.Space.{SpaceWords, IsSpace, end_of, free_in, with_block, with_word}
use Rattle.gc_model.specs.State.{Replica, new_objects, new_end, replica_of, fresh_object}
use Rattle.gc_model.specs.Steps.{write_replica}
use Rattle.gc_copy.specs.Words.{CollectionWords, replica_entry, replicas_in, collection_in}
use Rattle.gc_copy.specs.Internal.Words.{replica_block}
use Rattle.std.specs.Option.{option_map}
use Rattle.gc_model.specs.Members.{In}
use Rattle.gc_model.specs.Belonging.{BelongsBy}
use Rattle.gc_model.proofs.Public.{map_same, in_map, in_map_from, laid_end_is, lookup_laid, placed, with_written_pair, replica_in, write_is_set}
use Rattle.gc_copy.proofs.Words.{objects_laid}

-- ---- lists

map_agree : {X Y : Type 0} (f g : X → Y) (xs : List X) → ((x : X) → In x xs → f x ≡ g x) → map f xs ≡ map g xs
map_agree f g [] h = refl
map_agree f g (x ∷ xs) h = grind (arith, common_steps, map_agree f g xs (λ y k. h y (inr k)))

abbrev placed_of : Replica → ℕ × Object
placed_of r = (r.place, r.object)

-- equal originals and objects make equal replicas
replicas_same : (rs ss : List Replica) → map (λ r. r.original) rs ≡ map (λ r. r.original) ss → map placed_of rs ≡ map placed_of ss → rs ≡ ss
replicas_same [] [] e f = refl
replicas_same [] (s ∷ ss) e f = absurd cc
replicas_same (r ∷ rs) [] e f = absurd cc
replicas_same (r ∷ rs) (s ∷ ss) e f =
    let o : r.original ≡ s.original = cc e in
    let q : placed_of r ≡ placed_of s = cc f in
    let t : map (λ (r : Replica). r.original) rs ≡ map (λ (r : Replica). r.original) ss = cc e in
    let u : map placed_of rs ≡ map placed_of ss = cc f in
    let rest = replicas_same rs ss t u in
    λ i. record { original = o i; place = (q i).0; object = (q i).1 } ∷ rest i

-- ---- replicas in words

originals_at : (words : List ℕ) (bs : List (ℕ × Block)) → map (λ r. r.original) (map (replica_entry words) bs) ≡ map (link_at words) (map (λ e. e.0) bs)
originals_at words [] = refl
originals_at words (e ∷ bs) = let rest = originals_at words bs in λ i. link_at words e.0 ∷ rest i

placed_at : (words : List ℕ) (bs : List (ℕ × Block)) → map placed_of (map (replica_entry words) bs) ≡ map object_entry bs
placed_at words [] = refl
placed_at words (e ∷ bs) = let rest = placed_at words bs in λ i. object_entry e ∷ rest i

pub new_objects_are : (c : CollectionWords) → new_objects (collection_in c) ≡ objects_of c.space.words
new_objects_are c = placed_at c.space.words (blocks c.space.words)

pub new_end_is : (c : CollectionWords) → IsSpace c.space → new_end (collection_in c) ≡ end_of c.space
new_end_is c is =
    let ends = ap (λ os. Rattle.gc_model.specs.State.objects_end 1 os) (new_objects_are c) ∙ laid_end_is 1 (objects_of c.space.words) (c.space.size - free_in c.space) (objects_laid c.space is) in
    omega (arith, ends, is.end_high)

in_block : (bs : List (ℕ × Block)) (e : ℕ × Block) → In e bs → is_some (block_in bs e.0) ≡ true
in_block [] e k = absurd k
in_block (d ∷ bs) e (inl k) = ap is_some (cond-true (d.0 == e.0) (Some d.1) (block_in bs e.0) (eq-eqb d.0 e.0 (ap (λ (x : ℕ × Block). x.0) k)))
in_block (d ∷ bs) e (inr k) = grind (arith, common_steps, cond-true, eq-eqb, cond-false, cases_Bool, in_block bs e k)

pub in_start : (words : List ℕ) (e : ℕ × Block) → In e (blocks words) → is_start words e.0 ≡ true
in_start words e k = in_block (blocks words) e k

-- each replica is at a start of the space
pub replica_start : (words : List ℕ) (r : Replica) → In r (replicas_in words) → (e : ℕ × Block) × In e (blocks words) × (replica_entry words e ≡ r)
replica_start words r k = in_map_from (replica_entry words) r (blocks words) k

entry_agrees : (words others : List ℕ) (e : ℕ × Block) → link_at words e.0 ≡ link_at others e.0 → replica_entry words e ≡ replica_entry others e
entry_agrees words others e h = λ i. record { original = h i; place = e.0; object = object_of_block e.1 }

-- ---- a replica is placed

abbrev pub replica_at_end : SpaceWords → Block → ℕ → Replica
replica_at_end s b name = record { original = name; place = end_of s; object = object_of_block b }

pub space_placed : (s : SpaceWords) (b : Block) (name : ℕ) → CanPlaceBlock s b
    → let after = with_word (with_block s b) (link_place (end_of s)) name in IsSpace after × (replicas_in after.words ≡ replicas_in s.words ++ replica_at_end s b name ∷ [])
space_placed s b name can = (linked.0, each)
  where
    one : IsSpace (with_block s b) × (blocks (with_block s b).words ≡ blocks s.words ++ (end_of s, b) ∷ [])
    one = block_placed s b can

    start : is_start (with_block s b).words (end_of s) ≡ true
    start = ap is_some (block_there s b can)

    linked : IsSpace (with_word (with_block s b) (link_place (end_of s)) name) × (blocks (with_word (with_block s b) (link_place (end_of s)) name).words ≡ blocks (with_block s b).words)
    linked = link_written (with_block s b) (end_of s) name one.0 start

    words : List ℕ
    words = (with_word (with_block s b) (link_place (end_of s)) name).words

    apart : (e : ℕ × Block) → In e (blocks s.words) → end_of s ≡ e.0 → ⊥
    apart e k same = grind (arith, common_steps, is_some, words, in_start, none_at_end)

    link_kept : (e : ℕ × Block) → In e (blocks s.words) → link_at words e.0 ≡ link_at s.words e.0
    link_kept e k = link_written_beside (with_block s b) (end_of s) name e.0 (apart e k) ∙ link_placed_beside s b e.0 can.shaped (in_start s.words e k)

    last : replica_entry words (end_of s, b) ≡ replica_at_end s b name
    last = grind (arith, common_steps, link_written_there, one, start)

    each : replicas_in words ≡ replicas_in s.words ++ replica_at_end s b name ∷ []
    each =
        ap (map (replica_entry words)) (linked.1 ∙ one.1)
        ∙ map-append (replica_entry words) (blocks s.words) ((end_of s, b) ∷ [])
        ∙ ap (λ rs. rs ++ replica_entry words (end_of s, b) ∷ []) (map_agree (replica_entry words) (replica_entry s.words) (blocks s.words) (λ e k. entry_agrees words s.words e (link_kept e k)))
        ∙ ap (λ r. replicas_in s.words ++ r ∷ []) last

-- the object as which a replica is placed
pub replica_block_object : (b : Block) → IsBlock b → object_of_block (replica_block b) ≡ fresh_object (object_of_block b)
replica_block_object b whole = grind (arith, common_steps, cond-true, cond-false, new_block_object, length-map)

-- ---- a field is written

places_set : (bs : List (ℕ × Block)) (a i w : ℕ) → map (λ e. e.0) (set_block bs a i w) ≡ map (λ (e : ℕ × Block). e.0) bs
places_set [] a i w = refl
places_set (e ∷ bs) a i w = grind (arith, common_steps, cond-true, cond-false, cases_Bool, places_set bs a i w)

in_places : (bs : List (ℕ × Block)) (p : ℕ) → In p (map (λ e. e.0) bs) → is_some (block_in bs p) ≡ true
in_places bs p k = grind (arith, common_steps, in_map_from, in_block)

pub space_written : (Due : Bool → ℕ → ℕ → ℕ → Type 0) (objects : List (ℕ × Object)) (c : CollectionWords) (name i w : ℕ) (r : Replica) (v : Value)
    → IsSpace c.space → BelongsBy Due objects (collection_in c) → replica_of (collection_in c) name ≡ Some r → IsSome (field_at c.space.words r.place i) → cond r.object.raw (Num w) (value_of w) ≡ v
    → let after = with_word c.space (field_place r.place i) w in IsSpace after × (replicas_in after.words ≡ (write_replica (collection_in c) name i v).replicas)
space_written Due objects c name i w r v is belongs found there means = (done.0, replicas_same (replicas_in words) (write_replica (collection_in c) name i v).replicas same_originals same_objects)
  where
    done : IsSpace (with_word c.space (field_place r.place i) w) × (blocks (with_word c.space (field_place r.place i) w).words ≡ set_block (blocks c.space.words) r.place i w)
    done = field_written c.space r.place i w is there

    words : List ℕ
    words = (with_word c.space (field_place r.place i) w).words

    places : map (λ (e : ℕ × Block). e.0) (blocks words) ≡ map (λ (e : ℕ × Block). e.0) (blocks c.space.words)
    places = ap (map (λ (e : ℕ × Block). e.0)) done.1 ∙ places_set (blocks c.space.words) r.place i w

    same_originals : map (λ (r : Replica). r.original) (replicas_in words) ≡ map (λ (r : Replica). r.original) (write_replica (collection_in c) name i v).replicas
    same_originals = grind (arith, common_steps, originals_at, words, places, map_agree, link_beside_field, in_places, map_same, with_written_pair)

    block : (b : Block) × (block_at c.space.words r.place ≡ Some b)
    block = grind (arith, common_steps, words)

    same_object : object_of_block block.0 ≡ r.object
    same_object =
        let l = replica_in (collection_in c) name r found in
        let there = subst (λ os. lookup os r.place ≡ Some r.object) (new_objects_are c) (lookup_laid 1 (new_objects (collection_in c)) (new_end (collection_in c)) r.place r.object belongs.laid (in_map placed r (replicas_in c.space.words) l.0)) in
        (let s : Some (object_of_block block.0) ≡ Some r.object = sym (object_found c.space.words r.place ∙ ap (option_map object_of_block) block.1) ∙ there in cc)

    same_objects : map placed_of (replicas_in words) ≡ map placed_of (write_replica (collection_in c) name i v).replicas
    same_objects =
        placed_at words (blocks words)
        ∙ ap (map object_entry) done.1
        ∙ objects_set (blocks c.space.words) r.place i w block.0 block.1
        ∙ ap (set_field (objects_of c.space.words) r.place i) (ap (λ (o : Object). cond o.raw (Num w) (value_of w)) same_object ∙ means)
        ∙ ap (λ os. set_field os r.place i v) (sym (new_objects_are c))
        ∙ sym (write_is_set Due objects (collection_in c) belongs name i v r found)

-- ---- how many objects a space has

set_block_keeps_count : (bs : List (ℕ × Block)) (place i w : ℕ) → length (set_block bs place i w) ≡ length bs
set_block_keeps_count [] place i w = refl
set_block_keeps_count (e ∷ bs) place i w = grind (arith, common_steps, cond-true, cond-false, cases_Bool, set_block_keeps_count bs place i w)

-- a written field changes no count
pub count_written : (n : ℕ) (old new : List (ℕ × Block)) (place i w : ℕ) → n ≡ length old → new ≡ set_block old place i w → n ≡ length new
count_written n old new place i w counted written = counted ∙ sym (ap length written ∙ set_block_keeps_count old place i w)

two_words_each : (links : ℕ → ℕ) (bs : List (ℕ × Block)) → length bs + length bs ≤ length (spelled_from links bs)
two_words_each links [] = omega arith
two_words_each links (e ∷ bs) = grind (arith, common_steps, two_words_each links bs)

-- each object takes two words at least, and word 0 belongs to none
pub count_small : (s : SpaceWords) → IsSpace s → length (blocks s.words) + length (blocks s.words) < length s.words
count_small s is = omega (arith, ap length (spelled_words s.words is.walked is.end_low is.reserved), two_words_each (link_at s.words) (blocks s.words))

-- a replica more
pub count_placed : (n : ℕ) (old new : List ℕ) (r : Replica) → n ≡ length (blocks old) → replicas_in new ≡ replicas_in old ++ r ∷ [] → n + 1 ≡ length (blocks new)
count_placed n old new r counted grown = grind (arith, common_steps, length-map)
