-- The loop that drops a collection: it clears the link of each original, to which the replica's link leads.
use Rattle.std.proofs.lemmas.Grind.{common_steps}
use Rattle.std.proofs.Common.{◌≡◌, ◌⊎◌, ⊎_elim, inl, inr, ℕ, ◌<◌, ◌≤◌, ◌==◌, true, List, [], ◌∷◌, length, Option, Some, None, is_some, refl, ap, sym, ◌∙◌, subst, arith}
use Rattle.std.specs.Prelude.{◌^◌}
use Rattle.std.specs.Result.{result_unwrap_or}
use Rattle.std.specs.Option.{option_map}
use Rattle.std.proofs.lemmas.Bool.{cases_Bool, eqb-true, eqb-false}
use Rattle.gc_graph.specs.Graph.{Object}
use Rattle.gc_words.specs.Image.{Block, blocks, block_at, is_start, object_of_block}
use Rattle.gc_words.specs.Layout.{link_place}
use Rattle.gc_words.specs.Spelling.{link_at, spelled, no_links}
use Rattle.gc_words.specs.Space.{IsSpace, with_word, without_links}
use Rattle.gc_words.specs.Walking.{next_of}
use Rattle.gc_words.proofs.Public.{walk_from, Behind, behind, at_end, has_next, some_of, link_written_there, link_written_beside, object_found, spelled_words}
use Rattle.gc_heap.specs.Heap.{HeapWords, IsHeap}
use Rattle.gc_model.specs.State.{Replica, replica_of}
use Rattle.gc_model.specs.Members.{In}
use Rattle.gc_copy.specs.Words.{CollectionWords, IsCollection, replica_entry, replicas_in, collection_in, idle_state, mark_of, Leads, LinksNothing, BelongsTo}
use Rattle.gc_copy.specs.Internal.Words.{KeepsGraph}
use Rattle.gc_model.proofs.Public.{in_map, in_map_from, replica_in}
use Rattle.gc_copy.proofs.Spaces.{in_start}
use Rattle.gc_copy.proofs.ObjectWalks.{Met, met_none, Passing, passing}
use Rattle.gc_copy.proofs.OpenCollection.{linked_heap, same_graph, start_kept}
use Rattle.gc_copy.proofs.LinkedImages.{spelled_agree}

-- ---- the loop's invariant

-- the object's replica is at this place of the new space or after it
abbrev pub IsAhead : List ℕ → ℕ → ℕ → Type 0
IsAhead words at a = (e : ℕ × Block) × In e (result_unwrap_or (walk_from words at) []) × (link_at words e.0 ≡ a)

-- each replica's original is an object of the heap, whose address is a `u32`
abbrev pub HasOriginals : List ℕ → HeapWords → Type 0
HasOriginals words heap = (r : Replica) → In r (replicas_in words) → (is_start heap.space.words r.original ≡ true) × (r.original < 2 ^ 32)

-- The heap differs from the old one only in links. An object's link is not above the mark, or its replica is still ahead. The original of
-- each replica has no link, or its replica is still ahead.
pub record Clears (epoch : ℕ) (words : List ℕ) (old now : HeapWords) (at : ℕ) : Type 0 where
  pub done : List (ℕ × Block)
  pub met : Met words at done
  pub originals : HasOriginals words old
  pub sound : IsHeap now
  pub graph : KeepsGraph old now
  pub links : (a : ℕ) → is_start old.space.words a ≡ true → (link_at now.space.words a ≤ mark_of epoch) ⊎ IsAhead words at a
  pub cleared : (r : Replica) → In r (replicas_in words) → (link_at now.space.words r.original ≡ 0) ⊎ IsAhead words at r.original

-- ---- its steps

pub then_kept : (old now new : HeapWords) → KeepsGraph old now → KeepsGraph now new → KeepsGraph old new
then_kept old now new k l = grind (arith, common_steps)

-- at first every replica is ahead
pub clears_none : (heap : HeapWords) (x c : CollectionWords) → x ≡ c → IsHeap heap → IsCollection x → BelongsTo heap c → Clears x.epoch x.space.words heap heap 1
clears_none heap x c seen sound is belongs = record {
  done = [];
  met = met;
  originals = λ r l. (let ok = (k.belongs).replicas r l in there (block_at heap.space.words r.original) ok.original (sym (object_found heap.space.words r.original) ∙ ok.found), is.originals r l);
  sound = sound;
  graph = same_graph heap;
  links = λ a start. from a start (replica_of (collection_in x) a) refl;
  cleared = λ r l. inr (ahead r l);
}
  where
    k : BelongsTo heap x
    k = subst (BelongsTo heap) (sym seen) belongs

    met : Met x.space.words 1 []
    met = met_none x.space is.space

    there : (o : Option Block) (object : Object) → option_map object_of_block o ≡ Some object → is_some o ≡ true
    there o object e = grind (arith, common_steps)

    ahead : (r : Replica) → In r (replicas_in x.space.words) → IsAhead x.space.words 1 r.original
    ahead r l = let entry = in_map_from (replica_entry x.space.words) r (blocks x.space.words) l in (entry.0, subst (In entry.0) met.split entry.1, ap (λ (q : Replica). q.original) entry.2)

    from : (a : ℕ) → is_start heap.space.words a ≡ true → (o : Option Replica) → replica_of (collection_in x) a ≡ o → (link_at heap.space.words a ≤ mark_of x.epoch) ⊎ IsAhead x.space.words 1 a
    from a start None e = inl (subst (λ (o : Option Replica). Leads x.epoch (option_map (λ (r : Replica). r.place) o) (link_at heap.space.words a)) e (k.links a start))
    from a start (Some r) e =
        let found = replica_in (collection_in x) a r e in
        let there = ahead r found.0 in
        inr (there.0, there.1, there.2 ∙ found.1)

-- the original that the link of the replica here leads to
pub original_here : (epoch : ℕ) (words : List ℕ) (old now : HeapWords) (at : ℕ) → Clears epoch words old now at → at < length words → (is_start now.space.words (link_at words at) ≡ true) × (link_at words at < 2 ^ 32)
original_here epoch words old now at k less =
    let n = some_of (next_of words at) (has_next words at less (k.met).walked) in
    let p : Passing words at n.0 k.done = passing words at n.0 k.done k.met less n.1 in
    let original = k.originals (replica_entry words (at, p.block)) (in_map (replica_entry words) (at, p.block) (blocks words) p.found) in
    (start_kept old now (link_at words at) k.graph ∙ original.0, original.1)

-- the link of one replica's original is cleared
pub clears_more : (epoch : ℕ) (words : List ℕ) (old now new : HeapWords) (at next : ℕ) → Clears epoch words old now at → at < length words → next_of words at ≡ Some next
    → new ≡ record now { space = with_word now.space (link_place (link_at words at)) 0 } → IsHeap new → Clears epoch words old new next
clears_more epoch words old now new at next k less e is sound =
    subst (λ h. Clears epoch words old h next) (sym is) (record {
      done = _;
      met = p.met;
      originals = k.originals;
      sound = subst IsHeap is sound;
      graph = then_kept old now after k.graph (linked_heap now (link_at words at) 0 k.sound there);
      links = λ a begins. ⊎_elim (λ same. inl (cleared a (eqb-true (link_at words at) a same))) (λ other. beside a (eqb-false (link_at words at) a other) (k.links a begins)) (cases_Bool (link_at words at == a));
      cleared = λ r l. ⊎_elim (λ same. inl (zero r.original (eqb-true (link_at words at) r.original same))) (λ other. still r.original (eqb-false (link_at words at) r.original other) (k.cleared r l)) (cases_Bool (link_at words at == r.original));
    })
  where
    after : HeapWords
    after = record now { space = with_word now.space (link_place (link_at words at)) 0 }

    p : Passing words at next k.done
    p = passing words at next k.done k.met less e

    b : Behind words at next
    b = behind words at next less (k.met).walked e

    there : is_start now.space.words (link_at words at) ≡ true
    there = (original_here epoch words old now at k less).0

    zero : (a : ℕ) → link_at words at ≡ a → link_at after.space.words a ≡ 0
    zero a same = ap (link_at after.space.words) (sym same) ∙ link_written_there now.space (link_at words at) 0 (k.sound).space there

    cleared : (a : ℕ) → link_at words at ≡ a → link_at after.space.words a ≤ mark_of epoch
    cleared a same = let none : link_at after.space.words a ≡ 0 = zero a same in omega arith

    behind_it : (a : ℕ) → (link_at words at ≡ a → ⊥) → IsAhead words at a → IsAhead words next a
    behind_it a other ahead = grind (arith, common_steps, b)

    beside : (a : ℕ) → (link_at words at ≡ a → ⊥) → (link_at now.space.words a ≤ mark_of epoch) ⊎ IsAhead words at a → (link_at after.space.words a ≤ mark_of epoch) ⊎ IsAhead words next a
    beside a other h = grind (arith, common_steps, link_written_beside, behind_it)

    still : (a : ℕ) → (link_at words at ≡ a → ⊥) → (link_at now.space.words a ≡ 0) ⊎ IsAhead words at a → (link_at after.space.words a ≡ 0) ⊎ IsAhead words next a
    still a other h = grind (arith, common_steps, link_written_beside, behind_it)

-- ---- after the last replica

pub none_above : (epoch : ℕ) (words : List ℕ) (old now : HeapWords) (at : ℕ) → Clears epoch words old now at → length words ≤ at → LinksNothing epoch now
none_above epoch words old now at k past a start = grind (arith, common_steps, start_kept, at_end)

pub none_left : (epoch : ℕ) (words : List ℕ) (old now : HeapWords) (at : ℕ) → Clears epoch words old now at → length words ≤ at
    → (r : Replica) → In r (replicas_in words) → link_at now.space.words r.original ≡ 0
none_left epoch words old now at k past r l = grind (arith, common_steps, at_end)

-- the heap without a collection is that of the old one
pub dropped_state : (epoch : ℕ) (words : List ℕ) (old now : HeapWords) (at : ℕ) → Clears epoch words old now at → idle_state now ≡ idle_state old
dropped_state epoch words old now at k = grind (arith, common_steps)

pub all_cleared : (words : List ℕ) (old now : HeapWords) (at : ℕ) → Clears 0 words old now at → length words ≤ at → now ≡ record old { space = without_links old.space }
all_cleared words old now at k past =
    let is : IsSpace now.space = (k.sound).space in
    let none : mark_of 0 ≡ 0 = refl in
    let each : (e : ℕ × Block) → In e (blocks now.space.words) → link_at now.space.words e.0 ≡ 0
    = λ e l. let above : link_at now.space.words e.0 ≤ mark_of 0 = none_above 0 words old now at k past e.0 (in_start now.space.words e l) in omega arith in
    let zero = spelled_agree (link_at now.space.words) no_links (blocks now.space.words) each in
    let all : now.space.words ≡ spelled no_links (blocks old.space.words) = spelled_words now.space.words is.walked is.end_low is.reserved ∙ ap (λ ws. 0 ∷ ws) zero ∙ ap (spelled no_links) (k.graph).blocks in
    λ i. record { space = record { size = (k.graph).size i; words = all i }; roots = (k.graph).roots i; mutators = (k.graph).mutators i }
