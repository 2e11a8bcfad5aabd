-- The images that a heap and its collection give the checker, and how commands change them.
use Rattle.std.proofs.lemmas.Grind.{common_steps}
use Rattle.std.proofs.Common.{◌*◌, ◌≡◌, ⊎_elim, inr, ℕ, ◌+◌, ◌-◌, ◌≤◌, ◌<◌, true, false, List, [], ◌∷◌, map, flat_map, length, Option, Some, None, is_some, refl, ap, sym, ◌∙◌, subst, arith}
use Rattle.std.specs.Option.{option_map, option_map_or}
use Rattle.std.proofs.lemmas.Bool.{cases_Bool}
use Rattle.gc_graph.specs.Graph.{Object, lookup}
use Rattle.gc_graph.specs.Machine.{Roomy, roomy_step}
use Rattle.gc_graph.specs.declared.command.Op.{Op}
use Rattle.gc_graph.specs.declared.reply.Reply.{Reply}
use Rattle.gc_words.specs.Image.{Block, blocks, block_at, is_start, objects_of, object_of_block}
use Rattle.gc_words.specs.Spelling.{block_words, spelled, link_at}
use Rattle.gc_words.specs.Space.{SpaceWords, IsSpace, end_of, free_in, image_with}
use Rattle.gc_words.specs.Certificate.{Certified}
use Rattle.gc_words.proofs.Public.{length_relinked, object_found, relinked}
use Rattle.gc_heap.specs.Heap.{HeapWords, IsHeap, KeepsLinks, image_of, graph_in, roomy_in}
use Rattle.gc_model.specs.State.{Replica, Collection, pairs_of, replica_of}
use Rattle.gc_model.specs.Linked.{image_of_graph, linked_image, block_entry, old_links, new_links, old_image, new_image, LeadsTo}
use Rattle.gc_model.specs.Steps.{written, is_ready}
use Rattle.gc_model.specs.Members.{In}
use Rattle.gc_model.specs.Belonging.{IsDue, Belongs, BelongsBut}
use Rattle.gc_copy.specs.Words.{CollectionWords, IsCollection, replica_entry, collection_in, open_state, mark_of, Leads, LinksNothing, LinksReplicas, BelongsTo, BelongsToBut, HasNoLinks, new_root_words}
use Rattle.gc_model.proofs.Public.{in_map, replica_in, replicas_due, its_replicas, belongs_from, ready_parts, found_by_place, command_kept, certified}
use Rattle.gc_copy.proofs.Words.{heap_graph, heap_image, space_blocks, space_spelled, words_back}
use Rattle.gc_copy.proofs.Spaces.{in_start, new_objects_are}
use Rattle.gc_copy.proofs.OpenCollection.{link_above, replica_address}

-- ---- links

-- each link is exactly the replica's place, or 0
abbrev LinksExactly : HeapWords → Collection → Type 0
LinksExactly heap c = (a : ℕ) → is_start heap.space.words a ≡ true → link_at heap.space.words a ≡ old_links c a

-- equal objects with equal links have equal words
pub spelled_agree : (links others : ℕ → ℕ) (bs : List (ℕ × Block)) → ((e : ℕ × Block) → In e bs → links e.0 ≡ others e.0) → flat_map (λ e. block_words (links e.0) e.1) bs ≡ flat_map (λ (e : ℕ × Block). block_words (others e.0) e.1) bs
spelled_agree links others [] h = refl
spelled_agree links others (e ∷ bs) h = grind (arith, common_steps, spelled_agree links others bs (λ d k. h d (inr k)))

-- a space is spelled by its objects and these links
links_told : (space : SpaceWords) (links : ℕ → ℕ) → IsSpace space → ((e : ℕ × Block) → In e (blocks space.words) → link_at space.words e.0 ≡ links e.0) → space.words ≡ spelled links (map block_entry (objects_of space.words))
links_told space links is told =
    let same = space_blocks space is in
    space_spelled space is
    ∙ ap (spelled (link_at space.words)) same
    ∙ ap (λ ws. 0 ∷ ws) (spelled_agree (link_at space.words) links (blocks space.words) told)
    ∙ ap (spelled links) (sym same)

-- links without a mark are what they have above it
unmarked : (heap : HeapWords) (c : CollectionWords) → BelongsTo heap c → c.epoch ≡ 0 → LinksExactly heap (collection_in c)
unmarked heap c k plain a start = let above = link_above c.epoch (replica_of (collection_in c) a) (link_at heap.space.words a) (k.links a start) in omega (arith, above, plain)

pub old_shown : (heap : HeapWords) (c : CollectionWords) → IsHeap heap → BelongsTo heap c → c.epoch ≡ 0 → image_of heap ≡ old_image (open_state heap c) (collection_in c)
old_shown heap c is k plain = grind (arith, common_steps, links_told, unmarked, in_start, words_back)

pub idle_shown : (heap : HeapWords) → IsHeap heap → HasNoLinks heap → image_of heap ≡ image_of_graph heap.space.size (graph_in heap)
idle_shown heap is none = grind (arith, common_steps, links_told, in_start, words_back)

pub new_shown : (heap : HeapWords) (c : CollectionWords) → IsCollection c → BelongsTo heap c → image_with c.space (new_root_words heap (collection_in c)) ≡ new_image (open_state heap c) (collection_in c)
new_shown heap c is k =
    let told : (e : ℕ × Block) → In e (blocks c.space.words) → link_at c.space.words e.0 ≡ new_links (collection_in c) e.0
    = λ e l. sym (ap (λ (o : Option Replica). option_map_or (λ (r : Replica). r.original) o 0) (found_by_place (IsDue (collection_in c)) (graph_in heap).objects (collection_in c) k.belongs (replica_entry c.space.words e) (in_map (replica_entry c.space.words) e (blocks c.space.words) l))) in
    let all = links_told c.space (new_links (collection_in c)) is.space told ∙ ap (λ os. spelled (new_links (collection_in c)) (map block_entry os)) (sym (new_objects_are c)) in
    λ i. record { size = c.space.size; end = length (all i); words = all i; roots = new_root_words heap (collection_in c); raws = true }

pub shown_certified : (heap : HeapWords) (c : CollectionWords) → IsHeap heap → IsCollection c → BelongsTo heap c → is_ready (collection_in c) (graph_in heap) ≡ true
    → Certified (image_of heap) (image_with c.space (new_root_words heap (collection_in c))) (pairs_of (collection_in c))
shown_certified heap c heap_is is k ready =
    subst (λ x. Certified x (image_with c.space (new_root_words heap (collection_in c))) (pairs_of (collection_in c))) (sym (heap_image heap heap_is))
    (subst (λ x. Certified (linked_image (link_at heap.space.words) heap.space.size (graph_in heap)) x (pairs_of (collection_in c))) (sym (new_shown heap c is k))
    (certified (link_at heap.space.words) (new_links (collection_in c)) heap.space.size (free_in heap.space) (graph_in heap) (collection_in c) (heap_graph heap heap_is) k.belongs (is.space).size_high (ready_parts (collection_in c) (graph_in heap) ready)))

-- an object with a replica starts in the heap
starts : (heap : HeapWords) (c : CollectionWords) (a : ℕ) (r : Replica) → BelongsTo heap c → replica_of (collection_in c) a ≡ Some r → is_start heap.space.words a ≡ true
starts heap c a r k e =
    let l = replica_in (collection_in c) a r e in
    let ok = (k.belongs).replicas r l.0 in
    there (block_at heap.space.words a) ok.original (sym (object_found heap.space.words a) ∙ subst (λ n. lookup (graph_in heap).objects n ≡ Some ok.original) l.1 ok.found)
  where
    there : (o : Option Block) (object : Object) → option_map object_of_block o ≡ Some object → is_some o ≡ true
    there o object e = grind (arith, common_steps)

-- links lead to the replicas, in each epoch
pub linked : (heap : HeapWords) (c : CollectionWords) → BelongsTo heap c → IsCollection c → LeadsTo (link_at heap.space.words) (collection_in c)
linked heap c k is a r e =
    let range : (1 ≤ r.place) × (r.place < 4294967295) = replica_address (graph_in heap).objects c r is k.belongs (replica_in (collection_in c) a r e).0 in
    let mark : mark_of c.epoch ≡ c.epoch * 4294967296 = refl in
    let leads : link_at heap.space.words a ≡ mark_of c.epoch + r.place
    = subst (λ (o : Option Replica). Leads c.epoch (option_map (λ (r : Replica). r.place) o) (link_at heap.space.words a)) e (k.links a (starts heap c a r k e)) in
    omega (arith, leads, mark, range.0, range.1)

-- a heap's words with other links are a space with the same objects
pub other_links : (heap : HeapWords) → IsHeap heap → (links : ℕ → ℕ) → let words = (linked_image links heap.space.size (graph_in heap)).words in
    IsSpace (record heap.space { words = words }) × (blocks words ≡ blocks heap.space.words) × (length words ≡ length heap.space.words)
other_links heap is links =
    let space = is.space in
    let same = space_blocks heap.space space in
    subst (λ (entries : List (ℕ × Block)). IsSpace (record heap.space { words = spelled links entries }) × (blocks (spelled links entries) ≡ blocks heap.space.words) × (length (spelled links entries) ≡ length heap.space.words)) (sym same)
    ((relinked links heap.space space).0, (relinked links heap.space space).1, length_relinked links heap.space.words space.walked space.end_low space.reserved)

-- a heap's words with its links lowered are its image with the links that they then are
pub lowered_words : (heap : HeapWords) (links : ℕ → ℕ) (mark : ℕ) → IsHeap heap → ((a : ℕ) → is_start heap.space.words a ≡ true → link_at heap.space.words a - mark ≡ links a)
    → spelled (λ a. link_at heap.space.words a - mark) (blocks heap.space.words) ≡ (linked_image links heap.space.size (graph_in heap)).words
lowered_words heap links mark is told = grind (arith, common_steps, spelled_agree, in_start, space_blocks)

-- ---- commands

-- a place where no object starts has no replica
no_replica : (heap : HeapWords) (c : CollectionWords) (a : ℕ) → BelongsTo heap c → is_start heap.space.words a ≡ false → replica_of (collection_in c) a ≡ None
no_replica heap c a k none = from (replica_of (collection_in c) a) refl
  where
    from : (o : Option Replica) → replica_of (collection_in c) a ≡ o → replica_of (collection_in c) a ≡ None
    from None e = e
    from (Some r) e =
        let l = replica_in (collection_in c) a r e in
        let ok = (k.belongs).replicas r l.0 in
        let found : lookup (graph_in heap).objects a ≡ Some ok.original = subst (λ n. lookup (graph_in heap).objects n ≡ Some ok.original) l.1 ok.found in
        absurd (let no : None ≡ Some ok.original = sym (object_found heap.space.words a ∙ ap (option_map object_of_block) (absent (block_at heap.space.words a) none)) ∙ found in cc)
      where
        absent : (o : Option Block) → is_some o ≡ false → o ≡ None
        absent o e = grind (arith, common_steps)

pub links_kept : (heap new : HeapWords) (c : CollectionWords) → BelongsTo heap c → KeepsLinks heap.space.words new.space.words → LinksReplicas c.epoch new (collection_in c)
links_kept heap new c k kept a there = ⊎_elim
    (λ old. subst (Leads c.epoch (option_map (λ (r : Replica). r.place) (replica_of (collection_in c) a))) (sym (kept.stays a old)) (k.links a old))
    (λ young.
    let zero : link_at new.space.words a ≡ 0 = kept.fresh a young there in
    let low : link_at new.space.words a ≤ mark_of c.epoch = omega (arith, zero) in
    subst (λ (o : Option Replica). Leads c.epoch (option_map (λ (r : Replica). r.place) o) (link_at new.space.words a)) (sym (no_replica heap c a k young)) low)
    (cases_Bool (is_start heap.space.words a))

pub command_leaves : (heap new : HeapWords) (c : CollectionWords) (m : ℕ) (op : Op) (reply : Reply) → BelongsTo heap c → KeepsLinks heap.space.words new.space.words → new.mutators ≡ heap.mutators
    → roomy_step (roomy_in heap) m op (end_of heap.space) ≡ (reply, roomy_in new) → BelongsToBut (written (graph_in heap) m op reply) new c
command_leaves heap new c m op reply k kept mutators step = record {
  belongs = subst (λ (x : Reply × Roomy). BelongsBut (λ a i. In (a, i) (written (graph_in heap) m op x.0)) x.1.graph.objects (collection_in c)) step (command_kept (roomy_in heap) (collection_in c) m op (end_of heap.space) k.belongs);
  links = links_kept heap new c k kept;
  logs = k.logs ∙ sym mutators;
}

-- a command that writes no field leaves no difference
pub nothing_left : (heap : HeapWords) (c : CollectionWords) → BelongsToBut [] heap c → BelongsTo heap c
nothing_left heap c k = record { belongs = same; links = k.links; logs = k.logs }
  where
    same : Belongs (graph_in heap).objects (collection_in c)
    same = belongs_from (IsDue (collection_in c)) (graph_in heap).objects (collection_in c)
        (replicas_due (graph_in heap).objects c.space.size _ (IsDue (collection_in c)) (collection_in c).replicas (its_replicas _ (graph_in heap).objects (collection_in c) k.belongs) (λ r l i w d. ⊎_elim (λ x. x) (λ x. absurd x) d))
        (k.belongs).scan (k.belongs).entries (k.belongs).numbers

-- a command sets no link
pub no_links_kept : (heap new : HeapWords) → HasNoLinks heap → KeepsLinks heap.space.words new.space.words → HasNoLinks new
no_links_kept heap new none kept a there = ⊎_elim (λ t. kept.stays a t ∙ none a t) (λ f. kept.fresh a f there) (cases_Bool (is_start heap.space.words a))

pub nothing_linked : (heap new : HeapWords) (epoch : ℕ) → LinksNothing epoch heap → KeepsLinks heap.space.words new.space.words → LinksNothing epoch new
nothing_linked heap new epoch none kept a there = grind (arith, common_steps)
