-- A collection that has just begun belongs to its heap.
use Rattle.std.proofs.Common.{◌≡◌, ℕ, ◌≤◌, List, [], map, length, replicate, sym, ◌∙◌, ap, subst}
use Rattle.std.specs.Option.{option_map}
use Rattle.std.proofs.lemmas.List.{length-map, length-replicate}
use Rattle.gc_words.specs.Spelling.{link_at}
use Rattle.gc_words.specs.Space.{SpaceWords, empty_space}
use Rattle.gc_heap.specs.Heap.{HeapWords, graph_in}
use Rattle.gc_model.specs.State.{Replica, Collection, replica_of}
use Rattle.gc_model.specs.Steps.{fresh_collection}
use Rattle.gc_model.specs.Belonging.{Belongs}
use Rattle.gc_copy.specs.Words.{Log, replicas_in, entries_of, collection_in, Leads, LinksNothing, BelongsTo}
use Rattle.gc_model.proofs.Public.{begun_belongs}
use Rattle.gc_copy.proofs.Words.{words_numbers}

pub begun : (heap : HeapWords) (space : SpaceWords) (logs : List Log) (size : ℕ) (epoch : ℕ) → LinksNothing epoch heap → 1 ≤ size → space ≡ empty_space size → map entries_of logs ≡ replicate heap.mutators []
    → BelongsTo heap (record { space = space; logs = logs; scan_place = 1; scan_field = 0; epoch = epoch })
begun heap space logs size epoch none low empty entries = record {
  belongs = subst (Belongs (graph_in heap).objects) (sym same) (begun_belongs (graph_in heap).objects heap.mutators size (words_numbers heap.space.words) low);
  links = λ a start. subst (λ (c : Collection). Leads epoch (option_map (λ (r : Replica). r.place) (replica_of c a)) (link_at heap.space.words a)) (sym same) (none a start);
  logs = sym (length-map logs entries_of) ∙ (ap length entries ∙ length-replicate heap.mutators []);
}
  where
    same : collection_in (record { space = space; logs = logs; scan_place = 1; scan_field = 0; epoch = epoch }) ≡ fresh_collection heap.mutators size
    same = λ i. record { size = (empty i).size; replicas = replicas_in (empty i).words; logs = entries i; scan_place = 1; scan_field = 0 }
