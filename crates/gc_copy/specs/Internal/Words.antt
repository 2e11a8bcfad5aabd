-- What private steps leave unchanged in a heap and in a collection, and words whose targets have replicas.
use Rattle.std.specs.Prelude.{◌≡◌, ℕ, ◌-◌, ◌%◌, ◌^◌, ◌<◌, if◌then◌else◌, IsTrue, List, [], map, drop, length, replicate}
use Rattle.gc_words.specs.Word.{value_of}
use Rattle.gc_words.specs.Image.{Block, fresh_block, blocks, header_at, is_start}
use Rattle.gc_words.specs.Spelling.{link_at}
use Rattle.gc_words.specs.Space.{SpaceWords, IsSpace}
use Rattle.gc_heap.specs.Heap.{HeapWords, roomy_in}
use Rattle.gc_model.specs.State.{Collection}
use Rattle.gc_model.specs.Staying.{HasReplicaOf}
use Rattle.gc_copy.specs.Words.{Log, CollectionWords, entries_of, mark_of}

abbrev pub HasReplicaWord : Collection → ℕ → Type 0
HasReplicaWord c word = HasReplicaOf c (value_of word)

-- an object's replica when it is placed: a raw object is copied whole; any other gets field words 0
abbrev pub replica_block : Block → Block
replica_block b = if b.header.raw then b else fresh_block b.header

-- the heap is unchanged except for its links
pub record KeepsGraph (old new : HeapWords) : Type 0 where
  pub mutators : new.mutators ≡ old.mutators
  pub size : new.space.size ≡ old.space.size
  pub roots : new.roots ≡ old.roots
  pub heap : roomy_in new ≡ roomy_in old
  pub blocks : blocks new.space.words ≡ blocks old.space.words

-- the collection is unchanged except for the words of its new space
pub record KeepsRest (old new : CollectionWords) : Type 0 where
  pub size : new.space.size ≡ old.space.size
  pub logs : new.logs ≡ old.logs
  pub scan_place : new.scan_place ≡ old.scan_place
  pub scan_field : new.scan_field ≡ old.scan_field
  pub epoch : new.epoch ≡ old.epoch

-- each object that starts in the space still starts there, with the same header and the same link
pub record KeepsStarts (old new : SpaceWords) : Type 0 where
  pub headers : (p : ℕ) → IsTrue (is_start old.words p) → header_at new.words p ≡ header_at old.words p
  pub links : (p : ℕ) → IsTrue (is_start old.words p) → link_at new.words p ≡ link_at old.words p

-- By address, the place to which a link of this epoch leads in these words, or 0: the low 32 bits of what it has above the mark.
abbrev pub moves_of : ℕ → List ℕ → List ℕ
moves_of epoch words = map (λ link. (link - mark_of epoch) % 2 ^ 32) (drop 1 words)

-- a space, and at most 255 empty logs
pub record IsRoom (space : SpaceWords) (each : List Log) : Type 0 where
  pub shaped : IsSpace space
  pub logs : map entries_of each ≡ replicate (length each) []
  pub few : length each < 256
