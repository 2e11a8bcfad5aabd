-- A search from the first root to the last finds the target that the model's step would replicate.
use Rattle.std.proofs.Common.{length, ◌∙◌, sym, ap}
use Rattle.std.proofs.lemmas.List.{length-map}
use Rattle.gc_words.specs.Word.{value_of}
use Rattle.gc_heap.specs.Heap.{graph_in}
use Rattle.gc_copy.specs.Words.{collection_in}
use Rattle.gc_copy.proofs.RootWalks.{search_finds}
use Rattle.gc_copy.proofs.collection.Collection.first_root.Goals as goal

pub returns-clause-target : goal.returns-clause-target
returns-clause-target c =
    search_finds (collection_in c.args.self.now) (graph_in c.args.heap.now) (length c.roots.result.now) c.missing_root.result
    (ap length c.roots.ensures.value ∙ sym (length-map c.args.heap.now.roots value_of)) c.missing_root.ensures.none c.missing_root.ensures.first
