-- The heap's words are spelled by its objects and links, each object is named by its start, and none starts at the end.
use Rattle.gc_copy.proofs.Words.{heap_graph, heap_image}
use Rattle.gc_model.proofs.Public.{end_unused}
use Rattle.gc_copy.proofs.laws.heaps_have_addresses_as_names.Goals as goal

pub returns : goal.returns
returns c = record { graph = heap_graph; image = heap_image; unused = end_unused }
