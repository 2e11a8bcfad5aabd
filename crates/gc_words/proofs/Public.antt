-- What other crates cite of this crate's proofs and internal definitions, passed on from one place. Declares nothing.
pub use Rattle.gc_words.proofs.Blocks.{block_there, field_beside, field_block, none_at_end, placed_beside, placed_block}
pub use Rattle.gc_words.proofs.Certified.{corresponding, lookup_of_blocks, object_option, place_of}
pub use Rattle.gc_words.proofs.Ends.{end_cleared, end_written, fields_counted, free_placed}
pub use Rattle.gc_words.proofs.Faults.{Later, at_place_none, header_same, no_fault_of_certified, no_shape_fault, none_or, none_when, or_none, places_hold, same_header_of, shaped, when_none}
pub use Rattle.gc_words.proofs.Fields.{block_of_header, field_past, field_within}
pub use Rattle.gc_words.proofs.Graphs.{field_found, fresh_object, graph_empty, graph_field, graph_link, graph_placed, graph_root, meaning_back, meant, object_found, root_value, value_read_back, word_read_back}
pub use Rattle.gc_words.proofs.Links.{link_beside_field, link_cleared, link_placed, link_placed_beside, link_written_beside, link_written_there, objects_apart}
pub use Rattle.gc_words.proofs.MarkBits.{no_mark}
pub use Rattle.gc_words.proofs.References.{closed_empty, closed_field, closed_field_read, closed_objects, closed_placed, closed_root, closed_root_read, placed_reference}
pub use Rattle.gc_words.proofs.Spelled.{cleared, laid_out, laid_out_words, length_relinked, link_spelled, relinked, spelled_words, walk_spelled}
pub use Rattle.gc_words.proofs.Starts.{StandsAt, ok_is, stands, stands_in, walked_blocks}
pub use Rattle.gc_words.proofs.Steps.{Behind, at_end, behind, has_next, has_start_from, same_fault, step, take_add}
pub use Rattle.gc_words.proofs.Walks.{BlockHasField, First, Walked, fields_in, first, header_counted, object_walked, objects_set, read_back, same_walk, starts_above, walk_field, walk_placed, written_back}
pub use Rattle.gc_words.proofs.Writes.{CanPlaceBlock, block_placed, can_place_fresh, field_read, field_written, header_read, link_written, none_of, placed, some_of, space_of}
pub use Rattle.gc_words.specs.Internal.Spelling.{IsBlock, LaidOut}
pub use Rattle.gc_words.specs.Internal.Walking.{StandsIn, block_from, walk_from, walk_on}
