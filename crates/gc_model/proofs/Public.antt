-- What other crates cite of this crate's proofs and internal definitions, passed on from one place. Declares nothing.
pub use Rattle.gc_model.proofs.Carried.{carries_from, carries_only_live}
pub use Rattle.gc_model.proofs.Commands.{Evolves, WrittenBy, field_stays, step_evolves, unchanged}
pub use Rattle.gc_model.proofs.Flips.{certified, corresponding_graphs, field_words_of_corresponding, flips, pairs_once, pairs_rise}
pub use Rattle.gc_model.proofs.Heap.{end_push, laid_apart, laid_end_is, laid_push, laid_range, lookup_in, lookup_laid, lookup_left, lookup_written, refers_map, set_from, written_entry, written_get, written_kind, written_length, written_raw}
pub use Rattle.gc_model.proofs.Images.{IsAddress, block_found, end_is, laid_out, named_address, words_laid}
pub use Rattle.gc_model.proofs.Links.{found_by_name, found_by_place, same_original, write_is_set}
pub use Rattle.gc_model.proofs.Lists.{all_from_in, distinct_push, find_exists, find_some, get_in, get_past, get_set_other, get_set_same, get_within, in_get, in_left, in_map, in_map_from, in_push, in_replicate, in_right, map_same}
pub use Rattle.gc_model.proofs.Numbers.{small_corresponding}
pub use Rattle.gc_model.proofs.Progress.{command_raises, ends_grow, ends_within, left_bounded, useful_ranges}
pub use Rattle.gc_model.proofs.Replicas.{AreReplicas, HasReplica, IsPlace, fresh_raw, in_paired, moved_corresponds, pair, paired_in, pairs_written, place_written, placed, refers_corresponding, replica_exists, replica_in, replicas_due, replicas_end, replicas_evolve, with_written_length, with_written_pair}
pub use Rattle.gc_model.proofs.Room.{has_room, opened_has_room}
pub use Rattle.gc_model.proofs.RootsStay.{all_replicated, collect_stays, first_missing, flip_count, flip_nil, mutate_stays, root_kept, roots_counted}
pub use Rattle.gc_model.proofs.Runs.{Reached, event_keeps, opening_ok, root_event_keeps, root_events, root_events_keep, run_keeps}
pub use Rattle.gc_model.proofs.Sizes.{event_within, opening_within, run_within, wider_event, wider_events, wider_step}
pub use Rattle.gc_model.proofs.StateLaws.{command_kept, field_there, never_refused, passes_where_ready}
pub use Rattle.gc_model.proofs.Steps.{Grown, IsReady, begun_belongs, belongs_but, belongs_from, belongs_noted, bringing, bringing_keeps, collect_keeps, due_at_end, its_replicas, mutate_keeps, new_heap, no_replica, none_due, open_keeps, placing, placing_keeps, ready_parts, replica_field, roots_replicated, same_place, steps_stay, unnamed, unreplicated_some}
pub use Rattle.gc_model.proofs.Unused.{end_unused}
