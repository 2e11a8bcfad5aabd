-- What other crates cite of this crate's proofs and internal definitions, passed on from one place. Declares nothing.
pub use Rattle.gc_copy.proofs.Flipping.{HasObjectsOf, flip_is, flipped_sound}
pub use Rattle.gc_copy.proofs.LinkedImages.{command_leaves, links_kept, lowered_words, new_shown, nothing_linked, other_links}
pub use Rattle.gc_copy.proofs.Mutating.{idle_left, open_left, still_unlinked}
pub use Rattle.gc_copy.proofs.OpenCollection.{link_above, opened, replica_object}
pub use Rattle.gc_copy.proofs.Opening.{opening_with_ok}
pub use Rattle.gc_copy.proofs.RootWalks.{all_moved, moved_first, moved_to, value_at}
pub use Rattle.gc_copy.proofs.Scanned.{Moves, all_opened, does, having, opened_once, scanned_on, scanned_once, scans_are}
pub use Rattle.gc_copy.proofs.Spaces.{in_start, new_end_is, replica_start, space_placed, space_written}
pub use Rattle.gc_copy.proofs.StepRuns.{one_step, repeats_last, run_goes_on}
pub use Rattle.gc_copy.proofs.Words.{block_found_in, heap_graph, space_spelled, word_back, words_back, words_numbers}
