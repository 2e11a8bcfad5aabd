-- What other crates cite of this crate's proofs and internal definitions, passed on from one place. Declares nothing.
pub use Rattle.gc_monitor.proofs.Codes.{code_set}
pub use Rattle.gc_monitor.proofs.Fronts.{found_in_all, start_there}
pub use Rattle.gc_monitor.proofs.Looks.{set_true}
pub use Rattle.gc_monitor.proofs.Origins.{placed, told}
pub use Rattle.gc_monitor.proofs.Rows.{all_alike}
pub use Rattle.gc_monitor.proofs.RowsAgree.{agree_due, agree_old, agree_replica, code_is, codes_length, due_at, in_front, map_append, within_row}
pub use Rattle.gc_monitor.proofs.Seen.{all_done, all_of}
pub use Rattle.gc_monitor.proofs.ToldTruth.{anywhere_tells, both_tells, dropped_tells, flipped_tells, new_more_tells, none_replicated, old_more_tells, opening_tells, original_field, placed_by_tells, saw_tells}
pub use Rattle.gc_monitor.proofs.Walked.{true_stays}
pub use Rattle.gc_monitor.specs.Internal.Watch.{opening_watch}
