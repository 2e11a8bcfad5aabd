-- What other crates cite of this crate's proofs and internal definitions, passed on from one place. Declares nothing.
pub use Rattle.gc_graph.proofs.Bounds.{all_push}
pub use Rattle.gc_graph.proofs.Compose.{composed, joined}
pub use Rattle.gc_graph.proofs.Lookups.{lookup_set_none, paired_cases}
pub use Rattle.gc_graph.proofs.Matched.{AlikeAfter, matched_of, step_alike}
pub use Rattle.gc_graph.proofs.Matching.{Alike, Matched, ObjectsAlike, nils, numbers, partners, without_objects}
pub use Rattle.gc_graph.proofs.Replies.{fresh_unused, matched_itself, own_pairs}
pub use Rattle.gc_graph.proofs.SentText.{front_sent, nothing_sent, sent_at_last, sent_then}
pub use Rattle.gc_graph.proofs.Stepping.{in_place, step_roots, with_free}
pub use Rattle.gc_graph.specs.Internal.Machine.{make_object}
