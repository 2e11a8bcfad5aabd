-- What other crates cite of this crate's proofs and internal definitions, passed on from one place. Declares nothing.
pub use Rattle.gc_heap.proofs.Commands.{Points, at_root, got, got_no_field, header_is, made_heap, named, other_words, points, put_done, put_no_field, put_refused, read_root, root_word, same_words, taken_heap, written_heap}
pub use Rattle.gc_heap.proofs.Steps.{made, took_root, with_new}
pub use Rattle.gc_heap.proofs.Views.{meaning, shown}
