-- What other crates cite of this crate's proofs and internal definitions, passed on from one place. Declares nothing.
pub use Rattle.gc_check.proofs.Joined.{pair_of_second}
pub use Rattle.gc_check.proofs.Paths.{paths_agree}
pub use Rattle.gc_check.proofs.Sizes.{small_fault}
