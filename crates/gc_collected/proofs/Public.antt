-- What other crates cite of this crate's proofs and internal definitions, passed on from one place. Declares nothing.
pub use Rattle.gc_collected.proofs.LegalRuns.{run_is_legal}
