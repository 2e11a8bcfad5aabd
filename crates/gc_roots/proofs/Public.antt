-- What other crates cite of this crate's proofs and internal definitions, passed on from one place. Declares nothing.
pub use Rattle.gc_roots.proofs.Counted.{nil_asks, taken_asks}
pub use Rattle.gc_roots.proofs.Looks.{looked_compares}
pub use Rattle.gc_roots.proofs.Turns.{expired_keeps, extra_known, opening_keeps}
pub use Rattle.gc_roots.proofs.Twins.{begun_keeps, root_command, slot_command, step_keeps}
