-- Lemmas for proofs by hand: a vector apart from its words, and the machine values of the types of this crate.
pub mod Carving
pub mod Fields
pub mod Rights
