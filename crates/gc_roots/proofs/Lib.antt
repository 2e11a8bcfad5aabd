-- The proofs of roots with twins, by their subjects.
pub mod Marks
pub mod Rows
pub mod Stay
pub mod Twins
pub mod Turns
pub mod Looks
pub mod InRow
pub mod Counted
pub mod Compared
pub mod Alike
pub mod Public
