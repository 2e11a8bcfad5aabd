-- Definitions that only private contracts and proofs use. They are not part of the public interface.
pub mod Faults
pub mod Marks
pub mod Players
pub mod Scripts
