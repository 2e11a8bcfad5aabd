-- Definitions that only private contracts and proofs use. They are not part of the public interface.
pub mod Beside
pub mod CollectedHeap
pub mod Flip
pub mod Found
pub mod Follows
pub mod Given
pub mod KnownRoots
pub mod Knows
pub mod Numbered
pub mod Rooms
pub mod Sources
pub mod Stays
pub mod Together
pub mod Values
