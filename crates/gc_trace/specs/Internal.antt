-- Definitions that only private contracts and proofs use. They are not part of the public interface.
pub mod Faults
pub mod Fronts
pub mod Headings
pub mod Playing
pub mod Reading
pub mod Report
