-- Definitions that only private contracts and proofs need. They promise nothing to callers.
pub mod Entries
pub mod Segments
pub mod Words
