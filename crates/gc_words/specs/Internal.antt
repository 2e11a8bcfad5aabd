-- Definitions that only private contracts and proofs need. They promise nothing to callers.
pub mod Spelling
pub mod Walking
