-- Definitions that only private contracts and proofs need. They promise nothing to callers.
pub mod Decimals
pub mod Messages
pub mod Starting
