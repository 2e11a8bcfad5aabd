-- Definitions that only private contracts and proofs need. They promise nothing to callers.
pub mod Codes
pub mod Machine
pub mod PlainMachine
pub mod Slots
