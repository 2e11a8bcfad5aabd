-- Definitions that only private contracts and proofs need. They promise nothing to callers.
pub mod Meetings
pub mod Starts
pub mod Tables
pub mod Visits
