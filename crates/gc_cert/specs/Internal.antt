-- Definitions that only private contracts and proofs need. They promise nothing to callers.
pub mod Faults
pub mod Grammar
pub mod PrintedLines
pub mod Reading
pub mod Sections
