-- Lemmas about graphs that correspond and the replies that they give, the plain machine, and texts that are written piece by piece.
pub mod Matching
pub mod Lookups
pub mod Matched
pub mod Replies
pub mod Compose
pub mod Plains
pub mod Bounds
pub mod Stepping
pub mod SentText
pub mod Public
