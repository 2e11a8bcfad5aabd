pub mod Answers
pub mod Images
pub mod Verdicts
pub mod Version
