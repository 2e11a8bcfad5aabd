-- Lemmas about the box that a handle owns, about safepoints, about flips for which a checker vouched, and about whole runs.
pub mod EndBox
pub mod Stopping
pub mod Vouching
pub mod Frames
pub mod Whole
