pub mod Beside
pub mod Counts
pub mod Frames
pub mod Internal
pub mod Pace
pub mod Turns
pub mod Work
