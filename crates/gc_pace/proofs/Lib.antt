-- Lemmas about the entries in logs, about useful steps, the work and the memory that they leave, and about work at a pace.
mod Bounded
mod Cycles
mod Flips
pub mod FormerRuns
pub mod Joined
mod Performed
pub mod KeepsUp
pub mod Left
pub mod Logged
pub mod PacedCalls
pub mod Paid
pub mod Repeats
pub mod Runs
pub mod StepsUseful
pub mod Turns
pub mod Useful
mod Waiting
mod Waits
