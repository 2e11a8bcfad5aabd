-- Lemmas about the arguments that `clap` accepts, the statuses that the program ends with, and a run in threads.
pub mod CommandLines
pub mod Statuses
pub mod ThreadedRuns
