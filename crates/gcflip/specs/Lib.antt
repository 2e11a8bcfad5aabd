pub mod CommandLine
pub mod Faults
pub mod Internal
pub mod Outcomes
pub mod Statuses
pub mod ThreadedRuns
pub mod Verdicts
