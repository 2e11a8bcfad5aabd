pub mod Entries
pub mod Internal
pub mod Words
pub mod Opening
pub mod StepRuns
pub mod Twins
