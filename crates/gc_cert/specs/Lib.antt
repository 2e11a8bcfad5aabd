pub mod Counts
pub mod FaultTexts
pub mod Faults
pub mod Grammar
pub mod Internal
pub mod Rows
pub mod Views
