pub mod Closing
pub mod FaultTexts
pub mod Internal
pub mod Receipts
pub mod Rows
pub mod Scripts
pub mod Seats
