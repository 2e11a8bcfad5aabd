-- Lemmas about receipts and the marks of their places, seats and their numbers, scripts, and the histories of runs in threads.
pub mod ReceiptMarks
pub mod SeatNumbers
pub mod ScriptEvents
pub mod Players
pub mod PossibleReceipts
pub mod SeatEntries
pub mod RunHistory
pub mod WorkedRows
