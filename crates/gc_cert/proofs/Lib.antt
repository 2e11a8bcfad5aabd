-- Lemmas about the pair text: its lines and sections, that each text has one reading, and how it is read and printed.
pub mod SameLines
pub mod OneReading
pub mod TextLimit
pub mod RowProofs
pub mod Stops
pub mod Forms
pub mod LineForms
pub mod Parts
pub mod Total
pub mod PrintedLines
pub mod ReadPieces
