pub mod InWords
pub mod Rows
pub mod Runs
pub mod Tables
pub mod Watch
