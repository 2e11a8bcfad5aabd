pub mod Entries
pub mod Forms
pub mod History
pub mod Internal
pub mod World
