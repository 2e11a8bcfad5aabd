pub mod Twins
pub mod Looks
pub mod Internal
