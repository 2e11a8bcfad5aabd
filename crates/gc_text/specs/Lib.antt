pub mod Fronts
pub mod Internal
pub mod Lines
pub mod Messages
pub mod Reading
