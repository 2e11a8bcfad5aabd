pub mod Commands
pub mod ExtraRoots
pub mod Filling
pub mod Heap
pub mod Internal
pub mod Places
pub mod Raws
