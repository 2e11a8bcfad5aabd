-- Lemmas about heaps with young objects: their words and fronts, what keeps them standing, encoded images, and major collections.
pub mod Lists
pub mod Fronts
pub mod Whole
pub mod Stands
pub mod Complete
pub mod Encoded
pub mod Commands
pub mod Back
pub mod UnderWay
