-- Lemmas about a collection on words: its spaces, links and logs, each of its steps, and the commands that come between.
pub mod Beginning
pub mod Words
pub mod Spaces
pub mod OpenCollection
pub mod RootWalks
pub mod Logs
pub mod Segments
pub mod Scanning
pub mod Starts
pub mod StepRuns
pub mod Scanned
pub mod Applying
pub mod ObjectWalks
mod FieldWords
pub mod Flipping
pub mod LinkedImages
pub mod Dropping
pub mod Lowering
pub mod Moves
pub mod Mutating
pub mod Opening
pub mod LargeSpaces
pub mod Public
