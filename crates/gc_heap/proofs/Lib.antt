-- Lemmas about a heap's commands on words: what each leaves and replies, objects to be filled, numbers and links.
pub mod Commands
pub mod Filling
pub mod Links
pub mod Numbers
pub mod Steps
pub mod Views
pub mod Public
