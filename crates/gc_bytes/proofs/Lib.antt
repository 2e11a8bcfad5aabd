-- Lemmas about digits, words and texts.
mod Bits
mod Changed
mod ChangedVectors
mod Digits
mod Joined
mod Orders
mod Overwritten
mod Spelled
mod Vectors
