-- Definitions that only private contracts and proofs use. They are not part of the public interface.
pub mod Lending
pub mod Unflipped
