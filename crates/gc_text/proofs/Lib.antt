-- Lemmas about texts: decimals, tokens, lines, and how a text is read.
pub mod DecimalNumbers
pub mod FrontNumbers
pub mod TokenLemmas
pub mod ReadingSteps
pub mod LineLemmas
pub mod Public
