-- What other crates cite of this crate's proofs and internal definitions, passed on from one place. Declares nothing.
pub use Rattle.gc_text.proofs.DecimalNumbers.{decimals, one_front}
pub use Rattle.gc_text.proofs.FrontNumbers.{begins}
pub use Rattle.gc_text.proofs.LineLemmas.{AllHaveNo, Cut, HasNo-decimal, HasNo-joined, HasNo-lacks, HasNo-name, cut, lacks, not_cut, one_cut, tokens_of-joined}
pub use Rattle.gc_text.proofs.ReadingSteps.{if_known, no_byte}
pub use Rattle.gc_text.proofs.TokenLemmas.{tokens_of}
