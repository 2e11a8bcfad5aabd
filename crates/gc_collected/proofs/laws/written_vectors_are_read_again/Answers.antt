-- The rows that are written are those of the vector with these words.
use Rattle.gc_collected.proofs.WrittenVectors.{written_vector}
use Rattle.gc_collected.proofs.laws.written_vectors_are_read_again.Goals as goal

pub returns : goal.returns
returns c = λ old new m p at words vector all within is step. let law = c.changed_vectors_are_read_again.ensures in written_vector (record { words = law.words; within = law.within }) old new m p at words vector all within is step
