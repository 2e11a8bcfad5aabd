-- The words that change are those of the text with these bytes.
use Rattle.gc_collected.proofs.WrittenTexts.{written_text}
use Rattle.gc_collected.proofs.laws.written_texts_are_read_again.Goals as goal

pub returns : goal.returns
returns c = λ old new m p at bytes text all within is step. let law = c.changed_texts_are_read_again.ensures in written_text (record { text = law.text; counted = law.counted; within = law.within }) old new m p at bytes text all within is step
