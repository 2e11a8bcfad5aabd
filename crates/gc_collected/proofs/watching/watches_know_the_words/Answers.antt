-- A field that is not due is up to date, and the words of such a field correspond.
use Rattle.gc_collected.proofs.Monitor.Words.{watches}
use Rattle.gc_collected.proofs.watching.watches_know_the_words.Goals as goal

pub returns : goal.returns
returns c = record { words = λ heap x w heap_is is k h. watches heap x w heap_is is k h }
