-- The bound on the length of a message, so that printing it does not allocate.
use Rattle.std.specs.Prelude.{◌≤◌, length}
use Rattle.gc_text.specs.declared.message.Form.{Form}
use Rattle.gc_text.specs.declared.message.Form.TheVariants.{Text, Numbered, NumberedTwice}

-- each fixed text has at most 40 bytes, so the message has at most 120
abbrev pub IsShort : Form → Type 0
IsShort (Text text) = length text.now ≤ 40
IsShort (Numbered text n) = length text.now ≤ 40
IsShort (NumberedTwice first m second n) = (length first.now ≤ 40) × (length second.now ≤ 40)
