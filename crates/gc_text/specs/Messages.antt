-- The text of a message, as contracts see it.
use Rattle.std.specs.Prelude.{ℕ, List, ◌++◌}
use Rattle.std.specs.Fmt.{decimal}
use Rattle.gc_text.specs.declared.message.Form.{Form}
use Rattle.gc_text.specs.declared.message.Form.TheVariants.{Text, Numbered, NumberedTwice}

abbrev pub text_of_form : Form → List ℕ
text_of_form (Text text) = text.now
text_of_form (Numbered text n) = text.now ++ decimal n
text_of_form (NumberedTwice first m second n) = (first.now ++ decimal m) ++ (second.now ++ decimal n)
