-- There are as many words as fields for them.
use Rattle.std.proofs.Common.{sym, ◌∙◌}
use Rattle.gc_collected.proofs.bytes.BytesNumberRow.count.Goals as goal

pub returns : goal.returns
returns c = λ sources few. c.fields_for.ensures ∙ sym (c.texts_are_read_again.ensures.fields c.args.self.now.bytes.now)
