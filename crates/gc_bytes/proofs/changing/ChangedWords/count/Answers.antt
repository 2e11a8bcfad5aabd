-- As many as there are bytes of in the list.
use Rattle.std.proofs.Common.{length, ap, sym, ◌∙◌}
use Rattle.gc_bytes.proofs.Changed.{changed_length}
use Rattle.gc_bytes.proofs.changing.ChangedWords.count.Goals as goal

pub returns : goal.returns
returns c = let i = c.self.inside in sym (changed_length i.first i.last i.skip i.bytes.now) ∙ ap length c.self.view_is
