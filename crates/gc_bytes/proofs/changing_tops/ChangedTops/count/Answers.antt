-- As many as there are in the list.
use Rattle.std.proofs.Common.{length, ap, sym, ◌∙◌}
use Rattle.gc_bytes.proofs.ChangedVectors.{length-changed_tops_in}
use Rattle.gc_bytes.proofs.changing_tops.ChangedTops.count.Goals as goal

pub returns : goal.returns
returns c = let i = c.self.inside in sym (length-changed_tops_in i.first i.last i.skip i.words.now) ∙ ap length c.self.view_is
