-- A raw object's fields are numbers, which any object takes.
use Rattle.std.proofs.Common.{sym, ◌∙◌}
use Rattle.gc_collected.proofs.Copies.{raw_taken}
use Rattle.gc_collected.proofs.copying.takes.Goals as goal

pub returns-then-is_raw : goal.returns-then-is_raw
returns-then-is_raw c = raw_taken c.args.target c.args.source c.args.words.now (sym c.is_raw-2.ensures ∙ c.if-is_raw.true)
