-- There are as many fields by places.
use Rattle.std.proofs.Common.{None, sym, ◌∙◌}
use Rattle.gc_collected.proofs.Sources.{sources_counted}
use Rattle.gc_collected.proofs.mixed.SourcesByPlaceValueRow.count.Goals as goal

pub returns : goal.returns
returns g c = c.count.ensures ∙ sym (sources_counted (g.R.SourceRow.sources c.args.self.now.fields.now) c.args.self.now.m c.args.self.now.t None)
