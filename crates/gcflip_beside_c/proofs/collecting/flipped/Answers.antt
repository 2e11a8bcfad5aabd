-- A flip carries over what the call says that it does.
use Rattle.std.proofs.Common.{sym, subst}
use Rattle.gc_concurrent.specs.Holders.{known_to}
use Rattle.gcflip_beside_c.specs.Addresses.{CarriesReachable, beginning_of_end}
use Rattle.gcflip_beside_c.specs.HandleStage.{stage_of, works}
use Rattle.gcflip_beside_c.specs.declared.end.End.{End}
use Rattle.gcflip_beside_c.proofs.collecting.flipped.Goals as goal

pub returns-in-Ok-clause-carried : goal.returns-in-Ok-clause-carried
returns-in-Ok-clause-carried g c = subst (λ (e : End). CarriesReachable (stage_of e) (beginning_of_end e) (works (known_to c.in-Ok.collector.copier))) (sym c.in-Holding.is) c.in-Ok.ensures.carried
