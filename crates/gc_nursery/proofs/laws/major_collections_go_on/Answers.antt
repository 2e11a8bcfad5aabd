-- A minor collection writes no old field but the remembered ones, so any other field still corresponds to its replica's.
use Rattle.gc_nursery.proofs.UnderWay.{under_way}
use Rattle.gc_nursery.proofs.laws.major_collections_go_on.Goals as goal

pub returns : goal.returns
returns c size front after young survivors roots new_roots remembered young_pairs replicas pairs due base standing minor old before = under_way size front after young survivors roots new_roots remembered young_pairs standing minor replicas pairs due old before base
