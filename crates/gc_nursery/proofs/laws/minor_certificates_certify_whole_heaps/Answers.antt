-- An old object is its own replica, because its fields correspond: the remembered ones as roots, the others as they are.
use Rattle.gc_nursery.specs.Minor.{whole, identity}
use Rattle.std.proofs.Common.{◌++◌}
use Rattle.gc_nursery.proofs.Whole.{certified}
use Rattle.gc_nursery.proofs.Stands.{stands}
use Rattle.gc_nursery.proofs.laws.minor_certificates_certify_whole_heaps.Goals as goal

pub returns-clause-certified : goal.returns-clause-certified
returns-clause-certified c size front after young survivors roots new_roots remembered pairs standing minor = certified size front after young survivors roots new_roots remembered pairs standing minor

pub returns-clause-replicated : goal.returns-clause-replicated
returns-clause-replicated c size front after young survivors roots new_roots remembered pairs standing minor =
    c.certified_is_replicated.ensures (whole size front young roots) (whole size after survivors new_roots) (identity front ++ pairs)
    (certified size front after young survivors roots new_roots remembered pairs standing minor)

pub returns-clause-stands : goal.returns-clause-stands
returns-clause-stands c size front after young survivors roots new_roots remembered pairs standing minor all = stands size front after young survivors roots new_roots remembered pairs standing minor all
