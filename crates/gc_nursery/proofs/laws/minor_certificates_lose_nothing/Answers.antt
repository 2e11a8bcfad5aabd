-- The whole heap's certificate, restricted to young objects, roots and remembered fields, is the minor collection's.
use Rattle.gc_nursery.proofs.Back.{back}
use Rattle.gc_nursery.proofs.laws.minor_certificates_lose_nothing.Goals as goal

pub returns : goal.returns
returns c size front after young survivors roots new_roots remembered pairs standing candidate certified = back size front after young survivors roots new_roots remembered pairs standing candidate certified
