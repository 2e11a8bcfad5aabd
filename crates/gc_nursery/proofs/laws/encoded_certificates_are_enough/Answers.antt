-- A code is a number for each old object, so words correspond in the encoded images just as in a minor collection.
use Rattle.gc_nursery.proofs.Encoded.{enough}
use Rattle.gc_nursery.proofs.laws.encoded_certificates_are_enough.Goals as goal

pub returns : goal.returns
returns c code size new_size base young survivors roots new_roots pairs low ok new_ok can new_can high certified = enough code base low size new_size young survivors roots new_roots pairs ok new_ok can new_can high certified
