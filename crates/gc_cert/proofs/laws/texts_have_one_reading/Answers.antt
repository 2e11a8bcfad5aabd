-- No text spells two pairs or has two first faults, none does both, and each does one of them.
use Rattle.gc_cert.proofs.OneReading.{one_value, no_fault, one_fault}
use Rattle.gc_cert.proofs.Total.{each_is_answered}
use Rattle.gc_cert.proofs.laws.texts_have_one_reading.Goals as goal

pub returns : goal.returns
returns c = record { value = one_value; good = no_fault; some = each_is_answered; fault = one_fault }
