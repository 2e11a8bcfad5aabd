-- Tables that tell the truth hold a watch of the words, so if they have seen all, the certificate holds.
use Rattle.gc_monitor.proofs.ToldTruth.{sound, sound_watched}
use Rattle.gc_monitor.proofs.telling.a_yes_is_sound.Goals as goal

pub returns : goal.returns
returns c = record { told = sound; watched = sound_watched }
