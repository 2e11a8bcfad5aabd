-- The law about encoded images gives a minor collection's certificate, and the next one that of the whole heap.
use Rattle.std.proofs.Common.{◌++◌, length, map}
use Rattle.gc_nursery.specs.Minor.{word_of_field, IsMinor}
use Rattle.gc_nursery.proofs.laws.encoded_certificates_certify_whole_heaps.Goals as goal

pub returns : goal.returns
returns c code size old_size new_size front after young survivors roots new_roots remembered pairs standing candidate fits can new_can certified =
    let minor : IsMinor size front after young survivors roots new_roots remembered pairs = record {
      certified = c.encoded_certificates_are_enough.ensures code old_size new_size (length front) young survivors (map (word_of_field front) remembered ++ roots) (map (word_of_field after) remembered ++ new_roots) pairs
          standing.shaped.end_low standing.walked candidate.walked can new_can candidate.young certified;
      rewritten = candidate.rewritten;
      shaped = candidate.shaped;
      fits = fits;
    } in
    c.minor_certificates_certify_whole_heaps.ensures.replicated size front after young survivors roots new_roots remembered pairs standing minor
