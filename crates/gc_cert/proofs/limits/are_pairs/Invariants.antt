-- The pairs so far have addresses in range.
use Rattle.std.proofs.Common.{map, take}
use Rattle.std.specs.List.{AllByRecursion}
use Rattle.gc_words.specs.Views.{addresses}
use Rattle.gc_cert.specs.Grammar.{AreAddresses}
use Rattle.gc_cert.proofs.limits.are_pairs.Given as goal

abbrev pub invariant-loop-pair : goal.invariant-loop-pair
invariant-loop-pair l = AllByRecursion AreAddresses (map addresses (take l.pair-index l.pairs))
