-- All numbers are places of roots exactly if the remaining ones are.
use Rattle.std.proofs.Common.{◌↔◌, ◌<◌, drop}
use Rattle.std.specs.List.{AllByRecursion}
use Rattle.gc_in_c.proofs.telling.are_places.Given as goal

-- all numbers are places if the remaining ones are
abbrev pub invariant-loop-place : goal.invariant-loop-place
invariant-loop-place l = AllByRecursion (λ p. p < l.roots) l.places ↔ AllByRecursion (λ p. p < l.roots) (drop l.place-index l.places)
